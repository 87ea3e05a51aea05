-- What each path through a function of parser.rt gives: descent's rules of Paths and PathsCalls, at the states that the code's cursors and
-- arrays stand for. Assumes nothing.
use mathlib.Core.Path.{◌≡◌, refl, ap, ap₂, sym, subst, ◌∙◌}
use mathlib.Core.Bool.{Bool, true, false}
use mathlib.Core.List.{List, []}
use Prim.Native.Nat.{ℕ, suc, ◌+◌, ◌*◌, ◌-◌, ◌≤◌, ◌<◌}
use native.Mathlib.Numerals.{add-one}
use native.Mathlib.Omega.{arith}
use lib.Dec.{eqb, lit<}
use lib.ListN.{length, set}
use borrow.Author.Tests.{eq-eqb, ne_eqb, eqb-true}
use Rattle.language.specs.Limits.{text_parts, open_marks}
use Rattle.grammar.specs.Tokens.{when}
use Rattle.layout.specs.Memory.{Node, node_with}
use Rattle.layout.specs.Nodes.{function_kind}
use Rattle.descent.specs.Cursor as C
use Rattle.descent.specs.Descent as D
use Rattle.descent.specs.Descent.{State, moved, Mode, in_expression, in_calls, in_arguments, in_more, first_given, next_given}
use Rattle.descent.specs.Fit as F
use Rattle.descent.specs.Fit.{Fit}
use Rattle.descent.specs.FitRuns as G
use Rattle.descent.specs.Preserved.{depth_of, passes}
use Rattle.descent.specs.Moves.{Moved, behind-some, moved-need, moved-let}
use Rattle.descent.specs.Paths as Paths
use Rattle.descent.specs.Paths.{Reads}
use Rattle.descent.specs.PathsCalls as PathsCalls
use Rattle.descent.specs.Theorems.{into}
use Rattle.steps.specs.declared.cursor.Cursor.{Cursor}
use Rattle.steps.specs.declared.scratch.Call.{Call}
use Rattle.std.specs.Prelude.{Result, Ok, Err, IfOk}
use Rattle.language.specs.declared.refusals.Refused.{Refused}
use Rattle.language.specs.declared.refusals.Refusal.{Refusal}
use Rattle.language.specs.declared.refusals.Refusal.TheVariants as R
use Rattle.language.specs.declared.refusals.Refusal.TheVariants.{Ungrammatical}
use Rattle.language.specs.Refusals.{refusal_number, text_refusal}
use Rattle.language.specs.RefusalsLaws.{refusal-some}
use Rattle.grammar.specs.Reading.{IsTextRefusal, refused as refused_text}
use Rattle.grammar.specs.Machine.{read_text}
use Rattle.grammar.proofs.Theorems.{text-number}
use Rattle.layout.specs.Held.{text_words}
use Rattle.lexer.specs.declared.tokens.Lexed.{Lexed}
use Rattle.lexer.specs.declared.tokens.TokenKind.{TokenKind}
use Rattle.lexer.specs.declared.tokens.TokenKind.TheVariants as K
use Rattle.reader.specs.declared.answer.Read.{Read}
use Rattle.lexer.specs.Lexing.{kind_number, lex_at, tokens_from}
use Rattle.steps.specs.Cursors.{cursor_of, state_of, refused_at, fault_of, passed_or_refused, passing, Comes, KeepsRefusal, Leaves}
use Rattle.steps.specs.CursorsLaws.{at-token, not-token, refused-number, ungrammatical-here, judged-here, passed-kept, kept-on, left-is, left-refused}
use Rattle.steps.specs.Scratch.{Wrote, WroteFor, WroteCall, NameAhead, NumberAhead, ShutAhead, Recorded, call_of}
use Rattle.reader.specs.Parsing.{IsClear, Ready, ReadyAt, Parses, Continues}
use Rattle.reader.specs.Results.{answer_of, no_binders, ReadsInto}

-- ---- one mark more, one binder more
more-marks : {w : Bool} {marks depth : ℕ} (Q : Mode → Type 0) → Q (in_expression w (marks + 1) depth) → Q (in_expression w (suc marks) depth)
more-marks {w} {marks} {depth} Q x = subst (λ (m : ℕ). Q (in_expression w m depth)) (add-one marks) x

less-marks : {w : Bool} {marks depth : ℕ} (Q : Mode → Type 0) → Q (in_expression w (suc marks) depth) → Q (in_expression w (marks + 1) depth)
less-marks {w} {marks} {depth} Q x = subst (λ (m : ℕ). Q (in_expression w m depth)) (sym (add-one marks)) x

more-both : {w : Bool} {marks depth : ℕ} (Q : Mode → Type 0) → Q (in_expression w (marks + 1) (depth + 1)) → Q (in_expression w (suc marks) (suc depth))
more-both {w} {marks} {depth} Q x = more-marks Q (subst (λ (d : ℕ). Q (in_expression w (marks + 1) d)) (add-one depth) x)

less_both : {w : Bool} {marks depth : ℕ} (Q : Mode → Type 0) → Q (in_expression w (suc marks) (suc depth)) → Q (in_expression w (marks + 1) (depth + 1))
less_both {w} {marks} {depth} Q x = subst (λ (d : ℕ). Q (in_expression w (marks + 1) d)) (sym (add-one depth)) (less-marks Q x)

-- ---- a cursor that is clear, as a test, and behind a token and a record
clear-test : {n : ℕ} → n ≡ 0 → eqb n 0 ≡ true
clear-test {n} z = eq-eqb n 0 z

still-clear : (c : Cursor) (r : Result Cursor Refused) → KeepsRefusal c r → IsClear c → IfOk r IsClear
still-clear c (Ok a) k z = k.0 ∙ z
still-clear c (Err e) k z = tt

put-kept : (p : ℕ) (n : Node) {a r : Cursor} {R P R' P' : List ℕ} → Wrote (D.put p n) a R P r R' P' → KeepsRefusal a (Ok r)
unfolding D.put D.counted
put-kept p n h = (ap (λ (s : State). s.cursor.number) (h.same [] []), ap (λ (s : State). s.cursor.place) (h.same [] []))

put-clear : (p : ℕ) (n : Node) {a r : Cursor} {R P R' P' : List ℕ} → Wrote (D.put p n) a R P r R' P' → IsClear a → IsClear r
put-clear p n h z = (put-kept p n h).0 ∙ z

module _ (text : List ℕ) where
  abbrev end : ℕ
  end = length text

  abbrev tokens-left : Cursor → ℕ
  tokens-left c = length (tokens_from text c.at)

  module _ (c : Cursor) (x : Lexed) (e : x ≡ lex_at text c.at) where
    pub ahead : (k : TokenKind) → x.kind ≡ k → C.is_at (kind_number k) (tokens_from text c.at) ≡ true
    ahead k q = at-token text c.at x e k q

    pub not-ahead : (k : TokenKind) → (x.kind ≡ k → ⊥) → C.is_at (kind_number k) (tokens_from text c.at) ≡ false
    not-ahead k q = not-token text c.at x e k q

  ahead_of : {k : TokenKind} {x : Lexed} {m : Mode} {c : Cursor} {R P S : List ℕ} → ReadyAt k x m text c R P S → C.is_at (kind_number k) (tokens_from text c.at) ≡ true
  ahead_of {k} {x} {c = c} f = ahead c x f.next k f.kind

  -- ---- an answer that is a cursor, one that is a refusal, and one that is handed on
  module _ {m : Mode} {c : Cursor} {R P S : List ℕ} where
    parsed : {a : Cursor} {R' P' S' : List ℕ} → IsClear a → KeepsRefusal c (Ok a) → Reads end m (state_of text c R P S) (state_of text a R' P' S') → Parses m text c R P S (Ok a) R' P' S'
    parsed {a} {R'} {P'} {S'} z k h =
        record { state = state_of text a R' P' S'; reads = h; leaves = record { cursor = refl; records = refl; places = refl; scope = refl }; clear = z; kept = k }

    failed : (R' P' S' : List ℕ) (e : Refused) (d : C.Cursor) → Comes text (Err e) d
        → Reads end m (state_of text c R P S) (record { cursor = d; records = R'; places = P'; scope = S' }) → Parses m text c R P S (Err e) R' P' S'
    failed R' P' S' e d q h = record {
      state = record { cursor = d; records = R'; places = P'; scope = S' };
      reads = h;
      leaves = record { cursor = q; records = refl; places = refl; scope = refl };
      clear = tt;
      kept = tt;
    }

    handed : {n : Mode} {a : Cursor} {R₁ P₁ S₁ : List ℕ} {q : Result Cursor Refused} {R' P' S' : List ℕ} → KeepsRefusal c (Ok a)
        → ((s : State) → Reads end n (state_of text a R₁ P₁ S₁) s → Reads end m (state_of text c R P S) s)
        → Parses n text a R₁ P₁ S₁ q R' P' S' → Parses m text c R P S q R' P' S'
    handed {n} {a} {R₁} {P₁} {S₁} {q} k f y = record { state = y.state; reads = f y.state y.reads; leaves = y.leaves; clear = y.clear; kept = kept-on c a q k y.kept }

    reads-of : {a : Cursor} {R' P' S' : List ℕ} → Parses m text c R P S (Ok a) R' P' S' → Reads end m (state_of text c R P S) (state_of text a R' P' S')
    reads-of {a} {R'} {P'} {S'} y = subst (Reads end m (state_of text c R P S)) (sym (left-is text a (Ok a) R' P' S' y.state y.leaves refl)) y.reads

    refused-of : {e : Refused} {R' P' S' : List ℕ} (y : Parses m text c R P S (Err e) R' P' S') → eqb y.state.cursor.number 0 ≡ false
    refused-of {e} y = left-refused text e _ _ _ _ y.state y.leaves refl

    -- a call that is refused, one of which a part is read, and one that goes on as another does
    module _ {marks depth : ℕ} where
      stopped : {e : Refused} {R' P' S' : List ℕ} → Parses m text c R P S (Err e) R' P' S' → Continues m marks depth text c R P S (Err e) R' P' S'
      stopped h = record { stops = λ _ _. h; goes = λ a q. absurd (cc); fit = λ a q. absurd (cc); less = λ a q. absurd (cc) }

      behind : {n : Mode} {a : Cursor} {q : Result Cursor Refused} {R₁ P₁ S₁ R' P' S' : List ℕ} → KeepsRefusal c (Ok a) → tokens-left a ≤ tokens-left c
          → ((s : State) → Reads end n (state_of text a R₁ P₁ S₁) s → Reads end m (state_of text c R P S) s)
          → Continues n marks depth text a R₁ P₁ S₁ q R' P' S' → Continues m marks depth text c R P S q R' P' S'
      behind o l g k =
          record {
            stops = λ e z. handed o g (k.stops e z);
            goes = λ b z q R'' P'' S'' y. handed o g (k.goes b z q R'' P'' S'' y);
            fit = k.fit;
            less = λ b z. let h = k.less b z in omega arith;
          }

      -- what is left is the state s, from which the reader m goes on with the calls
      module _ {s : State} {r : Result Cursor Refused} {R' P' S' : List ℕ} (h : Leaves text r R' P' S' s) (k : IfOk r IsClear) (o : KeepsRefusal c r) where
        onward : (eqb s.cursor.number 0 ≡ false → Reads end m (state_of text c R P S) s)
            → ((u : State) → eqb s.cursor.number 0 ≡ true → Reads end (in_calls marks depth) s u → Reads end m (state_of text c R P S) u)
            → (s.cursor.number ≡ 0 → Fit (in_calls marks depth) s) → (eqb s.cursor.number 0 ≡ true → length s.cursor.rest + 1 ≤ tokens-left c)
            → Continues m marks depth text c R P S r R' P' S'
        onward stop go fit less = record {
          stops = λ e z. record { state = s; reads = stop (left-refused text e r R' P' S' s h z); leaves = h; clear = k; kept = o };
          goes = λ a z q R'' P'' S'' y. handed (let w = rw z at o in w) (λ u k. go u (zero a z) (subst (λ (v : State). Reads end (in_calls marks depth) v u) (is a z) k)) y;
          fit = λ a z. record { clear = clear a z; fit = subst (Fit (in_calls marks depth)) (sym (is a z)) (fit (number-is a z)) };
          less = λ a z. subst (λ (v : State). length v.cursor.rest + 1 ≤ tokens-left c) (sym (is a z)) (less (zero a z));
        }
          where
            is : (a : Cursor) → r ≡ Ok a → state_of text a R' P' S' ≡ s
            is a z = left-is text a r R' P' S' s h z

            clear : (a : Cursor) → r ≡ Ok a → IsClear a
            clear a z = let w = rw z at k in w

            number-is : (a : Cursor) → r ≡ Ok a → s.cursor.number ≡ 0
            number-is a z = sym (ap (λ (v : State). v.cursor.number) (is a z)) ∙ clear a z

            zero : (a : Cursor) → r ≡ Ok a → eqb s.cursor.number 0 ≡ true
            zero a z = eq-eqb s.cursor.number 0 (number-is a z)

  -- ---- what any call leaves
  module _ (m : Mode) (c a : Cursor) (R P S R' P' S' : List ℕ) (h : Parses m text c R P S (Ok a) R' P' S') where
    pub read-less : tokens-left a + passes m ≤ tokens-left c
    read-less = Paths.less-read end (reads-of h) (clear-test h.clear)

    pub read-fit : Fit m (state_of text c R P S) → Fit (in_calls (F.marks_of m) (depth_of m)) (state_of text a R' P' S')
    read-fit f = Paths.reads_fit end (reads-of h) f h.clear

    pub root-few : Fit m (state_of text c R P S) → a.root < text_parts
    root-few f = let g = read-fit f in omega (arith, g.own, g.count, g.parts)

  -- ---- fewer tokens are left
  pub comma-less : (more : ℕ) (v : Result (Unit {0}) Refusal) (c h : Cursor) (x : Lexed) → x ≡ lex_at text c.at → x.kind ≡ K.Comma → fault_of v ≡ C.at_comma more
      → Ok h ≡ passed_or_refused x.start x.end v c → IsClear c → tokens-left h + 1 ≤ tokens-left c
  comma-less more v c h x e q o p z =
      PathsCalls.less-comma end 0 0 (state_of text c [] [] []) (record { kind = 0; takes = more; receiver = 0; place = 0; argument = 0 }) (cursor_of text h) (ahead c x e K.Comma q)
      (judged-here text c x e _ v o (Ok h) p) (clear-test ((passed-kept x.start x.end c v (Ok h) p).0 ∙ z))

  pub need-less : (k : TokenKind) (v a : Cursor) → 0 < kind_number k → Comes text (Ok a) (C.need end (kind_number k) (cursor_of text v)) → KeepsRefusal v (Ok a)
      → IsClear v → tokens-left a + 1 ≤ tokens-left v
  need-less k v a l g h z = ((subst (Moved 1 0 (cursor_of text v)) (sym g) (moved-need end (kind_number k) (cursor_of text v) l)).went (h.0 ∙ z)).0

  -- ---- arguments and more
  module _ (marks depth : ℕ) (k : Call) (c : Cursor) (R P S : List ℕ) where
    abbrev s : State
    s = state_of text c R P S

    pub arguments-room : Ready (in_arguments (call_of k) marks depth) text c R P S → ShutAhead k c
    arguments-room h =
        let f = h.fit in
        let o = f.own in
        let n = f.count in
        let p = f.parts in
        let r = o.receiver in
        let a = o.argument in
        let q = o.place in
        record { count = omega arith; place = omega arith; kind = o.kind; receiver = omega arith; argument = omega arith }

    pub more_room : Ready (in_more (call_of k) marks depth) text c R P S → ShutAhead k c
    more_room h =
        let f = h.fit in
        let o = f.own in
        let n = f.count in
        let p = f.parts in
        let r = o.receiver in
        let a = o.argument in
        let q = o.place in
        record { count = omega arith; place = omega arith; kind = o.kind; receiver = omega arith; argument = omega arith }

    module _ (x : Lexed) (r : Result Cursor Refused) (R' P' : List ℕ) (e : x ≡ lex_at text c.at) (q : x.kind ≡ K.Shut) (h : WroteCall x.start x.end k c R P r R' P') (o : KeepsRefusal c r) where
      pub arguments-none : Ready (in_arguments (call_of k) marks depth) text c R P S → Continues (in_arguments (call_of k) marks depth) marks depth text c R P S r R' P' S
      arguments-none f =
          let b = ahead c x e K.Shut q in
          onward (h.leaves text S x e refl refl) (still-clear c r o f.clear) o (PathsCalls.none-refused end marks depth s (call_of k) b refl) (λ u z y. PathsCalls.none_read end marks depth s (call_of k) b refl z y)
          (G.fit-shut-arguments end marks depth s (call_of k) f.fit b) (PathsCalls.less-shut end marks depth s (call_of k) b refl)

      pub more-last : Ready (in_more (call_of k) marks depth) text c R P S → Continues (in_more (call_of k) marks depth) marks depth text c R P S r R' P' S
      more-last f =
          let b = ahead c x e K.Shut q in
          onward (h.leaves text S x e refl refl) (still-clear c r o f.clear) o (PathsCalls.last-refused end marks depth s (call_of k) b refl) (λ u z y. PathsCalls.last-read end marks depth s (call_of k) b refl z y)
          (G.fit-shut-more end marks depth s (call_of k) f.fit b) (PathsCalls.less-shut end marks depth s (call_of k) b refl)

    pub argument-fit : Ready (in_arguments (call_of k) marks depth) text c R P S → Ready (in_expression (eqb k.takes 0) (marks + 1) depth) text c R P S
    argument-fit f = record { clear = f.clear; fit = less-marks (λ m. Fit m s) (F.fit-argument end marks depth s (call_of k) f.fit) }

    pub arguments-first-refused : (f : Refused) (R' P' S' : List ℕ) → Parses (in_expression (eqb k.takes 0) (marks + 1) depth) text c R P S (Err f) R' P' S'
        → (x : Lexed) → x ≡ lex_at text c.at → (x.kind ≡ K.Shut → ⊥) → Continues (in_arguments (call_of k) marks depth) marks depth text c R P S (Err f) R' P' S'
    arguments-first-refused f R' P' S' h x e q =
        let y : Parses (in_expression (eqb k.takes 0) (suc marks) depth) text c R P S (Err f) R' P' S' = more-marks (λ m. Parses m text c R P S (Err f) R' P' S') h in
        stopped
        (record { state = y.state; reads = PathsCalls.first-refused end marks depth s (call_of k) (not-ahead c x e K.Shut q) y.reads (refused-of y); leaves = y.leaves; clear = tt; kept = tt })

    module _ (a : Cursor) (R' P' S' : List ℕ) (h : Parses (in_expression (eqb k.takes 0) (marks + 1) depth) text c R P S (Ok a) R' P' S') where
      first_reads : Reads end (in_expression (eqb k.takes 0) (suc marks) depth) s (state_of text a R' P' S')
      first_reads = more-marks (λ m. Reads end m s (state_of text a R' P' S')) (reads-of h)

      module _ (g : Call) (u : call_of g ≡ first_given a.root (call_of k)) where
        pub first-fit : Ready (in_arguments (call_of k) marks depth) text c R P S → Ready (in_more (call_of g) marks depth) text a R' P' S'
        first-fit f =
            record {
              clear = h.clear;
              fit = subst (λ (j : D.Call). Fit (in_more j marks depth) (state_of text a R' P' S')) (sym u) (Paths.first-fit end (call_of k) marks depth f.fit first_reads h.clear);
            }

        pub arguments-first : (x : Lexed) → x ≡ lex_at text c.at → (x.kind ≡ K.Shut → ⊥) → {r : Result Cursor Refused} {R'' P'' S'' : List ℕ}
            → Continues (in_more (call_of g) marks depth) marks depth text a R' P' S' r R'' P'' S'' → Continues (in_arguments (call_of k) marks depth) marks depth text c R P S r R'' P'' S''
        arguments-first x e q =
            behind h.kept (omega (arith, read-less _ _ _ _ _ _ _ _ _ h))
            (λ v y. PathsCalls.first_read end marks depth s (call_of k) (not-ahead c x e K.Shut q) first_reads (clear-test h.clear)
            (subst (λ (j : D.Call). Reads end (in_more j marks depth) (state_of text a R' P' S') v) u y))

    -- another argument
    pub more-refused : (x : Lexed) (f : Refused) → x ≡ lex_at text c.at → (x.kind ≡ K.Shut → ⊥) → (x.kind ≡ K.Comma → ⊥) → f ≡ refused_at x.start Ungrammatical
        → Continues (in_more (call_of k) marks depth) marks depth text c R P S (Err f) R P S
    more-refused x f e p q g =
        stopped
        (failed R P S f _ (ungrammatical-here text c x e f g)
        (PathsCalls.more-refused end marks depth s (call_of k) (not-ahead c x e K.Shut p) (not-ahead c x e K.Comma q)))

    module _ (x : Lexed) (v : Result (Unit {0}) Refusal) (e : x ≡ lex_at text c.at) (q : x.kind ≡ K.Comma) (o : fault_of v ≡ C.at_comma k.takes) where
      comma-is : (r : Result Cursor Refused) → r ≡ passed_or_refused x.start x.end v c → Comes text r (passing text (C.at_comma k.takes) c)
      comma-is r p = judged-here text c x e _ v o r p

      pub comma-refused : (f : Refused) → Err f ≡ passed_or_refused x.start x.end v c → Continues (in_more (call_of k) marks depth) marks depth text c R P S (Err f) R P S
      comma-refused f p =
          let d = comma-is (Err f) p in
          stopped (failed R P S f _ d (PathsCalls.comma-refused end marks depth s (call_of k) _ (ahead c x e K.Comma q) refl (refused-number text f (passing text (C.at_comma k.takes) c) d)))

      module _ (h : Cursor) (p : Ok h ≡ passed_or_refused x.start x.end v c) (z : IsClear c) where
        comma-clear : IsClear h
        comma-clear = (passed-kept x.start x.end c v (Ok h) p).0 ∙ z

        pub comma-fit : Ready (in_more (call_of k) marks depth) text c R P S → Ready (in_expression false (marks + 1) depth) text h R P S
        comma-fit f =
            record {
              clear = comma-clear;
              fit = less-marks (λ m. Fit m (state_of text h R P S))
                  (subst (λ (v : C.Cursor). Fit (in_expression false (suc marks) depth) (moved s v)) (sym (comma-is (Ok h) p))
                  (F.fit-comma end marks depth s (call_of k) f.fit (ahead c x e K.Comma q)));
            }

        pub more-next-refused : (g : Refused) (R' P' S' : List ℕ) → Parses (in_expression false (marks + 1) depth) text h R P S (Err g) R' P' S'
            → Continues (in_more (call_of k) marks depth) marks depth text c R P S (Err g) R' P' S'
        more-next-refused g R' P' S' w =
            let y : Parses (in_expression false (suc marks) depth) text h R P S (Err g) R' P' S' = more-marks (λ m. Parses m text h R P S (Err g) R' P' S') w in
            stopped
            (record {
              state = y.state;
              reads = PathsCalls.next-refused end marks depth s (call_of k) (cursor_of text h) (ahead c x e K.Comma q) (comma-is (Ok h) p) (clear-test comma-clear) y.reads (refused-of y);
              leaves = y.leaves;
              clear = tt;
              kept = tt;
            })

        module _ (a : Cursor) (R' P' S' : List ℕ) (y : Parses (in_expression false (marks + 1) depth) text h R P S (Ok a) R' P' S') (g : Call) (u : call_of g ≡ next_given (call_of k)) where
          next-reads : Reads end (in_expression false (suc marks) depth) (state_of text h R P S) (state_of text a R' P' S')
          next-reads = more-marks (λ m. Reads end m (state_of text h R P S) (state_of text a R' P' S')) (reads-of y)

          pub next-fit : Ready (in_more (call_of k) marks depth) text c R P S → Ready (in_more (call_of g) marks depth) text a R' P' S'
          next-fit f =
              record {
                clear = y.clear;
                fit = subst (λ (j : D.Call). Fit (in_more j marks depth) (state_of text a R' P' S')) (sym u)
                    (Paths.next-fit end (call_of k) marks depth (cursor_of text h) f.fit (ahead c x e K.Comma q) (comma-is (Ok h) p) comma-clear next-reads y.clear);
              }

          pub more-next : {r : Result Cursor Refused} {R'' P'' S'' : List ℕ} → Continues (in_more (call_of g) marks depth) marks depth text a R' P' S' r R'' P'' S''
              → Continues (in_more (call_of k) marks depth) marks depth text c R P S r R'' P'' S''
          more-next =
              behind (kept-on c h (Ok a) (passed-kept x.start x.end c v (Ok h) p) y.kept) (omega (arith, comma-less k.takes v c h x e q o p z, read-less _ _ _ _ _ _ _ _ _ y))
              (λ t w. PathsCalls.next-read end marks depth s (call_of k) (cursor_of text h) (ahead c x e K.Comma q) (comma-is (Ok h) p) (clear-test comma-clear) next-reads (clear-test y.clear)
              (subst (λ (j : D.Call). Reads end (in_more j marks depth) (state_of text a R' P' S') t) u w))

  -- ---- a call
  module _ (marks depth : ℕ) (c : Cursor) (R P S : List ℕ) where
    abbrev here : State
    here = state_of text c R P S

    module _ {x : Lexed} (f : ReadyAt K.Dot x (in_calls marks depth) text c R P S) where
      pub call-head-refused : (g : Refused) → Comes text (Err g) (C.call_head end marks (cursor_of text c)) → Continues (in_calls marks depth) marks depth text c R P S (Err g) R P S
      call-head-refused g p = stopped (failed R P S g _ p (PathsCalls.call-head-refused end marks depth here _ (ahead_of f) refl (refused-number text g (C.call_head end marks (cursor_of text c)) p)))

      module _ (h : Cursor) (p : Comes text (Ok h) (C.call_head end marks (cursor_of text c))) (k : KeepsRefusal c (Ok h)) where
        call-clear : IsClear h
        call-clear = k.0 ∙ f.clear

        pub call-less : tokens-left h + 3 ≤ tokens-left c
        call-less = PathsCalls.less-call end marks depth here (cursor_of text h) (ahead_of f) p (clear-test call-clear)

        pub call-fit : Ready (in_arguments (D.new_call (cursor_of text c) (cursor_of text h)) marks depth) text h R P S
        call-fit =
            record {
              clear = call-clear;
              fit = subst (λ (v : C.Cursor). Fit (in_arguments (D.new_call (cursor_of text c) v) marks depth) (moved here v)) (sym p)
                  (F.fit-call end marks depth here f.fit (ahead_of f) (sym (ap (λ (v : C.Cursor). v.number) p) ∙ call-clear));
            }

        pub call-read : {r : Result Cursor Refused} {R' P' S' : List ℕ} → Continues (in_arguments (D.new_call (cursor_of text c) (cursor_of text h)) marks depth) marks depth text h R P S r R' P' S'
            → Continues (in_calls marks depth) marks depth text c R P S r R' P' S'
        call-read = behind k (omega (arith, call-less)) (λ v y. PathsCalls.call-read end marks depth here (cursor_of text h) (ahead_of f) p (clear-test call-clear) y)

    -- ---- a chain of calls, from c up to a: what the calls from a on give, those from c on give
    pub record Chain (a : Cursor) (R' P' S' : List ℕ) : Type 0 where
      pub goes : (r : Result Cursor Refused) (R'' P'' S'' : List ℕ) → Parses (in_calls marks depth) text a R' P' S' r R'' P'' S'' → Parses (in_calls marks depth) text c R P S r R'' P'' S''
      pub fit : Ready (in_calls marks depth) text a R' P' S'
      pub less : tokens-left a ≤ tokens-left c

    pub chain-none : Ready (in_calls marks depth) text c R P S → Chain c R P S
    chain-none f = record { goes = λ _ _ _ _ y. y; fit = f; less = omega arith }

    pub chain-over : {x : Lexed} (a : Cursor) (R' P' S' : List ℕ) → Chain a R' P' S' → x ≡ lex_at text a.at → (x.kind ≡ K.Dot → ⊥)
        → Parses (in_calls marks depth) text c R P S (Ok a) R' P' S'
    chain-over a R' P' S' h e q = h.goes (Ok a) R' P' S' (parsed h.fit.clear (refl, refl) (PathsCalls.calls-over end marks depth (state_of text a R' P' S') (not-ahead a _ e K.Dot q)))

    module _ (a : Cursor) (R' P' S' : List ℕ) (h : Chain a R' P' S') (R'' P'' S'' : List ℕ) where
      pub chain-refused : (e : Refused) → Continues (in_calls marks depth) marks depth text a R' P' S' (Err e) R'' P'' S'' → Parses (in_calls marks depth) text c R P S (Err e) R'' P'' S''
      chain-refused e k = h.goes (Err e) R'' P'' S'' (k.stops e refl)

      pub chain-on : (b : Cursor) → Continues (in_calls marks depth) marks depth text a R' P' S' (Ok b) R'' P'' S'' → Chain b R'' P'' S''
      chain-on b k =
          let l = h.less in
          let m = k.less b refl in
          record { goes = λ r R₁ P₁ S₁ y. h.goes r R₁ P₁ S₁ (k.goes b refl r R₁ P₁ S₁ y); fit = k.fit b refl; less = omega arith }

  -- ---- expression
  module _ (w : Bool) (marks depth : ℕ) (c : Cursor) (R P S : List ℕ) where
    abbrev E : Mode
    E = in_expression w marks depth

    abbrev at-it : State
    at-it = state_of text c R P S

    module _ (x : Lexed) (e : x ≡ lex_at text c.at) where
      pub name-ahead : x.kind ≡ K.Word → Ready E text c R P S → NameAhead text x depth c S
      name-ahead q f =
          let g = f.fit in
          let n = g.count in
          let m = g.marks in
          let d = g.depth in
          record { next = e; kind = q; parts = g.parts; count = omega arith; depth = omega arith; links = g.links }

      pub number-ahead : x.kind ≡ K.Number → Ready E text c R P S → NumberAhead text x c
      number-ahead q f = let g = f.fit in let n = g.count in record { next = e; kind = q; parts = g.parts; count = omega arith }

      pub atom-name : (r : Result Cursor Refused) (R' P' : List ℕ) → x.kind ≡ K.Word → Leaves text r R' P' S (D.read_name end w depth at-it) → KeepsRefusal c r → Ready E text c R P S
          → Continues E marks depth text c R P S r R' P' S
      atom-name r R' P' q h k f =
          let b = ahead c x e K.Word q in
          onward h (still-clear c r k f.clear) k (Paths.name-refused end w marks depth at-it b refl) (λ u z y. Paths.name-read end w marks depth at-it b refl z y) (G.fit-name end marks depth at-it w f.fit b)
          (Paths.less-name end w marks depth at-it b refl)

      pub atom-number : (r : Result Cursor Refused) (R' P' : List ℕ) → x.kind ≡ K.Number → WroteFor text (D.read_number end w) c R P r R' P' → KeepsRefusal c r → Ready E text c R P S
          → Continues E marks depth text c R P S r R' P' S
      atom-number r R' P' q h k f =
          let b = ahead c x e K.Number q in
          onward (h.leaves S) (still-clear c r k f.clear) k (Paths.number-refused end w marks depth at-it b refl) (λ u z y. Paths.number_read end w marks depth at-it b refl z y)
          (G.fit-number end marks depth at-it w f.fit b) (Paths.less-number end w marks depth at-it b refl)

      pub atom-refused : (f : Refused) → (x.kind ≡ K.Let → ⊥) → (x.kind ≡ K.Lambda → ⊥) → (x.kind ≡ K.Open → ⊥) → (x.kind ≡ K.Word → ⊥) → (x.kind ≡ K.Number → ⊥)
          → f ≡ refused_at x.start Ungrammatical → Continues E marks depth text c R P S (Err f) R P S
      atom-refused f n₁ n₂ n₃ n₄ n₅ g =
          stopped
          (failed R P S f _ (ungrammatical-here text c x e f g)
          (Paths.expression-refused end w marks depth at-it (not-ahead c x e K.Let n₁) (not-ahead c x e K.Lambda n₂) (not-ahead c x e K.Open n₃) (not-ahead c x e K.Word n₄)
          (not-ahead c x e K.Number n₅)))

    -- ---- brackets
    module _ {x : Lexed} (verdict : Result (Unit {0}) Refusal) (f : ReadyAt K.Open x E text c R P S) (o : fault_of verdict ≡ C.at_bracket w marks) where
      open_is : (r : Result Cursor Refused) → r ≡ passed_or_refused x.start x.end verdict c → Comes text r (passing text (C.at_bracket w marks) c)
      open_is r p = judged-here text c x f.next _ verdict o r p

      pub bracket-refused : (g : Refused) → Err g ≡ passed_or_refused x.start x.end verdict c → Continues E marks depth text c R P S (Err g) R P S
      bracket-refused g p =
          let d = open_is (Err g) p in
          stopped (failed R P S g _ d (Paths.bracket-refused end w marks depth at-it _ (ahead_of f) refl (refused-number text g (passing text (C.at_bracket w marks) c) d)))

      module _ (h : Cursor) (p : Ok h ≡ passed_or_refused x.start x.end verdict c) where
        bracket-clear : IsClear h
        bracket-clear = (passed-kept x.start x.end c verdict (Ok h) p).0 ∙ f.clear

        pub bracket-less : tokens-left h + 1 ≤ tokens-left c
        bracket-less = Paths.less-bracket end w marks depth at-it (cursor_of text h) (ahead_of f) (open_is (Ok h) p) (clear-test bracket-clear)

        inner-fit : Fit (in_expression false (suc marks) depth) (state_of text h R P S)
        inner-fit =
            subst (λ (v : C.Cursor). Fit (in_expression false (suc marks) depth) (moved at-it v)) (sym (open_is (Ok h) p))
            (F.fit-bracketed end marks depth at-it w f.fit (ahead_of f) (sym (ap (λ (v : C.Cursor). v.number) (open_is (Ok h) p)) ∙ bracket-clear))

        pub bracket-fit : Ready (in_expression false (marks + 1) depth) text h R P S
        bracket-fit = record { clear = bracket-clear; fit = less-marks (λ m. Fit m (state_of text h R P S)) inner-fit }

        pub bracketed-refused : (g : Refused) (R' P' S' : List ℕ) → Parses (in_expression false (marks + 1) depth) text h R P S (Err g) R' P' S'
            → Continues E marks depth text c R P S (Err g) R' P' S'
        bracketed-refused g R' P' S' u =
            let y : Parses (in_expression false (suc marks) depth) text h R P S (Err g) R' P' S' = more-marks (λ m. Parses m text h R P S (Err g) R' P' S') u in
            stopped
            (record {
              state = y.state;
              reads = Paths.bracketed-refused end w marks depth at-it (cursor_of text h) (ahead_of f) (open_is (Ok h) p) (clear-test bracket-clear) y.reads (refused-of y);
              leaves = y.leaves;
              clear = tt;
              kept = tt;
            })

        module _ (v : Cursor) (R' P' S' : List ℕ) (y : Parses (in_expression false (marks + 1) depth) text h R P S (Ok v) R' P' S') where
          inner-reads : Reads end (in_expression false (suc marks) depth) (state_of text h R P S) (state_of text v R' P' S')
          inner-reads = more-marks (λ m. Reads end m (state_of text h R P S) (state_of text v R' P' S')) (reads-of y)

          pub bracket-read : (r : Result Cursor Refused) → Comes text r (C.need end C.shut_kind (cursor_of text v)) → KeepsRefusal v r
              → Continues E marks depth text c R P S r R' P' S'
          bracket-read r g k =
              let n = C.need end C.shut_kind (cursor_of text v) in
              let z : eqb h.number 0 ≡ true = clear-test bracket-clear in
              let i : eqb v.number 0 ≡ true = clear-test y.clear in
              onward {s = moved (state_of text v R' P' S') n} (record { cursor = g; records = refl; places = refl; scope = refl }) (still-clear v r k y.clear)
              (kept-on c v r (kept-on c h (Ok v) (passed-kept x.start x.end c verdict (Ok h) p) y.kept) k)
              (λ t. Paths.bracket-shut-refused end w marks depth at-it (cursor_of text h) (ahead_of f) (open_is (Ok h) p) z n inner-reads i refl t)
              (λ u t j. Paths.bracket-read end w marks depth at-it (cursor_of text h) (ahead_of f) (open_is (Ok h) p) z n inner-reads i refl t j)
              (λ _. F.fit-bracket-calls end marks depth (state_of text v R' P' S') f.fit.depth (Paths.reads_fit end inner-reads inner-fit y.clear))
              (λ t. omega (arith, bracket-less, read-less _ _ _ _ _ _ _ _ _ y, ((moved-need end 8 (cursor_of text v) (omega arith)).went (eqb-true n.number 0 t)).0))

    -- ---- lambda
    module _ {x : Lexed} (f : ReadyAt K.Lambda x E text c R P S) where
      pub lambda-head-refused : (g : Refused) → Comes text (Err g) (C.lambda_head end w marks depth S (cursor_of text c)) → Parses E text c R P S (Err g) R P S
      lambda-head-refused g p = failed R P S g _ p (Paths.lambda-head-refused end w marks depth at-it _ (ahead_of f) refl (refused-number text g (C.lambda_head end w marks depth S (cursor_of text c)) p))

      module _ (h : Cursor) (p : Comes text (Ok h) (C.lambda_head end w marks depth S (cursor_of text c))) (k : KeepsRefusal c (Ok h)) where
        lambda-clear : IsClear h
        lambda-clear = k.0 ∙ f.clear

        lambda-zero : (C.lambda_head end w marks depth S (cursor_of text c)).number ≡ 0
        lambda-zero = sym (ap (λ (v : C.Cursor). v.number) p) ∙ lambda-clear

        pub lambda-few : marks < open_marks
        lambda-few = F.lambda-few end w marks depth S (cursor_of text c) lambda-zero

        pub lambda-deep : depth < open_marks
        lambda-deep = let m = lambda-few in let d = f.fit.depth in omega arith

        pub lambda-less : tokens-left h + 3 ≤ tokens-left c
        lambda-less = Paths.less-lambda end w marks depth at-it (cursor_of text h) (ahead_of f) p (clear-test lambda-clear)

        module _ (S₁ : List ℕ) (u : S₁ ≡ set (set S (2 * depth) h.name) (2 * depth + 1) 0) where
          entered : D.enter depth h.name 0 (state_of text h R P S) ≡ state_of text h R P S₁
          unfolding D.enter
          entered = ap (state_of text h R P) (sym u)

          body-fit : Fit (in_expression false (suc marks) (suc depth)) (state_of text h R P S₁)
          body-fit =
              subst (Fit (in_expression false (suc marks) (suc depth)))
              (ap (λ (v : C.Cursor). D.enter depth v.name 0 (moved at-it v)) (sym p) ∙ entered)
              (F.fit-lambda-body end marks depth at-it w f.fit (ahead_of f) lambda-zero)

          pub lambda-fit : Ready (in_expression false (marks + 1) (depth + 1)) text h R P S₁
          lambda-fit = record { clear = lambda-clear; fit = less_both (λ m. Fit m (state_of text h R P S₁)) body-fit }

          bodied : {v : State} → Reads end (in_expression false (marks + 1) (depth + 1)) (state_of text h R P S₁) v
              → Reads end (in_expression false (suc marks) (suc depth)) (D.enter depth h.name 0 (state_of text h R P S)) v
          bodied {v} y =
              subst (λ (q : State). Reads end (in_expression false (suc marks) (suc depth)) q v) (sym entered) (more-both (λ m. Reads end m (state_of text h R P S₁) v) y)

          pub lambda-body-refused : (g : Refused) (R' P' S' : List ℕ) → Parses (in_expression false (marks + 1) (depth + 1)) text h R P S₁ (Err g) R' P' S'
              → Parses E text c R P S (Err g) R' P' S'
          lambda-body-refused g R' P' S' y =
              record {
                state = y.state;
                reads = Paths.lambda-body-refused end w marks depth at-it (cursor_of text h) (ahead_of f) p (clear-test lambda-clear) (bodied y.reads) (refused-of y);
                leaves = y.leaves;
                clear = tt;
                kept = tt;
              }

          module _ (r : Cursor) (R' P' S' : List ℕ) (y : Parses (in_expression false (marks + 1) (depth + 1)) text h R P S₁ (Ok r) R' P' S') where
            body_reads : Reads end (in_expression false (suc marks) (suc depth)) (D.enter depth h.name 0 (state_of text h R P S)) (state_of text r R' P' S')
            body_reads = bodied (reads-of y)

            pub lambda-root : r.root < text_parts
            lambda-root = root-few _ _ _ _ _ _ _ _ _ y lambda-fit.fit

            pub lambda-room : Recorded r c.parts 4 (r.root + 1) 0
            lambda-room =
                let m = Paths.lambda-room end w marks depth at-it (cursor_of text h) f.fit (ahead_of f) p lambda-clear body_reads y.clear in
                let l = lambda-root in
                record { count = m.count; place = m.place; kind = omega arith; first = omega arith; second = omega arith }

            pub lambda-read : {q : Cursor} {R'' P'' : List ℕ} (level : ℕ) → level ≡ C.lambdas_in S depth
                → Wrote (D.put c.parts (node_with function_kind h.name (r.root + 1) 0 level)) r R' P' q R'' P'' → Parses E text c R P S (Ok q) R'' P'' S'
            lambda-read {q} level l d =
                parsed (put-clear _ _ d y.clear) (kept-on c r (Ok q) (kept-on c h (Ok r) k y.kept) (put-kept _ _ d))
                (subst (Reads end E at-it)
                (ap₂ (λ (j k : ℕ). D.put c.parts (node_with function_kind h.name j 0 k) (state_of text r R' P' S')) (sym (add-one r.root)) (sym l)
                ∙ sym (d.same text S'))
                (Paths.lambda-read end w marks depth at-it (cursor_of text h) (ahead_of f) p (clear-test lambda-clear) body_reads (clear-test y.clear)))

    -- ---- let
    module _ {x : Lexed} (f : ReadyAt K.Let x E text c R P S) where
      pub let-head-refused : (g : Refused) → Comes text (Err g) (C.let_head end w marks (cursor_of text c)) → Parses E text c R P S (Err g) R P S
      let-head-refused g p = failed R P S g _ p (Paths.let-head-refused end w marks depth at-it _ (ahead_of f) refl (refused-number text g (C.let_head end w marks (cursor_of text c)) p))

      module _ (h : Cursor) (p : Comes text (Ok h) (C.let_head end w marks (cursor_of text c))) (o : KeepsRefusal c (Ok h)) where
        let-clear : IsClear h
        let-clear = o.0 ∙ f.clear

        let-zero : (C.let_head end w marks (cursor_of text c)).number ≡ 0
        let-zero = sym (ap (λ (v : C.Cursor). v.number) p) ∙ let-clear

        pub let-few : marks < open_marks
        let-few = F.let-few end w marks (cursor_of text c) let-zero

        pub let-deep : depth < open_marks
        let-deep = let m = let-few in let d = f.fit.depth in omega arith

        pub let-less : tokens-left h + 3 ≤ tokens-left c
        let-less = Paths.less-let end w marks depth at-it (cursor_of text h) (ahead_of f) p (clear-test let-clear)

        pub let-place : c.parts < text_parts
        let-place =
            (G.room-part w marks depth 3 at-it (cursor_of text h) f.fit
            (subst (Moved 3 1 (cursor_of text c)) (sym p) (moved-let end w marks (cursor_of text c) (behind-some 1 (tokens_from text c.at) (lit< tt) (ahead_of f)))) let-clear).place

        value-fit : Fit (in_expression false (suc marks) depth) (state_of text h R P S)
        value-fit =
            subst (λ (v : C.Cursor). Fit (in_expression false (suc marks) depth) (moved at-it v)) (sym p) (F.fit-let-value end marks depth at-it w f.fit (ahead_of f) let-zero)

        pub let-value-fit : Ready (in_expression false (marks + 1) depth) text h R P S
        let-value-fit = record { clear = let-clear; fit = less-marks (λ m. Fit m (state_of text h R P S)) value-fit }

        pub let-value-refused : (g : Refused) (R' P' S' : List ℕ) → Parses (in_expression false (marks + 1) depth) text h R P S (Err g) R' P' S'
            → Parses E text c R P S (Err g) R' P' S'
        let-value-refused g R' P' S' u =
            let y : Parses (in_expression false (suc marks) depth) text h R P S (Err g) R' P' S' = more-marks (λ m. Parses m text h R P S (Err g) R' P' S') u in
            record {
              state = y.state;
              reads = Paths.let-value-refused end w marks depth at-it (cursor_of text h) (ahead_of f) p (clear-test let-clear) y.reads (refused-of y);
              leaves = y.leaves;
              clear = tt;
              kept = tt;
            }

        module _ (v : Cursor) (R₁ P₁ S₁ : List ℕ) (y : Parses (in_expression false (marks + 1) depth) text h R P S (Ok v) R₁ P₁ S₁) where
          value-reads : Reads end (in_expression false (suc marks) depth) (state_of text h R P S) (state_of text v R₁ P₁ S₁)
          value-reads = more-marks (λ m. Reads end m (state_of text h R P S) (state_of text v R₁ P₁ S₁)) (reads-of y)

          pub let-in-refused : (g : Refused) → Comes text (Err g) (C.need end C.in_kind (cursor_of text v)) → Parses E text c R P S (Err g) R₁ P₁ S₁
          let-in-refused g t =
              failed R₁ P₁ S₁ g _ t
              (Paths.let-in-refused end w marks depth at-it (cursor_of text h) (ahead_of f) p (clear-test let-clear) _ value-reads (clear-test y.clear) refl (refused-number text g (C.need end C.in_kind (cursor_of text v)) t))

          module _ (b : Cursor) (g : Comes text (Ok b) (C.need end C.in_kind (cursor_of text v))) (i : KeepsRefusal v (Ok b)) (S₂ : List ℕ) (q : S₂ ≡ set (set S₁ (2 * depth) h.name) (2 * depth + 1) (v.root + 1)) where
            in-clear : IsClear b
            in-clear = i.0 ∙ y.clear

            bound : D.enter depth h.name (suc v.root) (state_of text b R₁ P₁ S₁) ≡ state_of text b R₁ P₁ S₂
            unfolding D.enter
            bound = ap (state_of text b R₁ P₁) (ap (set (set S₁ (2 * depth) h.name) (2 * depth + 1)) (sym (add-one v.root)) ∙ sym q)

            in-fit : Fit (in_expression false (suc marks) (suc depth)) (state_of text b R₁ P₁ S₂)
            in-fit =
                subst (Fit (in_expression false (suc marks) (suc depth)))
                (ap (λ (a : C.Cursor). D.enter depth h.name (suc v.root) (moved (state_of text v R₁ P₁ S₁) a)) (sym g) ∙ bound)
                (F.fit-let-body end marks depth (state_of text v R₁ P₁ S₁) h.name f.fit.depth (Paths.reads_fit end value-reads value-fit y.clear))

            pub let-body-fit : Ready (in_expression false (marks + 1) (depth + 1)) text b R₁ P₁ S₂
            let-body-fit = record { clear = in-clear; fit = less_both (λ m. Fit m (state_of text b R₁ P₁ S₂)) in-fit }

            lets : {u : State} → Reads end (in_expression false (marks + 1) (depth + 1)) (state_of text b R₁ P₁ S₂) u
                → Reads end (in_expression false (suc marks) (suc depth)) (D.enter depth h.name (suc v.root) (state_of text b R₁ P₁ S₁)) u
            lets {u} k =
                subst (λ (a : State). Reads end (in_expression false (suc marks) (suc depth)) a u) (sym bound) (more-both (λ m. Reads end m (state_of text b R₁ P₁ S₂) u) k)

            pub let-body-refused : (j : Refused) (R₂ P₂ S₃ : List ℕ) → Parses (in_expression false (marks + 1) (depth + 1)) text b R₁ P₁ S₂ (Err j) R₂ P₂ S₃
                → Parses E text c R P S (Err j) R₂ P₂ S₃
            let-body-refused j R₂ P₂ S₃ k =
                record {
                  state = k.state;
                  reads = Paths.let-body-refused end w marks depth at-it (cursor_of text h) (ahead_of f) p (clear-test let-clear) (cursor_of text b) value-reads (clear-test y.clear) g
                      (clear-test in-clear) (lets k.reads) (refused-of k);
                  leaves = k.leaves;
                  clear = tt;
                  kept = tt;
                }

            module _ (r : Cursor) (R₂ P₂ S₃ : List ℕ) (k : Parses (in_expression false (marks + 1) (depth + 1)) text b R₁ P₁ S₂ (Ok r) R₂ P₂ S₃) where
              pub let-root : r.root < text_parts
              let-root = root-few _ _ _ _ _ _ _ _ _ k let-body-fit.fit

              pub let-read : (P₃ : List ℕ) → P₃ ≡ set P₂ c.parts r.root → Parses E text c R P S (Ok r) R₂ P₃ S₃
              unfolding D.mark
              let-read P₃ d =
                  parsed k.clear (kept-on c b (Ok r) (kept-on c v (Ok b) (kept-on c h (Ok v) o y.kept) i) k.kept)
                  (subst (λ (l : List ℕ). Reads end E at-it (state_of text r R₂ l S₃)) (sym d)
                  (Paths.let-read end w marks depth at-it (cursor_of text h) (ahead_of f) p (clear-test let-clear) (cursor_of text b) value-reads (clear-test y.clear) g
                  (clear-test in-clear) (lets (reads-of k)) (clear-test k.clear)))

-- ---- a call behind an argument
module _ (k : Call) (n : ℕ) (e : n ≡ k.takes - 1) where
  pub first-is : (root : ℕ)
      → call_of (record { kind = k.kind; takes = n; receiver = k.receiver; place = k.place; argument = root + 1 }) ≡ first_given root (call_of k)
  first-is root = λ i. record { kind = k.kind; takes = e i; receiver = k.receiver; place = k.place; argument = add-one root i }

  pub next-is : call_of (record { kind = k.kind; takes = n; receiver = k.receiver; place = k.place; argument = k.argument }) ≡ next_given (call_of k)
  next-is = λ i. record { kind = k.kind; takes = e i; receiver = k.receiver; place = k.place; argument = k.argument }

-- ---- the refusal of a number
text-refusal-of : (e : Refusal) (n : ℕ) → refusal_number e ≡ n → IsTextRefusal n → e ≡ text_refusal n
unfolding text_refusal
text-refusal-of R.TextTooLong n q h = absurd (omega (arith, h.0))
text-refusal-of R.RecordingTooLong n q h = absurd (omega (arith, h.0))
text-refusal-of R.MemoryTooSmall n q h = absurd (omega (arith, h.0))
text-refusal-of R.CacheIllFormed n q h = absurd (omega (arith, h.0))
text-refusal-of R.Ungrammatical n q h = rw (← q)
text-refusal-of R.NumberOutside n q h = rw (← q)
text-refusal-of R.NameTooLong n q h = rw (← q)
text-refusal-of R.DataBound n q h = rw (← q)
text-refusal-of R.WrongCall n q h = rw (← q)
text-refusal-of R.ThirdLambda n q h = rw (← q)
text-refusal-of R.TextLimit n q h = rw (← q)
text-refusal-of R.TableFull n q h = absurd (omega (arith, h.1))
text-refusal-of R.NoSuchEntry n q h = absurd (omega (arith, h.1))
text-refusal-of R.TextUnfit n q h = absurd (omega (arith, h.1))
text-refusal-of R.OtherForm n q h = absurd (omega (arith, h.1))

-- ---- a whole text
abbrev at-start : Cursor
at-start = record { at = 0; parts = 0; count = 0; root = 0; name = 0; takes = 0; number = 0; place = 0 }

pub start-ready : (text R P S : List ℕ) → Ready (in_expression false 0 0) text at-start R P S
start-ready text R P S = record { clear = refl; fit = Paths.start-fit (tokens_from text 0) R P S }

module _ (text R P : List ℕ) where
  reading : (a : State) → Reads (length text) (in_expression false 0 0) (state_of text at-start R P no_binders) a → (u : C.Cursor) → D.ended (length text) a ≡ moved a u
      → (r : Result Read Refused) → r ≡ answer_of u → (R' P' : List ℕ) → R' ≡ a.records → P' ≡ a.places → ReadsInto text R P r R' P'
  reading a h u e r q R' P' f g =
      let w = Paths.whole-read text R P no_binders h ∙ e in
      record {
        answer = q ∙ ap (λ (s : State). answer_of s.cursor) (sym w);
        records = f ∙ ap (λ (s : State). s.records) (sym w);
        places = g ∙ ap (λ (s : State). s.places) (sym w);
      }

  module _ (lr : length R ≡ text_words) (lp : length P ≡ text_parts) where
    -- a refusal of the text is the one that its number stands for
    refusing : (a : State) → Reads (length text) (in_expression false 0 0) (state_of text at-start R P no_binders) a → (u : C.Cursor) → D.ended (length text) a ≡ moved a u
        → (e : Refused) → Comes text (Err e) u → Err e ≡ answer_of u
    unfolding answer_of when
    refusing a h u j e q =
        let w : (D.read_into text R P no_binders).cursor ≡ u = ap (λ (s : State). s.cursor) (Paths.whole-read text R P no_binders h ∙ j) in
        let n : u.number ≡ 0 → ⊥ = λ z. refusal-some e.refusal (q.0 ∙ z) in
        let t : IsTextRefusal u.number = text-number text u.number u.place
        (subst (λ (v : C.Cursor). (v.number ≡ 0 → ⊥) → read_text text ≡ refused_text v.number v.place) w (into text R P no_binders lr lp refl).declines n) in
        rw (ne_eqb u.number 0 n) (λ i. Err (record { refusal = (text-refusal-of e.refusal u.number q.0 t) i; place = q.1 i }))

    pub read-refused : (e : Refused) (R' P' S' : List ℕ) → Parses (in_expression false 0 0) text at-start R P no_binders (Err e) R' P' S' → ReadsInto text R P (Err e) R' P'
    unfolding D.ended
    read-refused e R' P' S' h =
        let j : D.ended (length text) h.state ≡ moved h.state h.state.cursor = Paths.then-stop _ refl (left-refused text e (Err e) R' P' S' h.state h.leaves refl) in
        reading h.state h.reads h.state.cursor j (Err e) (refusing h.state h.reads h.state.cursor j e h.leaves.cursor) R' P' h.leaves.records h.leaves.places

    module _ (a : Cursor) (R' P' S' : List ℕ) (h : Parses (in_expression false 0 0) text at-start R P no_binders (Ok a) R' P' S') (x : Lexed) (e : x ≡ lex_at text a.at) where
      abbrev whole : State
      whole = state_of text a R' P' S'

      whole-is : Reads (length text) (in_expression false 0 0) (state_of text at-start R P no_binders) whole
      whole-is = subst (Reads (length text) (in_expression false 0 0) (state_of text at-start R P no_binders)) (sym (left-is text a (Ok a) R' P' S' h.state h.leaves refl)) h.reads

      pub read_done : x.kind ≡ K.End → ReadsInto text R P (Ok (record { parts = a.parts; records = a.count; root = a.root })) R' P'
      unfolding D.ended C.judge C.at_mark answer_of when
      read_done q = reading whole whole-is (cursor_of text a) (Paths.then-go _ refl (clear-test h.clear) (rw (at-token text a.at x e K.End q))) _ (rw (clear-test h.clear) refl) R' P' refl refl

      pub read_more : (x.kind ≡ K.End → ⊥) → (f : Refused) → f ≡ refused_at x.start Ungrammatical → ReadsInto text R P (Err f) R' P'
      unfolding D.ended C.judge C.at_mark when
      read_more q f g =
          let u = C.refuse (length text) 5 (cursor_of text a) in
          let j : D.ended (length text) whole ≡ moved whole u = Paths.then-go _ refl (clear-test h.clear) (rw (not-token text a.at x e K.End q)) in
          reading whole whole-is u j (Err f) (refusing whole whole-is u j f (ungrammatical-here text a x e f g)) R' P' refl refl
