-- What each path through a function of scratch.rt gives, from its tests and calls, over plain variables. Assumes nothing.
use Rattle.std.specs.Prelude.{Option, Some, None, Result, Ok, Err}
use mathlib.Core.Path.{◌≡◌, refl, ap, sym, ◌∙◌}
use mathlib.Core.Bool.{Bool, true, false, cond, not}
use mathlib.Core.List.{List, []}
use Prim.Native.Nat.{ℕ, zero, suc, ◌+◌, ◌*◌, ◌-◌, ◌≤◌, ◌<◌}
use native.Mathlib.Numerals.{add-one}
use native.Mathlib.Omega.{arith}
use lib.Dec.{eqb}
use lib.IntN.{ℤ}
use lib.ListN.{length, set}
use borrow.Author.Tests.{eq-eqb, ne_eqb}
use Rattle.language.specs.Limits.{text_parts}
use Rattle.language.specs.Names.{is_long, packed, data_word}
use Rattle.grammar.specs.Tokens.{when}
use Rattle.grammar.proofs.TokensLaws.{by-test}
use Rattle.records.specs.Records.{number_key}
use Rattle.layout.specs.Held.{shaped, record_base, word_in}
use Rattle.layout.specs.Memory.{Node, node_with, node}
use Rattle.layout.specs.Nodes.{number_kind, variable_kind, unbound_kind, readings_kind}
use Rattle.layout.specs.declared.nodes.Shape.{Shape}
use Rattle.descent.specs.Cursor as C
use Rattle.descent.specs.Descent.{State, moved, then}
use Rattle.descent.specs.Descent as D
use Rattle.descent.specs.Moves.{not-refused, part-fits}
use Rattle.descent.specs.Paths.{then-stop, then-go}
use Rattle.steps.specs.declared.cursor.Cursor.{Cursor}
use Rattle.steps.specs.declared.scratch.Call.{Call}
use Rattle.language.specs.declared.refusals.Refusal.{Refusal}
use Rattle.language.specs.declared.refusals.Refusal.TheVariants.{NumberOutside, NameTooLong}
use Rattle.language.specs.declared.refusals.Refused.{Refused}
use Rattle.lexer.specs.declared.tokens.Lexed.{Lexed}
use Rattle.lexer.specs.Lexing.{lex_at, tokens_from, bytes_at, value_of, judged, name_at}
use Rattle.lexer.specs.LexingLaws.{judged-in, judged-beyond, name-whole}
use Rattle.steps.specs.Cursors.{state_of, refused_at, fault_of, part_to, passed_or_refused, part_or_refused, came_to, Comes, KeepsRefusal, Leaves, passing}
use Rattle.steps.specs.CursorsLaws.{head-word, head-value, refused-number, refused-here, judged-here, judged-part-here, judged-whole, judged-part-whole, whole-comes}
use Rattle.steps.proofs.CursorPaths.{refused-before, none-before}
use Rattle.steps.specs.Scratch.{call_of, Wrote, WroteIn, WroteFor, WroteCall, Linked, Recorded, ScopedRoom, NameRoom, NameAhead, NumberAhead}

-- ---- put
-- the word of a record, weight by weight
link-word : (x : Shape) → word_in record_base (shaped x) ≡ D.link_word (shaped x)
unfolding D.link_word
link-word x = omega arith

pub put-path : (c : Cursor) (p : ℕ) (x : Shape) (word : ℕ) → word ≡ word_in record_base (shaped x) → (records places : List ℕ)
    → Wrote (D.put p (shaped x)) c records places
    (record { at = c.at; parts = c.parts; count = c.count + 1; root = c.count; name = c.name; takes = c.takes; number = c.number; place = c.place })
    (set (set records (2 * c.count) word) (2 * c.count + 1) x.key) (set places p c.count)
unfolding D.put D.counted D.link_word
put-path c p x word e records places =
    record {
      same = λ text scope i. record {
        cursor = record { rest = tokens_from text c.at; parts = c.parts; count = add-one c.count i; root = c.count; name = c.name; takes = c.takes; number = c.number; place = c.place };
        records = set (set records (2 * c.count) ((e ∙ link-word x) i)) (2 * c.count + 1) x.key;
        places = set places p c.count;
        scope = scope;
      };
    }

-- ---- names
module _ (p x : ℕ) (c : Cursor) (records places : List ℕ) (r : Cursor) (records' places' : List ℕ) where
  pub bound-variable : (j level : ℕ) → j ≡ 0 → Wrote (D.put p (node_with variable_kind x 0 0 level)) c records places r records' places'
      → Wrote (D.put_bound p x j level) c records places r records' places'
  unfolding D.put_bound when
  bound-variable j level e h = record { same = λ text scope. rw (eq-eqb j 0 e) (h.same text scope) }

  pub bound-record : (j level : ℕ) → (j ≡ 0 → ⊥) → Linked p (j - 1) c places r places' → Wrote (D.put_bound p x j level) c records places r records places'
  unfolding D.put_bound D.link D.rooted when
  bound-record j level e h = record { same = λ text scope. rw (ne_eqb j 0 e) (λ i. state_of text (h.cursor i) records (h.written i) scope) }

  module _ (scope : List ℕ) where
    pub scoped-none : (b : ℕ) → b ≡ 0 → Wrote (D.put p (node unbound_kind x 0 0)) c records places r records' places'
        → WroteIn scope (D.put_scoped p x b) c records places r records' places'
    unfolding D.put_scoped when
    scoped-none b e h = record { same = λ text. rw (eq-eqb b 0 e) (h.same text scope) }

    pub scoped-bound : (b level : ℕ) → (b ≡ 0 → ⊥) → level ≡ C.lambdas_in scope (b - 1)
        → Wrote (D.put_bound p x (C.binder_link scope (b - 1)) level) c records places r records' places'
        → WroteIn scope (D.put_scoped p x b) c records places r records' places'
    unfolding D.put_scoped when
    scoped-bound b level e l h = record { same = λ text. rw (ne_eqb b 0 e, ← l) (h.same text scope) }

    pub name-data : (depth : ℕ) (t : Bool) → t ≡ eqb x (packed data_word) → t ≡ true → Wrote (D.put p (node readings_kind 0 0 0)) c records places r records' places'
        → WroteIn scope (D.put_name p x depth) c records places r records' places'
    unfolding D.put_name when
    name-data depth t q e h = record { same = λ text. rw (sym q ∙ e) (h.same text scope) }

    pub name-scoped : (depth b : ℕ) (t : Bool) → t ≡ eqb x (packed data_word) → t ≡ false → b ≡ C.binder_of scope x depth → WroteIn scope (D.put_scoped p x b) c records places r records' places'
        → WroteIn scope (D.put_name p x depth) c records places r records' places'
    unfolding D.put_name when
    name-scoped depth b t q n e h = record { same = λ text. rw (sym q ∙ n, ← e) (h.same text) }

pub ruleset putting = (put-path, bound-variable, bound-record, scoped-none, scoped-bound, name-data, name-scoped)

-- a binder that is found is one of the scope, and its link is bounded as all are
module _ (scope : List ℕ) (x : ℕ) where
  binder-few : (depth : ℕ) → C.binder_of scope x depth ≤ depth
  unfolding C.binder_of
  binder-few zero = omega arith
  binder-few (suc b) =
      by-test (λ n. n ≤ suc b) (eqb x (C.binder_name scope b)) (λ _. suc b) (λ _. C.binder_of scope x b) (λ _. omega arith) (λ _. let h = binder-few b in omega arith)

  binder-link : (depth : ℕ) → ((b : ℕ) → b < depth → C.binder_link scope b ≤ text_parts) → (C.binder_of scope x depth ≡ 0 → ⊥)
      → C.binder_link scope (C.binder_of scope x depth - 1) ≤ text_parts
  unfolding C.binder_of
  binder-link zero h = λ n. absurd (n refl)
  binder-link (suc b) h =
      by-test (λ k. (k ≡ 0 → ⊥) → C.binder_link scope (k - 1) ≤ text_parts) (eqb x (C.binder_name scope b)) (λ _. suc b) (λ _. C.binder_of scope x b)
      (λ _ _. let e : suc b - 1 ≡ b = omega arith in rw e (h b (omega arith))) (λ _. binder-link b (λ i l. h i (omega arith)))

  pub binder-room : (c : Cursor) (p depth b : ℕ) → NameRoom c p depth scope → b ≡ C.binder_of scope x depth → ScopedRoom c p b scope
  binder-room c p depth b h e =
      let few = binder-few depth in
      let d = h.depth in
      record { count = h.count; place = h.place; binder = omega arith; link = λ n. rw e (binder-link depth h.links (λ z. n (e ∙ z))) }

-- ---- a refusal and a way on, as states
module _ (text : List ℕ) (R P S : List ℕ) where
  pub refused-leaves : (c : Cursor) (f : Refused) (d : C.Cursor) (k : State → State) → Comes text (Err f) d
      → Leaves text (Err f) R P S (then (moved (state_of text c R P S) d) k)
  refused-leaves c f d k h =
      rw (then-stop k (refl {a = moved (state_of text c R P S) d}) (refused-number text f d h)) (record { cursor = h; records = refl; places = refl; scope = refl })

  -- with all that descent's cursor holds
  refused-came : (c : Cursor) (f : Refused) (d : C.Cursor) (k : State → State) → came_to text c (Err f) ≡ d
      → came_to text c (Err f) ≡ (then (moved (state_of text c R P S) d) k).cursor
  refused-came c f d k h =
      rw (then-stop k (refl {a = moved (state_of text c R P S) d}) (refused-number text f d (whole-comes text c (Err f) h))) h

  pub passed-on : (c a : Cursor) (d : C.Cursor) (k : State → State) → Comes text (Ok a) d → a.number ≡ 0 → (s : State) → s ≡ k (state_of text a R P S)
      → s ≡ then (moved (state_of text c R P S) d) k
  passed-on c a d k h z s e = sym (then-go k (ap (moved (state_of text c R P S)) (sym h)) (eq-eqb a.number 0 z) (sym e))

  pub leaves_ok : (r : Cursor) (s : State) → state_of text r R P S ≡ s → Leaves text (Ok r) R P S s
  leaves_ok r s e =
      record { cursor = ap (λ (v : State). v.cursor) e; records = ap (λ (v : State). v.records) e; places = ap (λ (v : State). v.places) e; scope = ap (λ (v : State). v.scope) e }

  -- behind the token nothing more is done where something was refused before
  pub held-leaves : (c a : Cursor) (d : C.Cursor) (k : State → State) → Comes text (Ok a) d → eqb a.number 0 ≡ false
      → Leaves text (Ok a) R P S (then (moved (state_of text c R P S) d) k)
  held-leaves c a d k h z = leaves_ok a _ (sym (then-stop k (ap (moved (state_of text c R P S)) (sym h)) z))

-- ---- what is written leaves what was refused before as it is
abbrev AsBefore : State → State → Type 0
AsBefore s a = (a.cursor.number ≡ s.cursor.number) × (a.cursor.place ≡ s.cursor.place)

put-before : (p : ℕ) (n : Node) (s : State) → AsBefore s (D.put p n s)
unfolding D.put D.counted
put-before p n s = (refl, refl)

name-before : (p x depth : ℕ) (s : State) → AsBefore s (D.put_name p x depth s)
unfolding D.put_name D.put_scoped D.put_bound D.link D.rooted
name-before p x depth s =
    by-test (AsBefore s) _ _ _ (λ _. put-before p _ s)
    (λ _. by-test (AsBefore s) _ _ _ (λ _. put-before p _ s) (λ _. by-test (AsBefore s) _ _ _ (λ _. put-before p _ s) (λ _. (refl, refl))))

module _ (p : ℕ) (c a : Cursor) (k : KeepsRefusal c (Ok a)) (records places : List ℕ) (r : Cursor) (records' places' : List ℕ) where
  pub put-kept : (n : Node) → Wrote (D.put p n) a records places r records' places' → KeepsRefusal c (Ok r)
  put-kept n h =
      let e = h.same [] [] in
      let b = put-before p n (state_of [] a records places []) in
      (ap (λ (s : State). s.cursor.number) e ∙ b.0 ∙ k.0, ap (λ (s : State). s.cursor.place) e ∙ b.1 ∙ k.1)

  pub name-kept : (x depth : ℕ) (scope : List ℕ) → WroteIn scope (D.put_name p x depth) a records places r records' places' → KeepsRefusal c (Ok r)
  name-kept x depth scope h =
      let e = h.same [] in
      let b = name-before p x depth (state_of [] a records places scope) in
      (ap (λ (s : State). s.cursor.number) e ∙ b.0 ∙ k.0, ap (λ (s : State). s.cursor.place) e ∙ b.1 ∙ k.1)

-- ---- a token that is passed
module _ (x : Lexed) (c a : Cursor) (v : Result (Unit {0}) Refusal) where
  pub passed-part : Ok a ≡ part_or_refused x.start x.end v c → (fault_of v ≡ 0) × (a.count ≡ c.count)
  passed-part = go v
    where
      go : (v : Result (Unit {0}) Refusal) → Ok a ≡ part_or_refused x.start x.end v c → (fault_of v ≡ 0) × (a.count ≡ c.count)
      go (Ok u) q = let e : a ≡ part_to c x.end = cc in (refl, ap (λ (b : Cursor). b.count) e)
      go (Err f) q = (cc, cc)

  module _ (w : Bool) (f : fault_of v ≡ cond w 9 (C.at_part c.parts)) (q : Ok a ≡ part_or_refused x.start x.end v c) where
    few-parts : c.parts < text_parts
    few-parts = part-fits c.parts (not-refused w 8 _ (sym f ∙ (passed-part q).0)).1

    pub name-room : (text : List ℕ) (depth : ℕ) (scope : List ℕ) → NameAhead text x depth c scope → NameRoom a c.parts depth scope
    name-room text depth scope h =
        let few = few-parts in
        let e = (passed-part q).1 in
        let m = h.count in
        record { count = omega arith; place = few; depth = h.depth; links = λ b i. let l = h.links b i in omega arith }

    pub number-room : (text : List ℕ) → NumberAhead text x c → Recorded a c.parts 0 0 0
    number-room text h =
        let few = few-parts in
        let e = (passed-part q).1 in
        let m = h.count in
        record { count = omega arith; place = few; kind = omega arith; first = omega arith; second = omega arith }

-- ---- read_name and read_number
module _ (text : List ℕ) (w : Bool) (c : Cursor) (x : Lexed) (records places : List ℕ) where
  abbrev bytes-there : List ℕ
  bytes-there = bytes_at text x.start x.end

  module _ (depth : ℕ) (scope : List ℕ) (long : Bool) (l : long ≡ is_long bytes-there) (h : NameAhead text x depth c scope) where
    abbrev read_name : State
    read_name = D.read_name (length text) w depth (state_of text c records places scope)

    the_word : C.head_word (tokens_from text c.at) ≡ bytes-there
    the_word = head-word text c.at x h.next h.kind

    name-number : C.at_name w (C.head_word (tokens_from text c.at)) c.parts ≡ cond long 7 (cond w 9 (C.at_part c.parts))
    unfolding C.at_name
    name-number = rw (l, the_word)

    pub name-long : long ≡ true → (f : Refused) → f ≡ refused_at x.start NameTooLong → Leaves text (Err f) records places scope read_name
    unfolding D.read_name
    name-long t f q = rw q (refused-leaves text records places scope c _ _ _ (refused-here text c x h.next NameTooLong _ (sym (name-number ∙ rw t)) _))

    -- with all that descent's cursor holds
    name-came : (v : Result (Unit {0}) Refusal) → fault_of v ≡ C.at_name w (C.head_word (tokens_from text c.at)) c.parts → (f : Refused) → Err f ≡ part_or_refused x.start x.end v c
        → came_to text c (Err f) ≡ read_name.cursor
    unfolding D.read_name
    name-came v p f q = refused-came text records places scope c f _ _ (judged-part-whole text c x h.next _ v p (Err f) q)

    pub name-long-whole : long ≡ true → (f : Refused) → f ≡ refused_at x.start NameTooLong → came_to text c (Err f) ≡ read_name.cursor
    name-long-whole t f q = name-came (Err NameTooLong) (sym (name-number ∙ rw t)) f (ap (λ (g : Refused). Err g) q)

    module _ (t : long ≡ false) (v : Result (Unit {0}) Refusal) (p : fault_of v ≡ cond w 9 (C.at_part c.parts)) where
      verdict : fault_of v ≡ C.at_name w (C.head_word (tokens_from text c.at)) c.parts
      verdict = p ∙ sym (name-number ∙ rw t)

      pub name-stopped : (f : Refused) → Err f ≡ part_or_refused x.start x.end v c → Leaves text (Err f) records places scope read_name
      unfolding D.read_name
      name-stopped f q = refused-leaves text records places scope c f _ _ (judged-part-here text c x h.next _ v verdict (Err f) q)

      pub name-stopped-whole : (f : Refused) → Err f ≡ part_or_refused x.start x.end v c → came_to text c (Err f) ≡ read_name.cursor
      name-stopped-whole f q = name-came v verdict f q

      module _ (a : Cursor) (q : Ok a ≡ part_or_refused x.start x.end v c) (b : Bool) (o : b ≡ not (eqb a.number 0)) where
        pub name-held : b ≡ true → Leaves text (Ok a) records places scope read_name
        unfolding D.read_name
        name-held u = held-leaves text records places scope c a _ _ (judged-part-here text c x h.next _ v verdict (Ok a) q) (refused-before a.number b o u)

        pub name-read : b ≡ false → (m : ℕ) → m ≡ name_at bytes-there → (r : Cursor) (records' places' : List ℕ)
            → WroteIn scope (D.put_name c.parts m depth) a records places r records' places' → Leaves text (Ok r) records' places' scope read_name
        unfolding D.read_name
        name-read u m e r records' places' k =
            let y : m ≡ packed (C.head_word (tokens_from text c.at)) = e ∙ name-whole bytes-there (sym l ∙ t) ∙ ap packed (sym the_word) in
            leaves_ok text records' places' scope r _
            (passed-on text records places scope c a _ _ (judged-part-here text c x h.next _ v verdict (Ok a) q) (none-before a.number b o u) _
            (k.same text ∙ ap (λ (n : ℕ). D.put_name c.parts n depth (state_of text a records places scope)) y))

  module _ (value : Option ℤ) (v : value ≡ judged (value_of bytes-there)) (h : NumberAhead text x c) where
    the_value : C.head_value (tokens_from text c.at) ≡ value_of bytes-there
    the_value = head-value text c.at x h.next h.kind

    number-number : (t : Bool) → C.is_outside (value_of bytes-there) ≡ t → C.at_number w (C.head_value (tokens_from text c.at)) c.parts ≡ cond t 6 (cond w 9 (C.at_part c.parts))
    unfolding C.at_number
    number-number t e = rw (the_value, e)

    -- with all that descent's cursor holds
    number-came : (u : Result (Unit {0}) Refusal) → fault_of u ≡ C.at_number w (C.head_value (tokens_from text c.at)) c.parts → (f : Refused) → Err f ≡ part_or_refused x.start x.end u c
        → (scope : List ℕ) → came_to text c (Err f) ≡ (D.read_number (length text) w (state_of text c records places scope)).cursor
    unfolding D.read_number
    number-came u p f q scope = refused-came text records places scope c f _ _ (judged-part-whole text c x h.next _ u p (Err f) q)

    pub number-outside-whole : value ≡ None → (f : Refused) → f ≡ refused_at x.start NumberOutside
        → (scope : List ℕ) → came_to text c (Err f) ≡ (D.read_number (length text) w (state_of text c records places scope)).cursor
    number-outside-whole n f q =
        number-came (Err NumberOutside) (sym (number-number true (judged-beyond (value_of bytes-there) (sym v ∙ n)))) f (ap (λ (g : Refused). Err g) q)

    pub number-outside : value ≡ None → (f : Refused) → f ≡ refused_at x.start NumberOutside → WroteFor text (D.read_number (length text) w) c records places (Err f) records places
    unfolding D.read_number
    number-outside n f q =
        record {
          leaves = λ scope.
              rw q (refused-leaves text records places scope c _ _ _
              (refused-here text c x h.next NumberOutside _ (sym (number-number true (judged-beyond (value_of bytes-there) (sym v ∙ n)))) _));
        }

    module _ (z : ℤ) (i : value ≡ Some z) (u : Result (Unit {0}) Refusal) (p : fault_of u ≡ cond w 9 (C.at_part c.parts)) where
      inside : (z ≡ value_of bytes-there) × (C.is_outside (value_of bytes-there) ≡ false)
      inside = judged-in (value_of bytes-there) z (sym v ∙ i)

      number-verdict : fault_of u ≡ C.at_number w (C.head_value (tokens_from text c.at)) c.parts
      number-verdict = p ∙ sym (number-number false inside.1)

      pub number-stopped : (f : Refused) → Err f ≡ part_or_refused x.start x.end u c → WroteFor text (D.read_number (length text) w) c records places (Err f) records places
      unfolding D.read_number
      number-stopped f q =
          record { leaves = λ scope. refused-leaves text records places scope c f _ _ (judged-part-here text c x h.next _ u number-verdict (Err f) q) }

      pub number-stopped-whole : (f : Refused) → Err f ≡ part_or_refused x.start x.end u c
          → (scope : List ℕ) → came_to text c (Err f) ≡ (D.read_number (length text) w (state_of text c records places scope)).cursor
      number-stopped-whole f q = number-came u number-verdict f q

      module _ (a : Cursor) (q : Ok a ≡ part_or_refused x.start x.end u c) (b : Bool) (o : b ≡ not (eqb a.number 0)) where
        pub number-held : b ≡ true → WroteFor text (D.read_number (length text) w) c records places (Ok a) records places
        unfolding D.read_number
        number-held t =
            record {
              leaves = λ scope.
                  held-leaves text records places scope c a _ _ (judged-part-here text c x h.next _ u number-verdict (Ok a) q) (refused-before a.number b o t);
            }

        pub number_read : b ≡ false → (m : ℕ) → m ≡ number_key z → (r : Cursor) (records' places' : List ℕ)
            → Wrote (D.put c.parts (node number_kind m 0 0)) a records places r records' places'
            → WroteFor text (D.read_number (length text) w) c records places (Ok r) records' places'
        unfolding D.read_number
        number_read t m e r records' places' k =
            let y : m ≡ number_key (C.head_value (tokens_from text c.at)) = e ∙ ap number_key (inside.0 ∙ sym the_value) in
            record {
              leaves = λ scope.
                  leaves_ok text records' places' scope r _
                  (passed-on text records places scope c a _ _ (judged-part-here text c x h.next _ u number-verdict (Ok a) q) (none-before a.number b o t) _
                  (k.same text scope ∙ ap (λ (n : ℕ). D.put c.parts (node number_kind n 0 0) (state_of text a records places scope)) y));
            }

-- ---- read_shut
module _ (start end : ℕ) (k : Call) (c : Cursor) (v : Result (Unit {0}) Refusal) (p : fault_of v ≡ C.at_shut k.takes) (records places : List ℕ) where
  shut-judged : (r : Result Cursor Refused) → r ≡ passed_or_refused start end v c → (text : List ℕ) (x : Lexed) → x ≡ lex_at text c.at → x.start ≡ start → x.end ≡ end
      → Comes text r (passing text (C.at_shut k.takes) c)
  shut-judged r q text x e s t = judged-here text c x e _ v p r (rw (s, t) q)

  pub shut-stopped : (f : Refused) → Err f ≡ passed_or_refused start end v c → WroteCall start end k c records places (Err f) records places
  unfolding D.read_shut
  shut-stopped f q =
      record {
        leaves = λ text scope x e s t. refused-leaves text records places scope c f _ _ (shut-judged (Err f) q text x e s t);
        whole = λ text scope x e s t. refused-came text records places scope c f _ _ (judged-whole text c x e _ v p (Err f) (rw (s, t) q));
      }

  shut-went : (r : Cursor) (records' places' : List ℕ)
      → ((text scope : List ℕ) (x : Lexed) → x ≡ lex_at text c.at → x.start ≡ start → x.end ≡ end
      → Leaves text (Ok r) records' places' scope (D.read_shut (length text) (call_of k) (state_of text c records places scope)))
      → WroteCall start end k c records places (Ok r) records' places'
  shut-went r records' places' h = record { leaves = h; whole = λ text scope x e s t. (h text scope x e s t).cursor }

  module _ (a : Cursor) (q : Ok a ≡ passed_or_refused start end v c) (b : Bool) (o : b ≡ not (eqb a.number 0)) where
    pub shut-held : b ≡ true → WroteCall start end k c records places (Ok a) records places
    unfolding D.read_shut
    shut-held h =
        shut-went a records places
        (λ text scope x e s t. held-leaves text records places scope c a _ _ (shut-judged (Ok a) q text x e s t) (refused-before a.number b o h))

    pub shut-read : b ≡ false → (r : Cursor) (records' places' : List ℕ)
        → Wrote (D.put k.place (node k.kind 0 (k.receiver + 1) k.argument)) a records places r records' places'
        → WroteCall start end k c records places (Ok r) records' places'
    unfolding D.read_shut
    shut-read g r records' places' h =
        shut-went r records' places'
        (λ text scope x e s t. leaves_ok text records' places' scope r _
        (passed-on text records places scope c a _ _ (shut-judged (Ok a) q text x e s t) (none-before a.number b o g) _
        (h.same text scope ∙ ap (λ (n : ℕ). D.put k.place (node k.kind 0 n k.argument) (state_of text a records places scope)) (add-one k.receiver))))
