-- What each path through a function of cursor.rt gives, from its tests and calls, over plain variables. Assumes nothing.
use Rattle.std.specs.Prelude.{Option, Some, None, Result, Ok, Err}
use mathlib.Core.Path.{◌≡◌, refl, ap, sym, ◌∙◌}
use mathlib.Core.Bool.{Bool, true, false, cond, not}
use mathlib.Core.List.{List}
use Prim.Native.Nat.{ℕ, zero, suc, ◌+◌, ◌*◌, ◌-◌, ◌≤◌, ◌<◌}
use native.Mathlib.Numerals.{add-one}
use native.Mathlib.Omega.{arith}
use lib.Dec.{leb, eqb}
use lib.ListN.{length, get_or}
use borrow.Author.Tests.{eq-eqb, ne_eqb, eqb-true}
use Rattle.language.specs.Limits.{open_marks}
use Rattle.language.specs.Names.{is_long, is_data, packed, data_word}
use Rattle.members.specs.Members.{member_of, member_number, is_unknown, takes, arguments}
use Rattle.members.specs.declared.Member.{Member}
use Rattle.grammar.specs.Tokens.{when, Located}
use Rattle.meaning.specs.Binding.{member}
use Rattle.layout.specs.Nodes.{first_member, member_kind}
use Rattle.descent.specs.Cursor as D
use Rattle.steps.specs.declared.cursor.Cursor.{Cursor}
use Rattle.language.specs.declared.refusals.Refusal.{Refusal}
use Rattle.language.specs.declared.refusals.Refusal.TheVariants.{Ungrammatical, NameTooLong, DataBound, WrongCall}
use Rattle.language.specs.declared.refusals.Refused.{Refused}
use Rattle.language.specs.Refusals.{refusal_number}
use Rattle.language.specs.RefusalsLaws.{refusal-some}
use Rattle.lexer.specs.declared.tokens.Lexed.{Lexed}
use Rattle.lexer.specs.declared.tokens.TokenKind.{TokenKind}
use Rattle.lexer.specs.declared.tokens.TokenKind.TheVariants as K
use Rattle.lexer.specs.Lexing.{kind_number, lex_at, tokens_from, bytes_at, name_at}
use Rattle.lexer.specs.LexingLaws.{name-whole}
use Rattle.steps.specs.Cursors.{cursor_of, passed_to, named_to, refused_at, fault_of, passed_or_refused, part_or_refused, came_to, Comes, KeepsRefusal, passing_part, binder_named, member_named, call_opened}
use Rattle.steps.specs.CursorsLaws.{behind-head, head-word, at-token, not-token, refused-number, refused-here, goes-here, passed_here, judged-here, judged-part-here, judged-whole, judged-part-whole, part-kept, whole-comes}

-- ---- the scope
module _ (scope : List ℕ) (x : ℕ) where
  binder-here : (i : ℕ) → x ≡ get_or scope (2 * i) 0 → suc i ≡ D.binder_of scope x (suc i)
  unfolding D.binder_of when
  binder-here i e = rw (eq-eqb x (get_or scope (2 * i) 0) e)

  pub binder-found : (b depth : ℕ) → D.binder_of scope x b ≡ D.binder_of scope x depth → 0 < b → x ≡ get_or scope (2 * (b - 1)) 0 → b - 1 + 1 ≡ D.binder_of scope x depth
  binder-found zero depth h l e = absurd (omega arith)
  binder-found (suc i) depth h l e = let n : suc i - 1 ≡ i = omega arith in rw (n, add-one) (binder-here i (rw n at e) ∙ h)

  binder-past : (i : ℕ) → (x ≡ get_or scope (2 * i) 0 → ⊥) → D.binder_of scope x (suc i) ≡ D.binder_of scope x i
  unfolding D.binder_of when
  binder-past i e = rw (ne_eqb x (get_or scope (2 * i) 0) e)

  pub binder-next : (b depth : ℕ) → D.binder_of scope x b ≡ D.binder_of scope x depth → 0 < b → (x ≡ get_or scope (2 * (b - 1)) 0 → ⊥)
      → D.binder_of scope x (b - 1) ≡ D.binder_of scope x depth
  binder-next zero depth h l e = absurd (omega arith)
  binder-next (suc i) depth h l e = let n : suc i - 1 ≡ i = omega arith in rw n (sym (binder-past i (rw n at e)) ∙ h)

  pub binder-none : (b depth : ℕ) → D.binder_of scope x b ≡ D.binder_of scope x depth → b ≤ 0 → 0 ≡ D.binder_of scope x depth
  unfolding D.binder_of
  binder-none zero depth h l = h
  binder-none (suc i) depth h l = absurd (omega arith)

module _ (scope : List ℕ) (b : ℕ) where
  pub lambdas-next : (n m : ℕ) → n ≡ D.lambdas_in scope b → m ≡ cond (eqb (D.binder_link scope b) 0) (suc n) n → m ≡ D.lambdas_in scope (b + 1)
  unfolding D.lambdas_in
  lambdas-next n m h e = rw (add-one, ← h) e

  pub lambdas-few : (n m : ℕ) → n ≤ b → m ≡ cond (eqb (D.binder_link scope b) 0) (suc n) n → m ≤ b + 1
  lambdas-few n m h e = go (eqb (D.binder_link scope b) 0) e
    where
      go : (t : Bool) → m ≡ cond t (suc n) n → m ≤ b + 1
      go true q = omega arith
      go false q = omega arith

pub lambdas-none : (scope : List ℕ) → 0 ≡ D.lambdas_in scope 0
unfolding D.lambdas_in
lambdas-none scope = refl

pub ruleset scope_rules = (binder-found, binder-next, binder-none, lambdas-none, lambdas-few, lambdas-next)

-- ---- members
member_is : (w : List ℕ) (f : Option Member) (m : Member) → f ≡ member_of w → f ≡ Some m → m ≡ member w
unfolding member
member_is w f m g i = rw (sym g ∙ i)

-- ---- the test of what was refused before
pub refused-before : (n : ℕ) (t : Bool) → t ≡ not (eqb n 0) → t ≡ true → eqb n 0 ≡ false
refused-before n t h e = go (eqb n 0) (sym h ∙ e)
  where
    go : (b : Bool) → not b ≡ true → b ≡ false
    go true q = cc
    go false q = refl

pub none-before : (n : ℕ) (t : Bool) → t ≡ not (eqb n 0) → t ≡ false → n ≡ 0
none-before n t h e = eqb-true n 0 (go (eqb n 0) (sym h ∙ e))
  where
    go : (b : Bool) → not b ≡ false → b ≡ true
    go true q = refl
    go false q = cc

-- ---- next
next-go : (text : List ℕ) {x : D.Cursor} (a : Cursor) (k : D.Cursor → D.Cursor) → Comes text (Ok a) x → a.number ≡ 0 → (r : Result Cursor Refused)
    → Comes text r (k (cursor_of text a)) → Comes text r (D.next (length text) x k)
unfolding D.next when
next-go text a k e z r h = rw (← e, eq-eqb a.number 0 z) h

next-held : (text : List ℕ) {x : D.Cursor} (a : Cursor) (k : D.Cursor → D.Cursor) → Comes text (Ok a) x → eqb a.number 0 ≡ false → Comes text (Ok a) (D.next (length text) x k)
unfolding D.next when
next-held text a k e z = rw (← e, z) refl

next-stop : (text : List ℕ) (x : D.Cursor) (e : Refused) (k : D.Cursor → D.Cursor) → Comes text (Err e) x → Comes text (Err e) (D.next (length text) x k)
unfolding D.next when
next-stop text x e k h = rw (refused-number text e x h) h

-- with all that descent's cursor holds, where the token at the cursor is refused
next-whole : (text : List ℕ) (c : Cursor) (f : Refused) {x : D.Cursor} (k : D.Cursor → D.Cursor) → came_to text c (Err f) ≡ x → came_to text c (Err f) ≡ D.next (length text) x k
unfolding D.next when
next-whole text c f k e = rw (← e, ne_eqb (refusal_number f.refusal) 0 (refusal-some f.refusal)) refl

-- a cursor with a refusal comes no further than the first token
pub no-further : (start end : ℕ) (c a : Cursor) (v : Result (Unit {0}) Refusal) → Ok a ≡ part_or_refused start end v c → (t : Bool) → t ≡ not (eqb a.number 0) → t ≡ false
    → (c.number ≡ 0 → ⊥) → ⊥
no-further start end c a v q t o u n = n (sym (part-kept start end c v (Ok a) q).0 ∙ none-before a.number t o u)

-- ---- the token at the cursor
module _ (text : List ℕ) (c : Cursor) (x : Lexed) (e : x ≡ lex_at text c.at) where
  abbrev left : List Located
  left = tokens_from text c.at

  abbrev bytes : List ℕ
  bytes = bytes_at text x.start x.end

  stops : (g : Refusal) (n : ℕ) → refusal_number g ≡ n → (f : Refused) → f ≡ refused_at x.start g → (d : Unit {0} → D.Cursor)
      → Comes text (Err f) (D.judge (length text) n (cursor_of text c) d)
  stops g n p f q d = rw q (refused-here text c x e g n p d)

  named_here : (n n' t t' : ℕ) → n ≡ n' → t ≡ t' → cursor_of text (named_to c x.end n t)
      ≡ record { rest = D.behind_head left; parts = c.parts; count = c.count; root = c.root; name = n'; takes = t'; number = c.number; place = c.place }
  named_here n n' t t' p q =
      λ i. record { rest = sym (behind-head text c.at x e) i; parts = c.parts; count = c.count; root = c.root; name = p i; takes = q i; number = c.number; place = c.place }

  -- a token of one kind
  pub need-passed : (k : TokenKind) → x.kind ≡ k → (r : Cursor) → r ≡ passed_to c x.end → Comes text (Ok r) (D.need (length text) (kind_number k) (cursor_of text c))
  unfolding D.need D.at_mark
  need-passed k z r q = goes-here text c x e _ (ap (λ (t : Bool). cond t 0 5) (sym (at-token text c.at x e k z))) r _ (ap (cursor_of text) q ∙ passed_here text c x e)

  pub need-refused-whole : (k : TokenKind) → (x.kind ≡ k → ⊥) → (f : Refused) → f ≡ refused_at x.start Ungrammatical
      → came_to text c (Err f) ≡ D.need (length text) (kind_number k) (cursor_of text c)
  unfolding D.need D.at_mark
  need-refused-whole k z f q =
      judged-whole text c x e _ (Err Ungrammatical) (ap (λ (t : Bool). cond t 0 5) (sym (not-token text c.at x e k z))) (Err f) (ap (λ (g : Refused). Err g) q)

  pub need-refused : (k : TokenKind) → (x.kind ≡ k → ⊥) → (f : Refused) → f ≡ refused_at x.start Ungrammatical
      → Comes text (Err f) (D.need (length text) (kind_number k) (cursor_of text c))
  need-refused k z f q = whole-comes text c (Err f) (need-refused-whole k z f q)

  -- the name that a let or a lambda binds
  pub name-none : (x.kind ≡ K.Word → ⊥) → (f : Refused) → f ≡ refused_at x.start Ungrammatical → Comes text (Err f) (binder_named text c)
  unfolding D.at_binder
  name-none z f q = stops Ungrammatical _ (rw (not-token text c.at x e K.Word z)) f q _

  module _ (z : x.kind ≡ K.Word) (long : Bool) (l : long ≡ is_long bytes) where
    binder-number : D.at_binder left ≡ cond long 7 (cond (is_data bytes) 8 0)
    unfolding D.at_binder
    binder-number = rw (at-token text c.at x e K.Word z, head-word text c.at x e z, l)

    pub binder-long : long ≡ true → (f : Refused) → f ≡ refused_at x.start NameTooLong → Comes text (Err f) (binder_named text c)
    binder-long t f q = stops NameTooLong _ (sym (binder-number ∙ rw t)) f q _

    module _ (t : long ≡ false) (m : ℕ) (p : m ≡ name_at bytes) (reserved : Bool) (o : reserved ≡ eqb m (packed data_word)) where
      name-is : m ≡ packed bytes
      name-is = p ∙ name-whole bytes (sym l ∙ t)

      reserved-number : D.at_binder left ≡ cond reserved 8 0
      unfolding is_data
      reserved-number = binder-number ∙ rw (t, o, name-is)

      pub binder-reserved : reserved ≡ true → (f : Refused) → f ≡ refused_at x.start DataBound → Comes text (Err f) (binder_named text c)
      binder-reserved u f q = stops DataBound _ (sym (reserved-number ∙ rw u)) f q _

      pub binder-passed : reserved ≡ false → (r : Cursor) → r ≡ named_to c x.end m c.takes → Comes text (Ok r) (binder_named text c)
      unfolding D.pass_name
      binder-passed u r q =
          goes-here text c x e _ (sym (reserved-number ∙ rw u)) r _
          (ap (cursor_of text) q ∙ named_here m _ _ _ (name-is ∙ ap packed (sym (head-word text c.at x e z))) refl)

  -- a member: none, one that is not known, and one that is
  pub member-none : (x.kind ≡ K.Word → ⊥) → (f : Refused) → f ≡ refused_at x.start Ungrammatical → Comes text (Err f) (member_named text c)
  unfolding D.at_member
  member-none z f q = stops Ungrammatical _ (rw (not-token text c.at x e K.Word z)) f q _

  module _ (z : x.kind ≡ K.Word) (found : Option Member) (g : found ≡ member_of bytes) where
    member-number : D.at_member left ≡ cond (is_unknown found) 9 0
    unfolding D.at_member
    member-number = rw (at-token text c.at x e K.Word z, head-word text c.at x e z, g)

    pub member-unknown : found ≡ None → (f : Refused) → f ≡ refused_at x.start WrongCall → Comes text (Err f) (member_named text c)
    member-unknown i f q = stops WrongCall _ (sym (member-number ∙ rw i)) f q _

    pub member-known : (m : Member) → found ≡ Some m → (n t : ℕ) → n ≡ member_number m → t ≡ arguments m → (r : Cursor) → r ≡ named_to c x.end (first_member + n) t
        → Comes text (Ok r) (member_named text c)
    unfolding D.pass_member takes
    member-known m i n t p v r q =
        let h : bytes ≡ D.head_word left = sym (head-word text c.at x e z) in
        goes-here text c x e _ (sym (member-number ∙ rw i)) r _ (ap (cursor_of text) q ∙ named_here (first_member + n) _ t _
        (ap (λ (k : ℕ). first_member + k) p ∙ ap member_kind (member_is bytes found m g i) ∙ ap (λ (w : List ℕ). member_kind (member w)) h)
        (v ∙ ap takes (sym i ∙ g) ∙ ap (λ (w : List ℕ). takes (member_of w)) h))

  -- the bracket of a call
  module _ (marks : ℕ) where
    pub open-none : (x.kind ≡ K.Open → ⊥) → (f : Refused) → f ≡ refused_at x.start Ungrammatical → Comes text (Err f) (call_opened text marks c)
    unfolding D.at_call_open
    open-none z f q = stops Ungrammatical _ (rw (not-token text c.at x e K.Open z)) f q _

    pub open_judged : x.kind ≡ K.Open → (v : Result (Unit {0}) Refusal) → fault_of v ≡ cond (leb open_marks marks) 12 0 → (r : Result Cursor Refused)
        → r ≡ passed_or_refused x.start x.end v c → Comes text r (call_opened text marks c)
    unfolding D.at_call_open
    open_judged z v p r q = judged-here text c x e _ v (p ∙ rw (at-token text c.at x e K.Open z)) r q

-- ---- the heads
module _ (text : List ℕ) (x : Lexed) (c : Cursor) (e : x ≡ lex_at text c.at) (v : Result (Unit {0}) Refusal) where
  module _ (w : Bool) (marks : ℕ) (p : fault_of v ≡ D.at_let w marks c.parts) where
    pub let-stops-whole : (f : Refused) → Err f ≡ part_or_refused x.start x.end v c → came_to text c (Err f) ≡ D.let_head (length text) w marks (cursor_of text c)
    unfolding D.let_head
    let-stops-whole f q = next-whole text c f _ (judged-part-whole text c x e _ v p (Err f) q)

    pub let-stops : (f : Refused) → Err f ≡ part_or_refused x.start x.end v c → Comes text (Err f) (D.let_head (length text) w marks (cursor_of text c))
    let-stops f q = whole-comes text c (Err f) (let-stops-whole f q)

    module _ (a : Cursor) (q : Ok a ≡ part_or_refused x.start x.end v c) (t : Bool) (o : t ≡ not (eqb a.number 0)) where
      pub let-held : t ≡ true → Comes text (Ok a) (D.let_head (length text) w marks (cursor_of text c))
      unfolding D.let_head
      let-held u = next-held text a _ (judged-part-here text c x e _ v p (Ok a) q) (refused-before a.number t o u)

      module _ (u : t ≡ false) where
        pub let-name-stops : (f : Refused) → Comes text (Err f) (binder_named text a) → Comes text (Err f) (D.let_head (length text) w marks (cursor_of text c))
        unfolding D.let_head
        let-name-stops f h = next-go text a _ (judged-part-here text c x e _ v p (Ok a) q) (none-before a.number t o u) (Err f) (next-stop text _ f _ h)

        pub let-goes : (b : Cursor) → Comes text (Ok b) (binder_named text a) → KeepsRefusal a (Ok b) → (r : Result Cursor Refused)
            → Comes text r (D.need (length text) D.equals_kind (cursor_of text b)) → Comes text r (D.let_head (length text) w marks (cursor_of text c))
        unfolding D.let_head
        let-goes b h g r k =
            let z = none-before a.number t o u in
            next-go text a _ (judged-part-here text c x e _ v p (Ok a) q) z r (next-go text b _ h (g.0 ∙ z) r k)

  module _ (w : Bool) (marks depth lambdas : ℕ) (scope : List ℕ) (l : lambdas ≡ D.lambdas_in scope depth) (p : fault_of v ≡ D.at_lambda w lambdas marks c.parts) where
    abbrev whole : D.Cursor
    whole = D.lambda_head (length text) w marks depth scope (cursor_of text c)

    lambda-verdict : fault_of v ≡ D.at_lambda w (D.lambdas_in scope depth) marks c.parts
    lambda-verdict = p ∙ ap (λ (k : ℕ). D.at_lambda w k marks c.parts) l

    lambda-first : (r : Result Cursor Refused) → r ≡ part_or_refused x.start x.end v c → Comes text r (passing_part text (D.at_lambda w (D.lambdas_in scope depth) marks c.parts) c)
    lambda-first r q = judged-part-here text c x e _ v lambda-verdict r q

    pub lambda-stops-whole : (f : Refused) → Err f ≡ part_or_refused x.start x.end v c → came_to text c (Err f) ≡ whole
    unfolding D.lambda_head
    lambda-stops-whole f q = next-whole text c f _ (judged-part-whole text c x e _ v lambda-verdict (Err f) q)

    pub lambda-stops : (f : Refused) → Err f ≡ part_or_refused x.start x.end v c → Comes text (Err f) whole
    lambda-stops f q = whole-comes text c (Err f) (lambda-stops-whole f q)

    module _ (a : Cursor) (q : Ok a ≡ part_or_refused x.start x.end v c) (t : Bool) (o : t ≡ not (eqb a.number 0)) where
      pub lambda-held : t ≡ true → Comes text (Ok a) whole
      unfolding D.lambda_head
      lambda-held u = next-held text a _ (lambda-first (Ok a) q) (refused-before a.number t o u)

      module _ (u : t ≡ false) where
        pub lambda-name-stops : (f : Refused) → Comes text (Err f) (binder_named text a) → Comes text (Err f) whole
        unfolding D.lambda_head
        lambda-name-stops f h = next-go text a _ (lambda-first (Ok a) q) (none-before a.number t o u) (Err f) (next-stop text _ f _ h)

        pub lambda-goes : (b : Cursor) → Comes text (Ok b) (binder_named text a) → KeepsRefusal a (Ok b) → (r : Result Cursor Refused)
            → Comes text r (D.need (length text) D.arrow_kind (cursor_of text b)) → Comes text r whole
        unfolding D.lambda_head
        lambda-goes b h g r k =
            let z = none-before a.number t o u in
            next-go text a _ (lambda-first (Ok a) q) z r (next-go text b _ h (g.0 ∙ z) r k)

  module _ (marks : ℕ) (p : fault_of v ≡ D.at_part c.parts) where
    pub call-stops-whole : (f : Refused) → Err f ≡ part_or_refused x.start x.end v c → came_to text c (Err f) ≡ D.call_head (length text) marks (cursor_of text c)
    unfolding D.call_head
    call-stops-whole f q = next-whole text c f _ (judged-part-whole text c x e _ v p (Err f) q)

    pub call-stops : (f : Refused) → Err f ≡ part_or_refused x.start x.end v c → Comes text (Err f) (D.call_head (length text) marks (cursor_of text c))
    call-stops f q = whole-comes text c (Err f) (call-stops-whole f q)

    module _ (a : Cursor) (q : Ok a ≡ part_or_refused x.start x.end v c) (t : Bool) (o : t ≡ not (eqb a.number 0)) where
      pub call-held : t ≡ true → Comes text (Ok a) (D.call_head (length text) marks (cursor_of text c))
      unfolding D.call_head
      call-held u = next-held text a _ (judged-part-here text c x e _ v p (Ok a) q) (refused-before a.number t o u)

      module _ (u : t ≡ false) where
        pub call-name-stops : (f : Refused) → Comes text (Err f) (member_named text a) → Comes text (Err f) (D.call_head (length text) marks (cursor_of text c))
        unfolding D.call_head
        call-name-stops f h = next-go text a _ (judged-part-here text c x e _ v p (Ok a) q) (none-before a.number t o u) (Err f) (next-stop text _ f _ h)

        pub call-goes : (b : Cursor) → Comes text (Ok b) (member_named text a) → KeepsRefusal a (Ok b) → (r : Result Cursor Refused) → Comes text r (call_opened text marks b)
            → Comes text r (D.call_head (length text) marks (cursor_of text c))
        unfolding D.call_head
        call-goes b h g r k =
            let z = none-before a.number t o u in
            next-go text a _ (judged-part-here text c x e _ v p (Ok a) q) z r (next-go text b _ h (g.0 ∙ z) r k)
