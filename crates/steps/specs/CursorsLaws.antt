-- The token at the front of descent's cursor is the token that lex_at finds at the code's, and is refused or passed as that is. Assumes nothing.
use Rattle.std.specs.Prelude.{◌≡◌, refl, true, false, List, [], ◌∷◌, ℕ, eqb, length, Result, Ok, Err}
use Rattle.std.specs.Result.{IsErrAnd}
use Rattle.std.proofs.Common.{ap, ◌∙◌, arith, drop_of_length-le, eq-eqb, ne_eqb, eqb-true}
use Rattle.std.proofs.lemmas.Bool.{eqb-false}
use Rattle.std.proofs.Math.Path.{sym}
use Rattle.std.proofs.Math.Numerals.{add-one}
use Rattle.language.specs.Cases.{split}
use Rattle.grammar.specs.Tokens.{when, Token, k_let, k_in, k_equals, k_lambda, k_arrow, k_dot, k_open, k_shut, k_comma, word, number, other, Located, scan}
use Rattle.descent.specs.Cursor.{kind_of, word_of, head_kind, head_word, head_value, head_place, behind_head, is_at}
use Rattle.descent.specs.Cursor as D
use Rattle.descent.specs.Descent.{State}
use Rattle.lexer.specs.declared.tokens.Lexed.{Lexed}
use Rattle.lexer.specs.declared.tokens.TokenKind.{TokenKind}
use Rattle.lexer.specs.declared.tokens.TokenKind.TheVariants as K
use Rattle.language.specs.declared.refusals.Refusal.{Refusal}
use Rattle.language.specs.declared.refusals.Refusal.TheVariants as R
use Rattle.language.specs.declared.refusals.Refused.{Refused}
use Rattle.language.specs.Refusals.{refusal_number}
use Rattle.language.specs.RefusalsLaws.{refusal-some}
use Rattle.lexer.specs.Lexing.{token_kind, kind_number, ended, lex_at, tokens_from, bytes_at, value_of, token_for}
use Rattle.lexer.specs.LexingLaws.{Stands, same-kind, lex-none, lex-end, lex-some, lex-word, lex-number}
use Rattle.steps.specs.declared.cursor.Cursor.{Cursor}
use Rattle.steps.specs.Cursors.{cursor_of, passed_to, part_to, refused_at, fault_of, passed_or_refused, part_or_refused, stopped_of, came_to, Comes, KeepsRefusal, Leaves, state_of, passing, passing_part}

same_kind : (t : Token) → kind_of t ≡ kind_number (token_kind t)
unfolding kind_of
same_kind k_let = refl
same_kind k_in = refl
same_kind k_equals = refl
same_kind k_lambda = refl
same_kind k_arrow = refl
same_kind k_dot = refl
same_kind k_open = refl
same_kind k_shut = refl
same_kind k_comma = refl
same_kind (word w) = refl
same_kind (number z) = refl
same_kind (other b) = refl

none_left : (text : List ℕ) → tokens_from text (length text) ≡ []
unfolding scan
none_left text = rw (drop_of_length-le text {i = length text} (omega arith))

module _ (text : List ℕ) (at : ℕ) (x : Lexed) (e : x ≡ lex_at text at) where
  abbrev token : Located
  token = record { token = token_for x.kind (bytes_at text x.start x.end); place = x.start }

  -- at the end, and at a token
  cases : (P : List Located → Type 0) → (x.kind ≡ K.End → x ≡ ended (length text) → P []) → (Stands text at x → P (token ∷ tokens_from text x.end)) → P (tokens_from text at)
  cases P f g =
      split (eqb (kind_number x.kind) 0)
      (λ t. let q : x.kind ≡ K.End = same-kind x.kind K.End (eqb-true _ 0 t) in rw (lex-none text at x e q) (f q (lex-end text at x e q)))
      (λ t. let s : Stands text at x = lex-some text at x e (λ z. eqb-false _ 0 t (ap kind_number z)) in rw s.next (g s))

  pub head-kind : head_kind (tokens_from text at) ≡ kind_number x.kind
  unfolding head_kind
  head-kind =
      cases (λ l. head_kind l ≡ kind_number x.kind) (λ q _. ap kind_number (sym q))
      (λ s. same_kind (token_for x.kind (bytes_at text x.start x.end)) ∙ ap kind_number s.kind-is)

  pub head-place : head_place (length text) (tokens_from text at) ≡ x.start
  unfolding head_place
  head-place = cases (λ l. head_place (length text) l ≡ x.start) (λ _ q. sym (ap (λ (y : Lexed). y.start) q)) (λ _. refl)

  pub behind-head : behind_head (tokens_from text at) ≡ tokens_from text x.end
  unfolding behind_head
  behind-head =
      cases (λ l. behind_head l ≡ tokens_from text x.end)
      (λ _ q. sym (ap (λ (y : Lexed). tokens_from text y.end) q ∙ none_left text)) (λ _. refl)

  pub head-word : x.kind ≡ K.Word → head_word (tokens_from text at) ≡ bytes_at text x.start x.end
  unfolding head_word word_of
  head-word q = rw (lex-word text at x e q)

  pub head-value : x.kind ≡ K.Number → head_value (tokens_from text at) ≡ value_of (bytes_at text x.start x.end)
  unfolding head_value D.value_of
  head-value q = rw (lex-number text at x e q)

  -- the tests of a token's kind
  pub is-at : (k : ℕ) → is_at k (tokens_from text at) ≡ eqb (kind_number x.kind) k
  is-at k = ap (λ (j : ℕ). eqb j k) head-kind

  pub at-kind : (k : ℕ) → kind_number x.kind ≡ k → is_at k (tokens_from text at) ≡ true
  at-kind k q = is-at k ∙ eq-eqb (kind_number x.kind) k q

  pub not-kind : (k : ℕ) → (kind_number x.kind ≡ k → ⊥) → is_at k (tokens_from text at) ≡ false
  not-kind k q = is-at k ∙ ne_eqb (kind_number x.kind) k q

  pub at-token : (k : TokenKind) → x.kind ≡ k → is_at (kind_number k) (tokens_from text at) ≡ true
  at-token k q = at-kind (kind_number k) (ap kind_number q)

  pub not-token : (k : TokenKind) → (x.kind ≡ k → ⊥) → is_at (kind_number k) (tokens_from text at) ≡ false
  not-token k q = not-kind (kind_number k) (λ z. q (same-kind x.kind k z))

-- what a `?` hands on
pub raised : {T E : Type 0} {e : E} (r : Result T E) → IsErrAnd r (λ (x : E). x ≡ e) → r ≡ Err e
raised (Ok x) h = absurd h
raised (Err x) h = ap (λ (y : _). Err y) h

pub refused-number : (text : List ℕ) (e : Refused) (d : D.Cursor) → Comes text (Err e) d → eqb d.number 0 ≡ false
refused-number text e d h = ne_eqb d.number 0 (λ z. refusal-some e.refusal (h.0 ∙ z))

-- what `came_to` says of descent's whole cursor, `Comes` says of the number and the place of a refusal
pub whole-comes : (text : List ℕ) (c : Cursor) (r : Result Cursor Refused) {d : D.Cursor} → came_to text c r ≡ d → Comes text r d
whole-comes text c (Ok a) h = h
whole-comes text c (Err e) h = (ap (λ (d : D.Cursor). d.number) h, ap (λ (d : D.Cursor). d.place) h)

-- a state that is left, where nothing is refused and where something is
pub left-is : (text : List ℕ) (a : Cursor) (r : Result Cursor Refused) (R P S : List ℕ) (s : State) → Leaves text r R P S s → r ≡ Ok a → state_of text a R P S ≡ s
left-is text a r R P S s h q =
    let l = rw q at h in λ i. record { cursor = l.cursor i; records = l.records i; places = l.places i; scope = l.scope i }

pub left-refused : (text : List ℕ) (e : Refused) (r : Result Cursor Refused) (R P S : List ℕ) (s : State) → Leaves text r R P S s → r ≡ Err e
    → eqb s.cursor.number 0 ≡ false
left-refused text e r R P S s h q = refused-number text e s.cursor (rw q at h).cursor

-- a token that is passed, also as a part, leaves what was refused before as it is; and so do two steps of which each does
pub passed-kept : (start end : ℕ) (c : Cursor) (v : Result (Unit {0}) Refusal) (r : Result Cursor Refused) → r ≡ passed_or_refused start end v c → KeepsRefusal c r
passed-kept start end c (Ok u) r q = rw q (refl, refl)
passed-kept start end c (Err f) r q = rw q tt

pub part-kept : (start end : ℕ) (c : Cursor) (v : Result (Unit {0}) Refusal) (r : Result Cursor Refused) → r ≡ part_or_refused start end v c → KeepsRefusal c r
part-kept start end c (Ok u) r q = rw q (refl, refl)
part-kept start end c (Err f) r q = rw q tt

pub kept-on : (c a : Cursor) (r : Result Cursor Refused) → KeepsRefusal c (Ok a) → KeepsRefusal a r → KeepsRefusal c r
kept-on c a (Ok b) h k = (k.0 ∙ h.0, k.1 ∙ h.1)
kept-on c a (Err e) h k = tt

-- what the code makes of the token, descent makes of the one at the front
module _ (text : List ℕ) (c : Cursor) (x : Lexed) (e : x ≡ lex_at text c.at) where
  pub refused-whole : (n : ℕ) → stopped_of text c n x.start ≡ D.refuse (length text) n (cursor_of text c)
  unfolding D.refuse
  refused-whole n = λ i. record {
    rest = tokens_from text c.at;
    parts = c.parts;
    count = c.count;
    root = c.root;
    name = c.name;
    takes = c.takes;
    number = n;
    place = sym (head-place text c.at x e) i;
  }

  pub refused-here : (f : Refusal) (n : ℕ) → refusal_number f ≡ n → (d : Unit {0} → D.Cursor)
      → Comes text (Err (refused_at x.start f)) (D.judge (length text) n (cursor_of text c) d)
  unfolding D.judge D.refuse when
  refused-here f n p d = rw (ne_eqb n 0 (λ z. refusal-some f (p ∙ z))) (p, sym (head-place text c.at x e))

  pub ungrammatical-here : (f : Refused) → f ≡ refused_at x.start R.Ungrammatical → Comes text (Err f) (D.refuse (length text) 5 (cursor_of text c))
  unfolding D.refuse
  ungrammatical-here f q = rw q (refl, sym (head-place text c.at x e))

  pub passed_here : cursor_of text (passed_to c x.end) ≡ D.pass (cursor_of text c)
  unfolding D.pass
  passed_here = λ i. record {
    rest = sym (behind-head text c.at x e) i;
    parts = c.parts;
    count = c.count;
    root = c.root;
    name = c.name;
    takes = c.takes;
    number = c.number;
    place = c.place;
  }

  part-here : cursor_of text (part_to c x.end) ≡ D.pass_part (cursor_of text c)
  unfolding D.pass_part
  part-here = λ i. record {
    rest = sym (behind-head text c.at x e) i;
    parts = add-one c.parts i;
    count = c.count;
    root = c.root;
    name = c.name;
    takes = c.takes;
    number = c.number;
    place = c.place;
  }

  pub goes-here : (n : ℕ) → 0 ≡ n → (r : Cursor) (d : Unit {0} → D.Cursor) → cursor_of text r ≡ d tt
      → Comes text (Ok r) (D.judge (length text) n (cursor_of text c) d)
  unfolding D.judge when
  goes-here n p r d q = rw (← p) q

  -- with all that descent's cursor holds, also where the token is refused
  module _ (n : ℕ) where
    pub judged-whole : (v : Result (Unit {0}) Refusal) → fault_of v ≡ n → (r : Result Cursor Refused) → r ≡ passed_or_refused x.start x.end v c → came_to text c r ≡ passing text n c
    unfolding D.judge when
    judged-whole (Ok u) p r q = rw (q, ← p) passed_here
    judged-whole (Err f) p r q = rw (q, ne_eqb n 0 (λ z. refusal-some f (p ∙ z))) (ap (λ (k : ℕ). stopped_of text c k x.start) p ∙ refused-whole n)

    pub judged-part-whole : (v : Result (Unit {0}) Refusal) → fault_of v ≡ n → (r : Result Cursor Refused) → r ≡ part_or_refused x.start x.end v c → came_to text c r ≡ passing_part text n c
    unfolding D.judge when
    judged-part-whole (Ok u) p r q = rw (q, ← p) part-here
    judged-part-whole (Err f) p r q = rw (q, ne_eqb n 0 (λ z. refusal-some f (p ∙ z))) (ap (λ (k : ℕ). stopped_of text c k x.start) p ∙ refused-whole n)

  module _ (n : ℕ) where
    pub judged-here : (v : Result (Unit {0}) Refusal) → fault_of v ≡ n → (r : Result Cursor Refused) → r ≡ passed_or_refused x.start x.end v c → Comes text r (passing text n c)
    judged-here (Ok u) p r q = rw q (goes-here n p (passed_to c x.end) (λ _. D.pass (cursor_of text c)) passed_here)
    judged-here (Err f) p r q = rw q (refused-here f n p (λ _. D.pass (cursor_of text c)))

    pub judged-part-here : (v : Result (Unit {0}) Refusal) → fault_of v ≡ n → (r : Result Cursor Refused) → r ≡ part_or_refused x.start x.end v c → Comes text r (passing_part text n c)
    judged-part-here (Ok u) p r q = rw q (goes-here n p (part_to c x.end) (λ _. D.pass_part (cursor_of text c)) part-here)
    judged-part-here (Err f) p r q = rw q (refused-here f n p (λ _. D.pass_part (cursor_of text c)))
