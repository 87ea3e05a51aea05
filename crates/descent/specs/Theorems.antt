-- The reader's definition reads what grammar's read_text reads: a tree's records and places stand in the arrays, with everything behind them
-- as it was, or the refusal's number and place are those of the text. For every text, and arrays of any contents. Assumes nothing.
use Rattle.std.specs.Prelude.{◌≡◌, Bool, true, ℕ, suc, ◌*◌, ◌≤◌, ◌<◌, eqb, length, drop}
use Rattle.std.proofs.Math.Path.{refl, subst}
use Rattle.std.proofs.Common.{sym, ap, ap₂, ◌∙◌, eqb-true}
use Rattle.std.proofs.Math.Bool.{false}
use mathlib.Core.List.{List, [], ◌∷◌, ◌++◌}
use native.Mathlib.Omega.{arith}
use Rattle.std.proofs.lemmas.Bool.{eqb-false}
use Rattle.layout.specs.Held.{text_words}
use Rattle.language.specs.Limits.{text_parts}
use Rattle.grammar.specs.Tokens.{Token, k_let, k_in, k_equals, k_lambda, k_arrow, k_dot, k_open, k_shut, k_comma, word, number, other, when, Located, tokens}
use Rattle.grammar.specs.Grammar.{Expression}
use Rattle.grammar.specs.KeptLimits.{parts_e}
use Rattle.grammar.specs.Reading.{Reading, tree, refused}
use Rattle.grammar.specs.Machine.{at, over, Trees, finish, read_text}
use Rattle.records.specs.Records.{lambdas_of, records_of}
use Rattle.descent.specs.Cursor.{Cursor, end_kind, kind_of, head_kind, head_place, is_at, at_mark, judge}
use Rattle.descent.specs.Descent.{State, moved, start, in_expression, run, ended, read_with, read_into, scope_cells}
use Rattle.descent.specs.Cells.{sets-all, words, length-words}
use Rattle.descent.specs.Continued.{judge_at, ended_at, read_on, text-on}
use Rattle.descent.specs.Fronts.{due}
use Rattle.descent.specs.Moves.{was-due}
use Rattle.descent.specs.Preserved.{Preserved, run-keeps, ended-keeps}
use Rattle.descent.specs.Heads.{fits-judge, fits-here, due-zero}
use Rattle.descent.specs.Wrote.{Ready, Wrote}
use Rattle.descent.specs.Fitting.{FitsAt, at-then, at_moved, at_map}
use Rattle.descent.specs.Same.{same}
use Rattle.descent.specs.PartPlaces.{places-E}
use Rattle.descent.specs.Linked.{Good, records-linked}
use Rattle.descent.specs.Keys.{SmallKeys, small-keys}
use Rattle.descent.specs.Decoding.{records_from, records-back}

-- behind the whole expression nothing stands
module _ (end : ℕ) (h : Trees (at over []) → Expression) (c : ℕ) where
  abbrev OverFront : List Located → Type 0
  OverFront rest = read_on end (at over []) h c rest ≡ due end_kind (tree (h (tt, tt))) end rest

  at-over : (t : Token) (p : ℕ) (xs : List Located) → OverFront (record { token = t; place = p } ∷ xs)
  unfolding read_on judge_at Rattle.grammar.specs.Machine.step head_kind head_place kind_of when
  at-over k_let p xs = refl
  at-over k_in p xs = refl
  at-over k_equals p xs = refl
  at-over k_lambda p xs = refl
  at-over k_arrow p xs = refl
  at-over k_dot p xs = refl
  at-over k_open p xs = refl
  at-over k_shut p xs = refl
  at-over k_comma p xs = refl
  at-over (word x) p xs = refl
  at-over (number z) p xs = refl
  at-over (other b) p xs = refl

  front-over : (rest : List Located) → OverFront rest
  unfolding read_on ended_at finish head_kind head_place when
  front-over [] = refl
  front-over (x ∷ xs) = at-over x.token x.place xs

at-end : (rest : List Located) → is_at end_kind rest ≡ true → rest ≡ []
unfolding head_kind kind_of
at-end [] e = refl
at-end (x ∷ xs) e = absurd (never x.token (eqb-true (kind_of x.token) 0 e))
  where
    never : (t : Token) → kind_of t ≡ 0 → ⊥
    never k_let e = omega arith
    never k_in e = omega arith
    never k_equals e = omega arith
    never k_lambda e = omega arith
    never k_arrow e = omega arith
    never k_dot e = omega arith
    never k_open e = omega arith
    never k_shut e = omega arith
    never k_comma e = omega arith
    never (word x) e = omega arith
    never (number z) e = omega arith
    never (other b) e = omega arith

-- the arrays and counts behind the tree e, where R and P are the records' and the places' array before
pub record Held (R P : List ℕ) (e : Expression) (s : State) : Type 0 where
  pub number : s.cursor.number ≡ 0
  pub rest : s.cursor.rest ≡ []
  pub parts : s.cursor.parts ≡ length (records_of e).places
  pub all_parts : s.cursor.parts ≡ parts_e e
  pub count : s.cursor.count ≡ length (records_of e).records
  pub root : s.cursor.root ≡ (records_of e).root
  pub records : s.records ≡ words (records_of e).records ++ drop (2 * s.cursor.count) R
  pub places : s.places ≡ (records_of e).places ++ drop s.cursor.parts P
  pub few_parts : s.cursor.parts ≤ text_parts
  pub few_records : s.cursor.count ≤ s.cursor.parts
  -- the records read back, which lead to earlier ones
  pub decoded : records_from s.records 0 s.cursor.count ≡ (records_of e).records
  pub linked : Good [] (records_of e)
  pub keys : SmallKeys (records_of e).records

-- what is read from a text into the arrays R and P
pub record Result (text R P : List ℕ) (s : State) : Type 0 where
  pub reads : (e : Expression) → read_text text ≡ tree e → Held R P e s
  pub refuses : (n p : ℕ) → read_text text ≡ refused n p → (s.cursor.number ≡ n) × (s.cursor.place ≡ p)
  -- and which of the two it was is told by the number
  pub accepts : s.cursor.number ≡ 0 → (e : Expression) × (read_text text ≡ tree e)
  pub declines : ¬ (s.cursor.number ≡ 0) → read_text text ≡ refused s.cursor.number s.cursor.place

not-tree : {e : Expression} {n p : ℕ} → tree e ≡ refused n p → ⊥
not-tree h = let z : ◌≡◌ {A = ℕ} 0 1 = cc in omega arith

same-tree : {r : Reading} {e e' : Expression} → r ≡ tree e → r ≡ tree e' → e ≡ e'
same-tree h g = cc

same-refusal : {r : Reading} {n n' p p' : ℕ} → r ≡ refused n p → r ≡ refused n' p' → (n ≡ n') × (p ≡ p')
same-refusal h g = (cc, cc)

record Ended (R P : List ℕ) (r : Reading) (s : State) : Type 0 where
  e : Expression
  is : r ≡ tree e
  wrote : Wrote R P 0 (records_of e) s
  rest : s.cursor.rest ≡ []

module _ (text R P S : List ℕ) (f : ℕ) (room : length S ≡ 32) (enough : 2 * length (tokens text) < f) where
  abbrev end : ℕ
  end = length text

  abbrev before : State
  before = run end f (in_expression false 0 0) (start (tokens text) R P S)

  abbrev after : State
  after = read_with f text R P S

  start-ready : Ready R [] [] 0 0 (start (tokens text) R P S)
  unfolding words
  start-ready = record { number = refl; count = refl; records = refl; holds = tt; room = room; few = omega arith }

  all-fits : FitsAt after (Ended R P (read_text text)) (read_text text)
  unfolding read_with ended lambdas_of at_mark
  all-fits =
      let r = read_text text in
      at-then before _ _ _ r ((same end R f).on_expression false 0 0 (start (tokens text) R P S) [] [] [] (λ q. q.0) r start-ready (text-on text) enough) (λ z q.
      let c = before.cursor in
      let n = at_mark end_kind c.rest in
      let J = judge end n c (λ _. c) in
      let Q : Cursor → Type 0 = λ k. (k ≡ c) × (r ≡ tree q.tree) × (is_at end_kind c.rest ≡ true) in
      at_map (moved before J) _ _ r
      (at_moved before J Q r
      (fits-judge end n c (λ _. c) Q r (tree q.tree) (due-zero end_kind end c.rest r (tree q.tree) (q.onward ∙ front-over end _ c.parts c.rest))
      (λ y e. fits-here end c Q r z (refl, e, (was-due (is_at end_kind c.rest) 0 4 y).0))))
      (λ y. subst (λ (k : Cursor). Ended R P r (moved before k)) (sym y.0) (record { e = q.tree; is = y.1; wrote = q.wrote; rest = at-end c.rest y.2 })))

  -- lengths and counts, whether or not the text is refused
  pub after-keeps : Preserved 0 1 0 0 (start (tokens text) R P S) after
  unfolding read_with
  after-keeps = ended-keeps end 0 (start (tokens text) R P S) before (run-keeps end f (in_expression false 0 0) (start (tokens text) R P S))

  held : length R ≡ text_words → length P ≡ text_parts → Ended R P (read_text text) after → after.cursor.number ≡ 0 → (e : Expression)
      → read_text text ≡ tree e → Held R P e after
  held lr lp y z e h =
      let g : y.e ≡ e = same-tree y.is h in
      let w : Wrote R P 0 (records_of e) after = subst (λ (e : Expression). Wrote R P 0 (records_of e) after) g y.wrote in
      let Z = records_of e in
      let K = after-keeps in
      let G = K.went z in
      let parts : after.cursor.parts ≡ length Z.places = omega (arith, w.parts) in
      let few : after.cursor.parts ≤ text_parts = omega (arith, K.most) in
      let words2 : length (words Z.records) ≡ 2 * after.cursor.count = omega (arith, length-words Z.records, w.count) in
      let filled : after.records ≡ words Z.records ++ drop (2 * after.cursor.count) R =
      w.records ∙ sets-all (words Z.records) R (omega arith) ∙ ap (λ i. words Z.records ++ drop i R) words2 in
      let good = records-linked e in
      record {
        number = z;
        rest = y.rest;
        parts = parts;
        all_parts = parts ∙ places-E e [] [];
        count = w.count;
        root = w.root;
        records = filled;
        places = w.places ∙ sets-all Z.places P (omega arith) ∙ ap (λ i. Z.places ++ drop i P) (sym parts);
        few_parts = few;
        few_records = omega arith;
        decoded = ap₂ (λ cells n. records_from cells 0 n) filled w.count ∙ records-back Z.records _ 0 good.earlier (omega (arith, w.count));
        linked = good;
        keys = small-keys text e h;
      }

  pub reads : length R ≡ text_words → length P ≡ text_parts → Result text R P after
  reads lr lp = by (eqb after.cursor.number 0) refl
    where
      by : (b : Bool) → eqb after.cursor.number 0 ≡ b → Result text R P after
      by true q =
          let z = eqb-true after.cursor.number 0 q in
          let y = all-fits.goes z in
          record { reads = held lr lp y z; refuses = λ n p h. absurd (not-tree (sym y.is ∙ h)); accepts = λ _. (y.e, y.is); declines = all-fits.stops }
      by false q =
          let h = all-fits.stops (eqb-false after.cursor.number 0 q) in
          record { reads = λ e g. absurd (not-tree (sym g ∙ h)); refuses = λ n p g. same-refusal h g; accepts = λ z. absurd (eqb-false after.cursor.number 0 q z); declines = all-fits.stops }

-- the reading that the code's contract cites
pub into : (text R P S : List ℕ) → length R ≡ text_words → length P ≡ text_parts → length S ≡ scope_cells → Result text R P (read_into text R P S)
into text R P S lr lp ls = reads text R P S (suc (2 * length (tokens text))) ls (omega arith) lr lp
