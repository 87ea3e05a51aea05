-- 02, T-04 and T-05: what a walk over a form finds is what reading its text would come to. It finds a limit broken exactly where the form's tree
-- does not keep the limits, and a name or a function that would be read as something else exactly where there is one. Assumes nothing.
use Rattle.std.specs.Prelude.{◌≡◌, ◌↔◌, Bool, not, List, [], ◌∷◌, map, ℕ, suc, ◌+◌, ◌*◌, ◌/◌, ◌%◌, ◌<◌, ◌≤◌, ltb, eqb, length}
use Rattle.std.proofs.Math.Path.{refl}
use Rattle.std.proofs.Math.Logic.Iff as Iff
use Rattle.std.proofs.Math.Bool.{true, false, and-eq-true_iff}
use Rattle.std.proofs.Common.{arith, eqb-true, eq-eqb, ltb-true, ltb-false, lt-ltb}
use Rattle.std.proofs.lemmas.Bool.{eqb-false, not-true, false≢true}
use Rattle.language.specs.Cases.{split}
use Rattle.language.specs.Limits.{text_parts, open_marks, open_lambdas}
use Rattle.language.specs.Names.{bytes, data_word, is_data}
use Rattle.members.specs.Members.{spelled, arguments, takes}
use Rattle.members.specs.MembersLaws.{name-found}
use Rattle.members.specs.declared.Member.{Member}
use Rattle.grammar.specs.Grammar.{Calls, done, call, none, first, last}
use Rattle.grammar.specs.Faults.{Around, opened, in_lambda}
use Rattle.grammar.specs.KeptLimits.{parts_e, parts_c, given_a, a_lambda, a_call, EverywhereE, EverywhereC, NotData, Limited, KeepsLimits}
use Rattle.meaning.specs.Forms.{Form, name_in, level_in, number, variable, unbound, readings, ask, function}
use Rattle.meaning.specs.Evaluation.{has_name}
use Rattle.layout.specs.Nodes.{is_name}
use Rattle.printing.specs.Printed.{unpacked, is_function}
use Rattle.printing.specs.Trees.{tree_with, tree_of}
use Rattle.printing.proofs.Printable.{Printable}
use Rattle.printing.specs.Bound.{is_innermost, Closed}
use Rattle.printing.proofs.NameLaws.{name-short, name-not-data}
use Rattle.printing.specs.Judging.{declined, counted, looked, opening, admits, admits_function, at_receiver, walked, Saturated}

-- once a limit is broken, the finding stays
opening-declined : (b : Bool) → opening b declined ≡ declined
unfolding opening
opening-declined true = refl
opening-declined false = refl

looked-declined : (b : Bool) → looked b declined ≡ declined
unfolding looked
looked-declined true = refl
looked-declined false = refl

pub walked-declined : (k : ℕ) (xs : List ℕ) (f : Form) → walked k xs f declined ≡ declined
unfolding walked counted
walked-declined k xs (number z) = refl
walked-declined k xs (variable v) = looked-declined (is_innermost v xs)
walked-declined k xs (unbound x) = looked-declined (not (has_name x (map name_in xs)))
walked-declined k xs readings = refl
walked-declined k xs (ask m f) = rw (opening-declined (admits k)) (walked-declined (at_receiver f k) xs f)
walked-declined k xs (Form.call m f a) = rw (opening-declined (admits k), walked-declined (suc k) xs a) (walked-declined (at_receiver f k) xs f)
walked-declined k xs (function v b) =
    rw (opening-declined (admits_function k xs), looked-declined (eqb (level_in v) (length xs))) (walked-declined (suc k) (v ∷ xs) b)

-- and none is greater
pub counted-few : (n : ℕ) → counted n ≤ declined
unfolding counted
counted-few n = split (ltb n (2 * text_parts)) (λ e. let l = ltb-true n _ e in rw e (omega arith)) (λ e. rw e (omega arith))

pub opening-few : (b : Bool) (n : ℕ) → opening b (counted n) ≤ declined
unfolding opening
opening-few true n = counted-few n
opening-few false n = omega arith

pub looked-few : (b : Bool) (n : ℕ) → n ≤ declined → looked b n ≤ declined
unfolding looked
looked-few true n h = h
looked-few false n h = omega arith

pub walked-few : (k : ℕ) (xs : List ℕ) (f : Form) (n : ℕ) → walked k xs f n ≤ declined
unfolding walked
walked-few k xs (number z) n = counted-few n
walked-few k xs (variable v) n = looked-few (is_innermost v xs) (counted n) (counted-few n)
walked-few k xs (unbound x) n = looked-few (not (has_name x (map name_in xs))) (counted n) (counted-few n)
walked-few k xs readings n = counted-few n
walked-few k xs (ask m f) n = walked-few (at_receiver f k) xs f _
walked-few k xs (Form.call m f a) n = walked-few (at_receiver f k) xs f _
walked-few k xs (function v b) n = walked-few (suc k) (v ∷ xs) b _

-- ---- what a finding n says

-- where Q is that the limits hold at the places met, p the parts met, and C that each name and function met is read as what it is
data Says (n : ℕ) (Q : Type 0) (p : ℕ) (C : Type 0) : Type 0 where
  kept : Q → p ≤ text_parts → n / 2 ≡ p → (n % 2 ≡ 0) ↔ C → Says n Q p C
  broken : ¬ (Q × (p ≤ text_parts)) → n ≡ declined → Says n Q p C

-- the same in other words
restated : {n p q : ℕ} {Q R C D : Type 0} → Q ↔ R → p ≡ q → C ↔ D → Says n Q p C → Says n R q D
restated i e j (kept h l d c) = kept (i.0 h) (omega arith) (omega arith) (Iff.trans c j)
restated i e j (broken h d) = broken (λ k. h (i.1 k.0, omega (arith, k.1))) d

alone : {n p : ℕ} {Q C : Type 0} → Says n Q p C → Says n (Unit {0} × Q) (0 + p) C
alone s = restated (λ q. (tt, q), λ q. q.1) (omega arith) Iff.rfl s

-- a part more
one_more : {n p : ℕ} {Q C : Type 0} → Says n Q p C → Says (counted n) Q (suc p) C
unfolding counted
one_more {n} (kept h l d c) =
    split (ltb n (2 * text_parts))
    (λ e. let t = ltb-true n _ e in rw e (kept h (omega arith) (omega arith) (λ z. c.0 (omega arith), λ z. omega (arith, c.1 z))))
    (λ e. let t = ltb-false n _ e in rw e (broken (λ k. omega (arith, k.1)) refl))
one_more (broken h d) = rw d (broken (λ k. h (k.0, omega (arith, k.1))) refl)

-- a part and a place where P is tested, behind the places R and c parts of some calls; and a part where P holds anyway
module _ (c p : ℕ) {n : ℕ} {P Q R C : Type 0} where
  tested : (b : Bool) → (b ≡ true) ↔ P → Says n (R × Q) (c + p) C → Says (opening b (counted n)) ((P × R) × Q) (suc c + p) C
  unfolding opening
  tested true i s = restated (λ h. ((i.0 refl, h.0), h.1), λ h. (h.0.1, h.1)) (omega arith) Iff.rfl (one_more s)
  tested false i s = broken (λ k. absurd (false≢true (i.1 k.0.0.0))) refl

  always : P → Says n (R × Q) (c + p) C → Says (counted n) ((P × R) × Q) (suc c + p) C
  unfolding opening
  always h s = tested true (λ _. h, λ _. refl) s

-- a name or a function, of which D is tested
looked-at : {n p : ℕ} {Q C D : Type 0} (b : Bool) → (b ≡ true) ↔ D → Says n Q p C → Says (looked b n) Q p (D × C)
unfolding looked
looked-at true i s = restated Iff.rfl refl (λ h. (i.0 refl, h), λ h. h.1) s
looked-at false i (kept h l d c) = kept h l (omega arith) (λ z. absurd (omega arith), λ k. absurd (false≢true (i.1 k.0)))
looked-at false i (broken h d) = rw d (broken h refl)

-- ---- the limits at a place, as the walk tests them

-- where k marks are open, within functions of the variables xs
abbrev around : ℕ → List ℕ → Around
around k xs = record { marks = k; lambdas = length xs }

-- a call's brackets
admitted : (k : ℕ) → (admits k ≡ true) ↔ (k < open_marks)
admitted k = (ltb-true k open_marks, lt-ltb k open_marks)

call-admitted : (m : Member) (k n : ℕ) (xs : List ℕ) → arguments m ≡ n → (admits k ≡ true) ↔ Limited (a_call (spelled m) n) (around k xs)
unfolding takes
call-admitted m k n xs e = rw (name-found m, e) (λ h. ((refl, refl), (admitted k).0 h), λ h. (admitted k).1 h.1)

-- a function: its name is not data
not-data : (x : ℕ) → is_name x ≡ true → NotData (unpacked x)
unfolding is_data
not-data x h = eqb-false _ _ (name-not-data x h)

function-admitted : (x : ℕ) → is_name x ≡ true → (k : ℕ) (xs : List ℕ) → (admits_function k xs ≡ true) ↔ Limited (a_lambda (unpacked x)) (around k xs)
function-admitted x h k xs = (
  λ e. let t = (and-eq-true_iff (admits k) _).0 e in ((ltb-true _ _ t.1, (admitted k).0 t.0), (name-short x h, not-data x h)),
  λ l. rw ((admitted k).1 l.0.1, lt-ltb (length xs) open_lambdas l.0.0),
)

-- a function is met behind the places R and c parts: it can open, and it has as its level how many are around it
function-met : (v : ℕ) → is_name (name_in v) ≡ true → (k : ℕ) (xs : List ℕ) (c p : ℕ) {n : ℕ} {Q R C : Type 0}
    → Says n (R × Q) (c + p) C
    → Says (looked (eqb (level_in v) (length xs)) (opening (admits_function k xs) (counted n))) ((Limited (a_lambda (unpacked (name_in v))) (around k xs) × R) × Q)
    (suc c + p) ((level_in v ≡ length xs) × C)
function-met v h k xs c p w = looked-at _ (eqb-true _ _, eq-eqb _ _) (tested c p (admits_function k xs) (function-admitted (name_in v) h k xs) w)

-- ---- the walk

-- the marks open at a form with the calls r behind it: only a function stands in brackets
abbrev marks_at : Form → Calls → ℕ → ℕ
marks_at f done k = k
marks_at f (call m a) k = at_receiver f k

not-bracketed : (f : Form) (r : Calls) (k : ℕ) → is_function f ≡ false → marks_at f r k ≡ k
not-bracketed f done k e = refl
not-bracketed f (call m a) k e = rw e

-- a body's walk comes behind the test D of its function
within-function : {B C D : Type 0} → (B × (D × C)) ↔ ((D × B) × C)
within-function = (λ c. ((c.1.0, c.0), c.1.1), λ c. (c.0.1, (c.0.0, c.1)))

-- After the calls r behind a form, a walk over the form has met its whole tree. Q, p and C are of what was met before.
walk-says : (f : Form) → Printable f → Saturated f → (r : Calls) (k : ℕ) (xs : List ℕ) {n : ℕ} (p : ℕ) {Q C : Type 0}
    → Says n (EverywhereC Limited r (around k xs) × Q) (parts_c r + p) C
    → Says (walked (marks_at f r k) xs f n) (EverywhereE Limited (tree_with f r) (around k xs) × Q) (parts_e (tree_with f r) + p) (Closed xs f × C)
unfolding walked tree_with parts_e opened in_lambda looked given_a data_word bytes
walk-says (number z) h s r k xs p w = looked-at true (λ _. tt, λ _. refl) (always (parts_c r) p h w)
walk-says (variable v) h s r k xs p w = looked-at (is_innermost v xs) Iff.rfl (always (parts_c r) p (name-short (name_in v) h) w)
walk-says (unbound x) h s r k xs p w =
    let b = has_name x (map name_in xs) in looked-at (not b) (not-true b, λ e. rw e) (always (parts_c r) p (name-short x h) w)
walk-says readings h s r k xs p w = looked-at true (λ _. tt, λ _. refl) (always (parts_c r) p (omega arith) w)
walk-says (ask m f) h s r k xs p w =
    let t = tested (parts_c r) p (admits k) (call-admitted m k 0 xs s.0) w in
    rw (not-bracketed (ask m f) r k refl) (walk-says f h s.1 (call (spelled m) (none r)) k xs p t)
walk-says (Form.call m f a) h s r k xs p w =
    let t = tested (parts_c r) p (admits k) (call-admitted m k 1 xs s.0) w in
    let u = walk-says a h.1 s.1.1 done (suc k) xs (suc (parts_c r) + p) (alone t) in
    rw (not-bracketed (Form.call m f a) r k refl)
    (restated Iff.rfl refl (λ c. ((c.0, c.1.0), c.1.1), λ c. (c.0.0, (c.0.1, c.1)))
    (walk-says f h.0 s.1.0 (call (spelled m) (first (tree_of a) (last r))) k xs p
    (restated (λ q. ((q.1.0.0, (q.0, q.1.0.1)), q.1.1), λ q. (q.0.1.0, ((q.0.0, q.0.1.1), q.1))) (omega arith) Iff.rfl u)))
walk-says (function v b) h s done k xs p w =
    restated (λ q. ((q.1.0.0, q.0), q.1.1), λ q. (q.0.1, ((q.0.0, tt), q.1))) (omega arith) within-function
    (walk-says b h.1 s done (suc k) (v ∷ xs) (1 + p) (alone (function-met v h.0 k xs 0 p w)))
walk-says (function v b) h s (call m a) k xs p w =
    restated (λ q. ((q.1.0.1.0.1, (q.1.0.0, q.0), q.1.0.1), q.1.1), λ q. (q.0.1.1, ((q.0.1.0, q.0.2), q.1)))
    (omega arith) within-function
    (walk-says b h.1 s done (suc (suc k)) (v ∷ xs) (suc (parts_c (call m a)) + p) (alone (function-met v h.0 (suc k) xs (parts_c (call m a)) p w)))

-- a walk over a whole form
pub record Finds (f : Form) (n : ℕ) : Type 0 where
  pub keeps : (¬ (n ≡ declined)) ↔ KeepsLimits (tree_of f)
  pub closed : KeepsLimits (tree_of f) → (n % 2 ≡ 0) ↔ Closed [] f

finds : (f : Form) {n : ℕ}
    → Says n (EverywhereE Limited (tree_of f) (around 0 []) × Unit {0}) (parts_e (tree_of f) + 0) (Closed [] f × Unit {0})
    → Finds f n
finds f (kept h l d c) =
    record {
      keeps = (λ _. record { sites = h.0; parts = omega arith }, λ _ e. omega arith);
      closed = λ _. (λ z. (c.0 z).0, λ z. c.1 (z, tt));
    }
finds f (broken h d) =
    let no : ¬ KeepsLimits (tree_of f) = λ k. h ((k.sites, tt), omega (arith, k.parts)) in
    record { keeps = (λ z. absurd (z d), λ k. absurd (no k)); closed = λ k. absurd (no k) }

pub walk-finds : (f : Form) → Printable f → Saturated f → Finds f (walked 0 [] f 0)
unfolding parts_c
walk-finds f p s = finds f (walk-says f p s done 0 [] 0 (kept (tt, tt) (omega arith) refl (λ _. tt, λ _. refl)))
