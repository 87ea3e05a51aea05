-- Laws of what Reading defines, whatever reads: a refusal's number is 5 to 12 and never 11, tokens have one refusal at most, and none where they are
-- read as a tree. Assumes nothing.
use Rattle.std.specs.Prelude.{◌≡◌, refl, Bool, true, false, List, [], ◌∷◌, ℕ, zero, suc, ◌<◌, ◌≤◌, take, get_or}
use Rattle.std.proofs.Common.{sym, ap, ◌∙◌, arith}
use Rattle.std.proofs.Math.Decide.{ℕ_discrete}
use Rattle.grammar.specs.Tokens.{Token}
use Rattle.grammar.specs.Grammar.{Expression, spell_e}
use Rattle.grammar.specs.Faults.{Fault, fine, out_of_range, long_name, data_bound, bad_call, many_lambdas, too_many, fault_number}
use Rattle.grammar.specs.Faults.{Note, note, notes_e, outermost, or_many, fault, counted, faults, faults_of, Clean}
use Rattle.grammar.specs.Reading.{ReadsAs, RefusedBy, IsTextRefusal}
use Rattle.grammar.proofs.MachineLaws.{no-cons}

-- a fault's number is 6 to 12, and none is 11
abbrev IsFaultNumber : ℕ → Type 0
IsFaultNumber n = (6 ≤ n) × (n ≤ 12) × (¬ (n ≡ 11))

fault-number : (f : Fault) (b : Bool) → ¬ (or_many (fault_number f) b ≡ 0) → IsFaultNumber (or_many (fault_number f) b)
unfolding fault_number
fault-number fine true h = omega arith
fault-number fine false h = absurd (h refl)
fault-number out_of_range b h = omega arith
fault-number long_name b h = omega arith
fault-number data_bound b h = omega arith
fault-number bad_call b h = omega arith
fault-number many_lambdas b h = omega arith
fault-number too_many b h = omega arith

faults-number : (c : ℕ) (l : List Note) (j : ℕ) → ¬ (get_or (faults c l) j 0 ≡ 0) → IsFaultNumber (get_or (faults c l) j 0)
unfolding faults fault
faults-number c [] j h = absurd (h refl)
faults-number c (note f p ∷ l) zero h = fault-number f _ h
faults-number c (note f p ∷ l) (suc j) h = faults-number (counted c (note f p)) l j h

pub tree-number : (e : Expression) (j n : ℕ) → get_or (faults_of e) j 0 ≡ n → ¬ (n ≡ 0) → IsFaultNumber n
tree-number e j n h z = rw h at (faults-number 0 (notes_e e false outermost []) j (λ o. z (sym h ∙ o)))

-- a refusal's number is one of a text's
pub refusal-number : (ts : List Token) (n j : ℕ) → RefusedBy ts n j → IsTextRefusal n
refusal-number ts n j r = by (ℕ_discrete n 5)
  where
    by : Dec (n ≡ 5) → IsTextRefusal n
    by (yes p) = omega arith
    by (no p) = let y = r.beyond p in let z = tree-number y.0 j n (r.fault y.0 y.1) r.refusal in omega arith

-- of a clean list no place is at fault
clean_at : (l : List ℕ) (j : ℕ) → Clean l → get_or l j 0 ≡ 0
clean_at [] j h = refl
clean_at (n ∷ l) zero h = h.0
clean_at (n ∷ l) (suc j) h = clean_at l j h.1

clean-before : (l : List ℕ) (i j : ℕ) → i < j → Clean (take j l) → get_or l i 0 ≡ 0
clean-before [] i j k h = refl
clean-before (n ∷ l) i zero k h = absurd (omega arith)
clean-before (n ∷ l) zero (suc j) k h = h.0
clean-before (n ∷ l) (suc i) (suc j) k h = clean-before l i j (omega arith) h.1

-- what agrees further agrees less far
take_less : {A : Type 0} (a b : List A) (i j : ℕ) → i ≤ j → take j a ≡ take j b → take i a ≡ take i b
take_less a b zero j k h = refl
take_less a b (suc i) zero k h = absurd (omega arith)
take_less [] [] (suc i) (suc j) k h = refl
take_less (x ∷ a) [] (suc i) (suc j) k h = absurd (no-cons (sym h))
take_less [] (y ∷ b) (suc i) (suc j) k h = absurd (no-cons h)
take_less (x ∷ a) (y ∷ b) (suc i) (suc j) k h =
    let p : x ≡ y = cc in
    let q : take j a ≡ take j b = cc in
    let r = take_less a b i j (omega arith) q in cc

pub not-both : (ts : List Token) (e : Expression) (n j : ℕ) → ReadsAs ts e → ¬ RefusedBy ts n j
not-both ts e n j h r = r.refusal (sym (r.fault e (ap (take (suc j)) h.spelled)) ∙ clean_at (faults_of e) j h.clean)

not-before : (ts : List Token) (n j n' j' : ℕ) → RefusedBy ts n j → RefusedBy ts n' j' → ¬ (j < j')
not-before ts n j n' j' r r' k =
    let e = r'.before.0 in
    let a = r'.before.1 in
    r.refusal (sym (r.fault e (take_less (spell_e e []) ts (suc j) j' k a)) ∙ clean-before (faults_of e) j j' k (r'.clear e a))

same_number : (ts : List Token) (n n' j : ℕ) → RefusedBy ts n j → RefusedBy ts n' j → n ≡ n'
same_number ts n n' j r r' = by (ℕ_discrete n 5) (ℕ_discrete n' 5)
  where
    by : Dec (n ≡ 5) → Dec (n' ≡ 5) → n ≡ n'
    by (yes p) (yes q) = p ∙ sym q
    by (yes p) (no q) = let y = r'.beyond q in absurd (r.stops p y.0 y.1)
    by (no p) (yes q) = let y = r.beyond p in absurd (r'.stops q y.0 y.1)
    by (no p) (no q) = let y = r.beyond p in sym (r.fault y.0 y.1) ∙ r'.fault y.0 y.1

pub one-refusal : (ts : List Token) (n j n' j' : ℕ) → RefusedBy ts n j → RefusedBy ts n' j' → (n ≡ n') × (j ≡ j')
one-refusal ts n j n' j' r r' =
    let a = not-before ts n j n' j' r r' in
    let b = not-before ts n' j' n j r' r in
    let e : j ≡ j' = omega arith in
    (same_number ts n n' j r (rw e r'), e)
