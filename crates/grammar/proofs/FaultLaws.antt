-- 01's table, refusals 6 to 12: when exactly a single token has each fault, and when it has none.
-- Assumes nothing.
use Rattle.std.specs.Prelude.{◌≡◌, refl, ◌↔◌, ◌⊎◌, Bool, true, false, not, ◌&&◌, ◌||◌, cond, List, [], ◌∷◌, ℕ, suc, ◌-◌, ◌<◌, ◌≤◌, T, leb, eqb, ℤ, length, get_or, ◌≤ℤ◌}
use Rattle.std.proofs.Common.{sym, ap, ◌∙◌, inl, inr, true≢false, arith, leb-true, leb-false, eqb-true, le-leb, eq-eqb, T_not}
use Rattle.std.proofs.Math.Logic.{⊎_map}
use Rattle.std.proofs.Math.Logic.Iff as Iff
use Rattle.std.proofs.lemmas.Bool.{false≢true, lt-leb}
use Rattle.std.proofs.Math.Bool.{and-eq-true_iff}
use mathlib.Mathlib.Data.Bool.Basic.{eq-false-eq-not-eq-true, eq-true-eq-not-eq-false, or-eq-false-eq-eq-false-and-eq-false as neither}
use Rattle.std.proofs.Math.Dec.{eqb_refl}
use Rattle.std.specs.Int.Signed.{lt_z, lt_z_yes, lt_z_no, clash_ℤ}
use Rattle.language.specs.Limits.{text_parts, open_marks, open_lambdas, name_bytes, least_number, most_number}
use Rattle.language.specs.Names.{packed, is_long, is_data, data_word}
use Rattle.grammar.specs.Faults.{Fault, fine, out_of_range, long_name, data_bound, bad_call, many_lambdas, too_many, fault_number, Around}
use Rattle.grammar.specs.Faults.{deep, mark_fault, lambda_fault, binder_fault, name_fault, literal_fault, call_fault, note, or_many, fault}
use Rattle.grammar.specs.KeptLimits.{NotData, InRange}

-- tests, as what they test
pub is_false : (b : Bool) → (b ≡ false) ↔ (¬ (b ≡ true))
is_false b = Iff.symm (eq-false-eq-not-eq-true b)

leb-iff : (m n : ℕ) → (leb m n ≡ true) ↔ (m ≤ n)
leb-iff m n = (leb-true m n, le-leb m n)

pub not-leb-iff : (m n : ℕ) → (leb m n ≡ false) ↔ (n < m)
not-leb-iff m n = (leb-false m n, lt-leb m n)

pub eqb-iff : (m n : ℕ) → (eqb m n ≡ true) ↔ (m ≡ n)
eqb-iff m n = (eqb-true m n, eq-eqb m n)

long : (x : List ℕ) → (is_long x ≡ true) ↔ (name_bytes < length x)
long x = leb-iff (suc name_bytes) (length x)

short : (x : List ℕ) → (is_long x ≡ false) ↔ (length x ≤ name_bytes)
short x = Iff.trans (not-leb-iff (suc name_bytes) (length x)) (λ h. omega arith, λ h. omega arith)

is-data : (x : List ℕ) → (is_data x ≡ true) ↔ (packed x ≡ packed data_word)
unfolding is_data
is-data x = eqb-iff (packed x) (packed data_word)

not-data : (x : List ℕ) → (is_data x ≡ false) ↔ NotData x
not-data x = Iff.trans (is_false (is_data x)) (Iff.not (is-data x))

not-less : (a b : ℤ) → (lt_z a b ≡ false) ↔ (b ≤ℤ a)
not-less a b = (λ h. lt_z_no (rw h tt), λ h. (is_false (lt_z a b)).1 (λ e. clash_ℤ (lt_z_yes (rw e tt)) h))

abbrev outside : ℤ → Bool
outside z = lt_z z least_number || lt_z most_number z

in-range : (z : ℤ) → (outside z ≡ false) ↔ InRange z
in-range z = Iff.trans (neither (lt_z z least_number) (lt_z most_number z)) (Iff.and (not-less z least_number) (not-less most_number z))

true-not : (b : Bool) (A : Type 0) → (b ≡ false) ↔ A → (b ≡ true) ↔ (¬ A)
true-not b A h = Iff.trans (Iff.symm (eq-true-eq-not-eq-false b)) (Iff.not h)

-- a fault is known by its number; 11 is no fault's
fault_of : ℕ → Fault
fault_of n = get_or (fine ∷ out_of_range ∷ long_name ∷ data_bound ∷ bad_call ∷ many_lambdas ∷ fine ∷ too_many ∷ []) (n - 5) fine

fault-of-number : (f : Fault) → fault_of (fault_number f) ≡ f
unfolding fault_of fault_number
fault-of-number fine = refl
fault-of-number out_of_range = refl
fault-of-number long_name = refl
fault-of-number data_bound = refl
fault-of-number bad_call = refl
fault-of-number many_lambdas = refl
fault-of-number too_many = refl

pub same-fault : (f g : Fault) → fault_number f ≡ fault_number g → f ≡ g
same-fault f g h = sym (fault-of-number f) ∙ ap fault_of h ∙ fault-of-number g

-- the fault behind a refused number: from 6 to 10 the token's own; at 12 the token's own, or it is a 129th part
number-cases : (f : Fault) (b : Bool) → (or_many (fault_number f) b ≡ fault_number f) ⊎ ((or_many (fault_number f) b ≡ fault_number too_many) × (f ≡ fine) × (b ≡ true))
unfolding fault_number
number-cases fine true = inr (refl, refl, refl)
number-cases fine false = inl refl
number-cases out_of_range b = inl refl
number-cases long_name b = inl refl
number-cases data_bound b = inl refl
number-cases bad_call b = inl refl
number-cases many_lambdas b = inl refl
number-cases too_many b = inl refl

pub number-means : (c : ℕ) (f : Fault) (p : Bool) (g : Fault) → fault c (note f p) ≡ fault_number g
    → (f ≡ g) ⊎ ((g ≡ too_many) × (f ≡ fine) × (p ≡ true) × (text_parts ≤ c))
unfolding fault
number-means c f p g h = ⊎_map (λ e. same-fault f g (sym e ∙ h)) many (number-cases f (p && leb text_parts c))
  where
    many : (or_many (fault_number f) (p && leb text_parts c) ≡ fault_number too_many) × (f ≡ fine) × ((p && leb text_parts c) ≡ true)
        → (g ≡ too_many) × (f ≡ fine) × (p ≡ true) × (text_parts ≤ c)
    many z = let y = (and-eq-true_iff p (leb text_parts c)).0 z.2 in (same-fault g too_many (sym h ∙ z.0), z.1, y.0, (leb-iff text_parts c).0 y.1)

-- two faults that their numbers tell apart
abbrev Apart : Fault → Fault → Type 0
Apart f g = T (not (eqb (fault_number f) (fault_number g)))

apart : (f g : Fault) → Apart f g → ¬ (f ≡ g)
apart f g n e = T_not (eqb (fault_number f) (fault_number g)) n (rw e (eqb_refl (fault_number g)))

-- of the tests in their order: one that names another fault fails
past : (b : Bool) (f g h : Fault) → Apart f h → (cond b f g ≡ h) ↔ ((b ≡ false) × (g ≡ h))
past true f g h n = (λ e. absurd (apart f h n e), λ z. absurd (true≢false z.0))
past false f g h n = (λ e. (refl, e), λ z. z.1)

-- and the one that names this fault holds, where nothing behind it names this fault
hit : (b : Bool) (f g : Fault) → ¬ (g ≡ f) → (cond b f g ≡ f) ↔ (b ≡ true)
hit true f g n = (λ e. refl, λ e. refl)
hit false f g n = (λ e. absurd (n e), λ e. absurd (false≢true e))

lacks : (b : Bool) (f g h : Fault) → Apart f h → ¬ (g ≡ h) → ¬ (cond b f g ≡ h)
lacks true f g h n m e = apart f h n e
lacks false f g h n m e = m e

-- the last test
clear : (b : Bool) (f : Fault) → Apart f fine → (cond b f fine ≡ fine) ↔ (b ≡ false)
clear b f n = Iff.trans (past b f fine fine n) (λ h. h.0, λ h. (h, refl))

only : (b : Bool) (f : Fault) → Apart f fine → (cond b f fine ≡ f) ↔ (b ≡ true)
only b f n = hit b f fine (λ e. apart f fine n (sym e))

misses : (b : Bool) (f h : Fault) → Apart f h → Apart fine h → ¬ (cond b f fine ≡ h)
misses b f h n m = lacks b f fine h n (apart fine h m)

-- no fault
module _ (d : Around) where
  pub deep-fine : (deep d ≡ fine) ↔ (d.marks < open_marks)
  unfolding fault_number
  deep-fine = Iff.trans (clear (leb open_marks d.marks) too_many tt) (not-leb-iff open_marks d.marks)

  pub mark-fine : (w : Bool) → (mark_fault w d ≡ fine) ↔ ((w ≡ false) × (d.marks < open_marks))
  unfolding fault_number mark_fault
  mark-fine w = Iff.trans (past w bad_call (deep d) fine tt) (Iff.and Iff.rfl deep-fine)

  pub lambda-fine : (w : Bool) → (lambda_fault w d ≡ fine) ↔ ((w ≡ false) × ((d.lambdas < open_lambdas) × (d.marks < open_marks)))
  unfolding fault_number lambda_fault
  lambda-fine w =
      Iff.trans (past w bad_call _ fine tt) (Iff.and Iff.rfl
      (Iff.trans (past (leb open_lambdas d.lambdas) many_lambdas (deep d) fine tt) (Iff.and (not-leb-iff open_lambdas d.lambdas) deep-fine)))

pub binder-fine : (x : List ℕ) → (binder_fault x ≡ fine) ↔ ((length x ≤ name_bytes) × NotData x)
unfolding fault_number binder_fault
binder-fine x =
    Iff.trans (past (is_long x) long_name _ fine tt) (Iff.and (short x) (Iff.trans (clear (is_data x) data_bound tt) (not-data x)))

pub name-fine : (w : Bool) (x : List ℕ) → (name_fault w x ≡ fine) ↔ ((length x ≤ name_bytes) × (w ≡ false))
unfolding fault_number name_fault
name-fine w x = Iff.trans (past (is_long x) long_name _ fine tt) (Iff.and (short x) (clear w bad_call tt))

pub literal-fine : (w : Bool) (z : ℤ) → (literal_fault w z ≡ fine) ↔ (InRange z × (w ≡ false))
unfolding fault_number literal_fault
literal-fine w z = Iff.trans (past (outside z) out_of_range _ fine tt) (Iff.and (in-range z) (clear w bad_call tt))

pub call-fine : (b : Bool) → (call_fault b ≡ fine) ↔ (b ≡ false)
unfolding fault_number call_fault
call-fine b = clear b bad_call tt

-- 6: a number out of range
pub six : (w : Bool) (z : ℤ) → (literal_fault w z ≡ out_of_range) ↔ (¬ InRange z)
unfolding fault_number literal_fault
six w z =
    Iff.trans (hit (outside z) out_of_range _ (misses w bad_call out_of_range tt tt))
    (true-not (outside z) (InRange z) (in-range z))

-- 7: a name of over 8 bytes, bound or in use
pub seven-name : (w : Bool) (x : List ℕ) → (name_fault w x ≡ long_name) ↔ (name_bytes < length x)
unfolding fault_number name_fault
seven-name w x = Iff.trans (hit (is_long x) long_name _ (misses w bad_call long_name tt tt)) (long x)

pub seven-binder : (x : List ℕ) → (binder_fault x ≡ long_name) ↔ (name_bytes < length x)
unfolding fault_number binder_fault
seven-binder x = Iff.trans (hit (is_long x) long_name _ (misses (is_data x) data_bound long_name tt tt)) (long x)

-- 8: data bound
pub eight-binder : (x : List ℕ) → (binder_fault x ≡ data_bound) ↔ ((length x ≤ name_bytes) × (packed x ≡ packed data_word))
unfolding fault_number binder_fault
eight-binder x = Iff.trans (past (is_long x) long_name _ data_bound tt) (Iff.and (short x) (Iff.trans (only (is_data x) data_bound tt) (is-data x)))

-- 9: a member, ) or comma that is wrong, or an expression where a member takes no argument
pub nine-call : (b : Bool) → (call_fault b ≡ bad_call) ↔ (b ≡ true)
unfolding fault_number call_fault
nine-call b = only b bad_call tt

pub nine-mark : (w : Bool) (d : Around) → (mark_fault w d ≡ bad_call) ↔ (w ≡ true)
unfolding fault_number mark_fault
nine-mark w d = hit w bad_call (deep d) (misses (leb open_marks d.marks) too_many bad_call tt tt)

pub nine-lambda : (w : Bool) (d : Around) → (lambda_fault w d ≡ bad_call) ↔ (w ≡ true)
unfolding fault_number lambda_fault
nine-lambda w d =
    hit w bad_call _ (lacks (leb open_lambdas d.lambdas) many_lambdas (deep d) bad_call tt
    (misses (leb open_marks d.marks) too_many bad_call tt tt))

pub nine-name : (w : Bool) (x : List ℕ) → (name_fault w x ≡ bad_call) ↔ ((length x ≤ name_bytes) × (w ≡ true))
unfolding fault_number name_fault
nine-name w x = Iff.trans (past (is_long x) long_name _ bad_call tt) (Iff.and (short x) (only w bad_call tt))

pub nine-number : (w : Bool) (z : ℤ) → (literal_fault w z ≡ bad_call) ↔ (InRange z × (w ≡ true))
unfolding fault_number literal_fault
nine-number w z = Iff.trans (past (outside z) out_of_range _ bad_call tt) (Iff.and (in-range z) (only w bad_call tt))

-- 10: a third open \
pub ten : (w : Bool) (d : Around) → (lambda_fault w d ≡ many_lambdas) ↔ ((w ≡ false) × (open_lambdas ≤ d.lambdas))
unfolding fault_number lambda_fault
ten w d =
    Iff.trans (past w bad_call _ many_lambdas tt) (Iff.and Iff.rfl
    (Iff.trans (hit (leb open_lambdas d.lambdas) many_lambdas (deep d) (misses (leb open_marks d.marks) too_many many_lambdas tt tt))
    (leb-iff open_lambdas d.lambdas)))

-- 12: a 17th open mark; a 129th part is in number-means
pub twelve : (d : Around) → (deep d ≡ too_many) ↔ (open_marks ≤ d.marks)
unfolding fault_number
twelve d = Iff.trans (only (leb open_marks d.marks) too_many tt) (leb-iff open_marks d.marks)

pub twelve-mark : (w : Bool) (d : Around) → (mark_fault w d ≡ too_many) ↔ ((w ≡ false) × (open_marks ≤ d.marks))
unfolding fault_number mark_fault
twelve-mark w d = Iff.trans (past w bad_call (deep d) too_many tt) (Iff.and Iff.rfl (twelve d))

pub twelve-lambda : (w : Bool) (d : Around) → (lambda_fault w d ≡ too_many) ↔ ((w ≡ false) × ((d.lambdas < open_lambdas) × (open_marks ≤ d.marks)))
unfolding fault_number lambda_fault
twelve-lambda w d =
    Iff.trans (past w bad_call _ too_many tt) (Iff.and Iff.rfl
    (Iff.trans (past (leb open_lambdas d.lambdas) many_lambdas (deep d) too_many tt) (Iff.and (not-leb-iff open_lambdas d.lambdas) (twelve d))))
