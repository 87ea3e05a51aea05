-- The scope array with its depth, held against the names of Records and the marks of Faults: what is looked up, counted and refused is
-- the same. Assumes nothing.
use Rattle.std.specs.Prelude.{◌≡◌, Bool, List, [], ◌∷◌, ℕ, zero, suc, ◌+◌, ◌*◌, ◌<◌, leb, eqb, ℤ, length, get_or, set}
use Rattle.std.proofs.Math.Path.{refl}
use Rattle.std.proofs.Common.{◌∙◌, arith, length-set, get_or-set_other, get_or-set_same}
use Rattle.std.proofs.Math.Bool.{true, false, cond}
use Rattle.std.proofs.Math.Dec.{eqb-suc-zero}
use Rattle.language.specs.Limits.{text_parts}
use Rattle.language.specs.Names.{packed, is_long, is_data}
use Rattle.grammar.specs.Tokens.{when}
use Rattle.grammar.specs.Faults.{fine, bad_call, too_many, many_lambdas, long_name, data_bound, out_of_range, fault_number, or_many}
use Rattle.grammar.specs.Faults.{Around, deep, mark_fault, lambda_fault, binder_fault, name_fault, literal_fault, call_fault, note, fault}
use Rattle.layout.specs.Memory.{Node, node}
use Rattle.layout.specs.Nodes.{unbound_kind}
use Rattle.records.specs.Records.{Named, lambdas_of, Recorded, new_record, linked, record_scoped}
use Rattle.descent.specs.Cursor.{binder_name, binder_link, binder_of, lambdas_in, is_outside}
use Rattle.descent.specs.Cursor.{at_part, at_let, at_lambda, at_bracket, at_name, at_number}

-- the cells below the depth hold these names, the innermost first
abbrev pub Holds : List Named → ℕ → List ℕ → Type 0
Holds [] zero scope = Unit {0}
Holds [] (suc b) scope = ⊥
Holds (e ∷ Σ) zero scope = ⊥
Holds (e ∷ Σ) (suc b) scope = (binder_name scope b ≡ packed e.0) × (binder_link scope b ≡ e.1) × Holds Σ b scope

pub holds_kept : (Σ : List Named) (depth : ℕ) (scope scope' : List ℕ) → ((i : ℕ) → i < 2 * depth → get_or scope' i 0 ≡ get_or scope i 0) → Holds Σ depth scope
    → Holds Σ depth scope'
holds_kept [] zero scope scope' f h = tt
holds_kept [] (suc b) scope scope' f h = h
holds_kept (e ∷ Σ) zero scope scope' f h = h
holds_kept (e ∷ Σ) (suc b) scope scope' f h =
    (f (2 * b) (omega arith) ∙ h.0, f (2 * b + 1) (omega arith) ∙ h.1, holds_kept Σ b scope scope' (λ i l. f i (omega arith)) h.2)

pub holds-entered : (Σ : List Named) (depth : ℕ) (scope x : List ℕ) (j : ℕ) → 2 * depth + 1 < length scope → Holds Σ depth scope
    → Holds ((x, j) ∷ Σ) (suc depth) (set (set scope (2 * depth) (packed x)) (2 * depth + 1) j)
holds-entered Σ depth scope x j l h =
    let one = set scope (2 * depth) (packed x) in
    let n : length one ≡ length scope = length-set scope (2 * depth) (packed x) in (
      get_or-set_other one (2 * depth + 1) (2 * depth) j 0 (λ e. omega arith) ∙ get_or-set_same scope (2 * depth) (packed x) 0 (omega arith),
      get_or-set_same one (2 * depth + 1) j 0 (omega arith),
      holds_kept Σ depth scope (set one (2 * depth + 1) j)
          (λ i m. get_or-set_other one (2 * depth + 1) i j 0 (λ e. omega arith) ∙ get_or-set_other scope (2 * depth) i (packed x) 0 (λ e. omega arith)) h,
    )

-- counted: the lambdas around
pub lambdas-are : (Σ : List Named) (depth : ℕ) (scope : List ℕ) → Holds Σ depth scope → lambdas_in scope depth ≡ lambdas_of Σ
unfolding lambdas_in lambdas_of
lambdas-are [] zero scope h = refl
lambdas-are [] (suc b) scope h = absurd h
lambdas-are (e ∷ Σ) zero scope h = absurd h
lambdas-are (e ∷ Σ) (suc b) scope h = let l = h.1 in rw (l, lambdas-are Σ b scope h.2) refl

-- looked up: the record of a name in use
abbrev pub found_at : List ℕ → List ℕ → List Node → ℕ → Recorded
found_at scope x t zero = new_record (node unbound_kind (packed x) 0 0) t (length t ∷ [])
found_at scope x t (suc b) = linked (binder_link scope b) x (lambdas_in scope b) t

pub scoped-is : (x : List ℕ) (t : List Node) (Σ : List Named) (depth : ℕ) (scope : List ℕ) → Holds Σ depth scope
    → record_scoped x Σ t ≡ found_at scope x t (binder_of scope (packed x) depth)
unfolding record_scoped binder_of when
scoped-is x t [] zero scope h = refl
scoped-is x t [] (suc b) scope h = absurd h
scoped-is x t (e ∷ Σ) zero scope h = absurd h
scoped-is x t (e ∷ Σ) (suc b) scope h =
    let n = h.0 in
    let l = h.1 in
    rw (n, ← l, ← lambdas-are Σ b scope h.2) (by (eqb (packed x) (packed e.0)) (scoped-is x t Σ b scope h.2))
  where
    by : (q : Bool) → record_scoped x Σ t ≡ found_at scope x t (binder_of scope (packed x) b)
        → cond q (linked (binder_link scope b) x (lambdas_in scope b) t) (record_scoped x Σ t) ≡ found_at scope x t (when q (λ _. suc b) (λ _. binder_of scope (packed x) b))
    by true i = refl
    by false i = i

-- the names as Faults counts them; a let's is no lambda's
abbrev pub around : ℕ → List Named → Around
around marks Σ = record { marks = marks; lambdas = lambdas_of Σ }

pub around-let : (marks : ℕ) (x : List ℕ) (j : ℕ) (Σ : List Named) → around marks ((x, suc j) ∷ Σ) ≡ around marks Σ
unfolding lambdas_of
around-let marks x j Σ = rw (eqb-suc-zero j) refl

-- the refusals at a token are the numbers of Faults
part-number : (c : ℕ) → at_part c ≡ or_many 0 (leb text_parts c)
unfolding at_part
part-number c = by (leb text_parts c)
  where
    by : (b : Bool) → cond b 12 0 ≡ or_many 0 b
    by true = refl
    by false = refl

module _ (c marks : ℕ) (Σ : List Named) where
  pub dot-number : at_part c ≡ fault c (note fine true)
  unfolding fault fault_number
  dot-number = part-number c

  pub let-number : (w : Bool) → at_let w marks c ≡ fault c (note (mark_fault w (around marks Σ)) true)
  unfolding at_let fault mark_fault fault_number
  let-number w = rw part-number (by w (leb 16 marks))
    where
      by : (w a : Bool)
          → cond w 9 (cond a 12 (or_many 0 (leb text_parts c))) ≡ or_many (fault_number (cond w bad_call (cond a too_many fine))) (leb text_parts c)
      by true a = refl
      by false true = refl
      by false false = refl

  pub lambda-number : (w : Bool) (depth : ℕ) (scope : List ℕ) → Holds Σ depth scope
      → at_lambda w (lambdas_in scope depth) marks c ≡ fault c (note (lambda_fault w (around marks Σ)) true)
  unfolding at_lambda fault lambda_fault fault_number
  lambda-number w depth scope h = rw (part-number, lambdas-are Σ depth scope h) (by w (leb 2 (lambdas_of Σ)) (leb 16 marks))
    where
      by : (w l a : Bool)
          → cond w 9 (cond l 10 (cond a 12 (or_many 0 (leb text_parts c))))
          ≡ or_many (fault_number (cond w bad_call (cond l many_lambdas (cond a too_many fine)))) (leb text_parts c)
      by true l a = refl
      by false true a = refl
      by false false true = refl
      by false false false = refl

  pub bracket-number : (w : Bool) → at_bracket w marks ≡ fault c (note (mark_fault w (around marks Σ)) false)
  unfolding at_bracket fault mark_fault fault_number
  bracket-number w = by w (leb 16 marks)
    where
      by : (w a : Bool) → cond w 9 (cond a 12 0) ≡ or_many (fault_number (cond w bad_call (cond a too_many fine))) false
      by true a = refl
      by false true = refl
      by false false = refl

  pub open-number : cond (leb 16 marks) 12 0 ≡ fault c (note (deep (around marks Σ)) false)
  unfolding fault fault_number
  open-number = by (leb 16 marks)
    where
      by : (a : Bool) → cond a 12 0 ≡ or_many (fault_number (cond a too_many fine)) false
      by true = refl
      by false = refl

  pub name-number : (w : Bool) (x : List ℕ) → at_name w x c ≡ fault c (note (name_fault w x) true)
  unfolding at_name fault name_fault fault_number
  name-number w x = rw part-number (by (is_long x) w)
    where
      by : (l w : Bool)
          → cond l 7 (cond w 9 (or_many 0 (leb text_parts c))) ≡ or_many (fault_number (cond l long_name (cond w bad_call fine))) (leb text_parts c)
      by true w = refl
      by false true = refl
      by false false = refl

  pub literal-number : (w : Bool) (z : ℤ) → at_number w z c ≡ fault c (note (literal_fault w z) true)
  unfolding at_number fault literal_fault fault_number
  literal-number w z = rw part-number (by (is_outside z) w)
    where
      by : (l w : Bool)
          → cond l 6 (cond w 9 (or_many 0 (leb text_parts c))) ≡ or_many (fault_number (cond l out_of_range (cond w bad_call fine))) (leb text_parts c)
      by true w = refl
      by false true = refl
      by false false = refl

pub binder-number : (c : ℕ) (x : List ℕ) → cond (is_long x) 7 (cond (is_data x) 8 0) ≡ fault c (note (binder_fault x) false)
unfolding fault binder_fault fault_number
binder-number c x = by (is_long x) (is_data x)
  where
    by : (l a : Bool) → cond l 7 (cond a 8 0) ≡ or_many (fault_number (cond l long_name (cond a data_bound fine))) false
    by true a = refl
    by false true = refl
    by false false = refl

pub call-number : (c : ℕ) (b : Bool) → cond b 9 0 ≡ fault c (note (call_fault b) false)
unfolding fault call_fault fault_number
call-number c true = refl
call-number c false = refl
