-- The refusals and their numbers. Assumes nothing.
use Rattle.std.specs.Prelude.{◌≡◌, refl, ℕ, ◌≤◌, eqb}
use Rattle.std.proofs.Common.{sym, arith}
use borrow.Author.Tests.{eqb-true, eqb-false}
use Rattle.language.specs.Cases.{split}
use Rattle.language.specs.declared.refusals.Refusal.{Refusal}
use Rattle.language.specs.declared.refusals.Refusal.TheVariants as R
use Rattle.language.specs.Refusals.{refusal_number, text_refusal}

-- 0 is no refusal's number
pub refusal-some : (e : Refusal) → ¬ (refusal_number e ≡ 0)
refusal-some R.TextTooLong z = omega arith
refusal-some R.RecordingTooLong z = omega arith
refusal-some R.MemoryTooSmall z = omega arith
refusal-some R.CacheIllFormed z = omega arith
refusal-some R.Ungrammatical z = omega arith
refusal-some R.NumberOutside z = omega arith
refusal-some R.NameTooLong z = omega arith
refusal-some R.DataBound z = omega arith
refusal-some R.WrongCall z = omega arith
refusal-some R.ThirdLambda z = omega arith
refusal-some R.TextLimit z = omega arith
refusal-some R.TableFull z = omega arith
refusal-some R.NoSuchEntry z = omega arith
refusal-some R.TextUnfit z = omega arith
refusal-some R.OtherForm z = omega arith

-- a text's refusal has the number that it stands for, one from 5 to 12 but 11
pub refusal-numbered : (n : ℕ) → (5 ≤ n) × (n ≤ 12) × (¬ (n ≡ 11)) → refusal_number (text_refusal n) ≡ n
unfolding text_refusal
refusal-numbered n h =
    split (eqb n 5) (λ t. rw t (sym (eqb-true n 5 t))) λ f₁. rw f₁
    (split (eqb n 6) (λ t. rw t (sym (eqb-true n 6 t))) λ f₂. rw f₂
    (split (eqb n 7) (λ t. rw t (sym (eqb-true n 7 t))) λ f₃. rw f₃
    (split (eqb n 8) (λ t. rw t (sym (eqb-true n 8 t))) λ f₄. rw f₄
    (split (eqb n 9) (λ t. rw t (sym (eqb-true n 9 t))) λ f₅. rw f₅
    (split (eqb n 10) (λ t. rw t (sym (eqb-true n 10 t))) λ f₆. rw f₆
    (omega (arith, h.0, h.1, h.2, eqb-false n 5 f₁, eqb-false n 6 f₂, eqb-false n 7 f₃, eqb-false n 8 f₄, eqb-false n 9 f₅, eqb-false n 10 f₆)))))))

-- and is the one of its number
pub refusal-back : (f : Refusal) → 5 ≤ refusal_number f → refusal_number f ≤ 12 → text_refusal (refusal_number f) ≡ f
unfolding text_refusal
refusal-back R.TextTooLong l h = absurd (omega arith)
refusal-back R.RecordingTooLong l h = absurd (omega arith)
refusal-back R.MemoryTooSmall l h = absurd (omega arith)
refusal-back R.CacheIllFormed l h = absurd (omega arith)
refusal-back R.Ungrammatical l h = refl
refusal-back R.NumberOutside l h = refl
refusal-back R.NameTooLong l h = refl
refusal-back R.DataBound l h = refl
refusal-back R.WrongCall l h = refl
refusal-back R.ThirdLambda l h = refl
refusal-back R.TextLimit l h = refl
refusal-back R.TableFull l h = absurd (omega arith)
refusal-back R.NoSuchEntry l h = absurd (omega arith)
refusal-back R.TextUnfit l h = absurd (omega arith)
refusal-back R.OtherForm l h = absurd (omega arith)
