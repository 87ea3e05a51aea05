-- 01, "When a call is declined": the refusals' numbers. Assumes nothing: these are definitions.
use Rattle.std.specs.Prelude.{cond, ℕ, eqb}
use Rattle.language.specs.declared.refusals.Refusal.{Refusal}
use Rattle.language.specs.declared.refusals.Refusal.TheVariants as R

abbrev pub refusal_number : Refusal → ℕ
refusal_number R.TextTooLong = 1
refusal_number R.RecordingTooLong = 2
refusal_number R.MemoryTooSmall = 3
refusal_number R.CacheIllFormed = 4
refusal_number R.Ungrammatical = 5
refusal_number R.NumberOutside = 6
refusal_number R.NameTooLong = 7
refusal_number R.DataBound = 8
refusal_number R.WrongCall = 9
refusal_number R.ThirdLambda = 10
refusal_number R.TextLimit = 12
refusal_number R.TableFull = 13
refusal_number R.NoSuchEntry = 14
refusal_number R.TextUnfit = 15
refusal_number R.OtherForm = 16

-- the refusal that a number from 5 to 12 stands for, as the grammar's definitions have it, which is never 11; any other number is read as 12
unfoldable pub text_refusal : ℕ → Refusal
text_refusal n =
    cond (eqb n 5) R.Ungrammatical
    (cond (eqb n 6) R.NumberOutside
    (cond (eqb n 7) R.NameTooLong
    (cond (eqb n 8) R.DataBound
    (cond (eqb n 9) R.WrongCall
    (cond (eqb n 10) R.ThirdLambda
    R.TextLimit)))))
