-- What a print answers is determined by what is replied: the refusal of a number is found again from it. Assumes nothing.
use Rattle.std.specs.Prelude.{◌≡◌, refl, List, ℕ, Result, Ok, Err}
use Rattle.language.specs.declared.refusals.Refusal.{Refusal}
use Rattle.language.specs.declared.refusals.Refusal.TheVariants as R
use Rattle.language.specs.Refusals.{refusal_number, text_refusal}
use Rattle.layout.specs.Memory.{Memory}
use Rattle.interface.specs.Answers.{Reply, PrintReply, refusal_of_number, printed_as}
use Rattle.interface.specs.Calls.{print_answer, print_bytes}
use Rattle.interface.specs.Effects.{Prints}

-- each refusal is the one of its number
pub number-back : (e : Refusal) → refusal_of_number (refusal_number e) ≡ e
unfolding refusal_of_number text_refusal
number-back R.TextTooLong = refl
number-back R.RecordingTooLong = refl
number-back R.MemoryTooSmall = refl
number-back R.CacheIllFormed = refl
number-back R.Ungrammatical = refl
number-back R.NumberOutside = refl
number-back R.NameTooLong = refl
number-back R.DataBound = refl
number-back R.WrongCall = refl
number-back R.ThirdLambda = refl
number-back R.TextLimit = refl
number-back R.TableFull = refl
number-back R.NoSuchEntry = refl
number-back R.TextUnfit = refl
number-back R.OtherForm = refl

print-same : (r : Result ℕ Refusal) (x : Reply) → PrintReply r x → r ≡ printed_as x
print-same (Ok n) x h = rw (h.1, h.2) refl
print-same (Err e) x h = rw (h, number-back e) refl

-- so an answer that the reply has keeps the whole promise
pub prints-by : (m : Memory) (n : ℕ) (bytes bytes' : List ℕ) (r : Result ℕ Refusal) → PrintReply r (print_answer m n bytes) → bytes' ≡ print_bytes m n bytes
    → Prints m n bytes bytes' r
prints-by m n bytes bytes' r a f = record { answer = a; same = print-same r (print_answer m n bytes) a; filled = f }
