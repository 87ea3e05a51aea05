-- In a text that is read, every let is replaced by capture-avoiding substitution. Assumes nothing.
use Rattle.std.specs.Prelude.{◌≡◌, List, [], ℕ}
use Rattle.language.specs.Names.{packed}
use Rattle.grammar.specs.Grammar.{Expression}
use Rattle.grammar.specs.Faults.{Around, outermost}
use Rattle.grammar.specs.KeptLimits.{Site, a_let, a_lambda, a_bracket, a_name, a_number, a_call, EverywhereE}
use Rattle.grammar.proofs.KeptLimitsLaws.{onward}
use Rattle.grammar.specs.Reading.{tree}
use Rattle.grammar.specs.Machine.{read_text}
use Rattle.grammar.proofs.Theorems.{text-read-plainly}
use Rattle.grammar.proofs.Words.{IsWord, word_bytes, Worded, text-worded}
use Rattle.meaning.specs.Substitution.{Substituted, AtLetsE, NonzeroNames}
use Rattle.meaning.proofs.SubstitutionLaws.{word-nonzero, lets-substituted}
use Rattle.meaning.specs.PartSubstitution.{PartsSubstituted}
use Rattle.meaning.proofs.PartSubstitutionLaws.{parts-substituted}

-- a name in use is a word, so that it packs to no 0
nonzero : (w : List ℕ) → IsWord w → ¬ (packed w ≡ 0)
nonzero w h = let e = h.is in rw e (word-nonzero h.head h.tail (rw e at (word_bytes w h)))

at-site : (s : Site) (d : Around) → Worded s d → NonzeroNames s d
at-site (a_let x) d p = tt
at-site (a_lambda x) d p = tt
at-site a_bracket d p = tt
at-site (a_name x) d p = nonzero x p
at-site (a_number z) d p = tt
at-site (a_call m n) d p = tt

text-nonzero : (text : List ℕ) (e : Expression) → read_text text ≡ tree e → EverywhereE NonzeroNames e outermost
text-nonzero text e h = onward e Worded NonzeroNames at-site (text-worded text e h)

pub text-lets : (text : List ℕ) (e : Expression) → read_text text ≡ tree e → AtLetsE Substituted e []
text-lets text e h = lets-substituted e ((text-read-plainly text e).0 h).1 (text-nonzero text e h)

-- and so in each part of its body
pub text-parts : (text : List ℕ) (e : Expression) → read_text text ≡ tree e → AtLetsE PartsSubstituted e []
text-parts text e h = parts-substituted e ((text-read-plainly text e).0 h).1 (text-nonzero text e h)
