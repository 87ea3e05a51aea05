-- The kinds in the member table are those of the member's rule, by one test over the members. Assumes nothing.
use Rattle.std.specs.Prelude.{◌≡◌, refl, eqb}
use Rattle.std.proofs.Common.{eqb-true}
use Rattle.members.specs.Members.{row, kind_number}
use Rattle.members.specs.MembersLaws.{each}
use Rattle.members.specs.declared.Kind.{Kind}
use Rattle.members.specs.declared.Kind.TheVariants.{Number, Window, Function, Nothing}
use Rattle.members.specs.declared.Member.{Member}
use Rattle.rules.specs.Rules.{Rule, two_numbers, window, window_number, window_runs, rule}

abbrev pub receiver_of : Rule → Kind
receiver_of (two_numbers f) = Number
receiver_of (window f) = Window
receiver_of (window_number f) = Window
receiver_of (window_runs f) = Window

abbrev pub argument_of : Rule → Kind
argument_of (two_numbers f) = Number
argument_of (window f) = Nothing
argument_of (window_number f) = Number
argument_of (window_runs f) = Function

pub receiver-kind : (m : Member) → kind_number (row m).receiver ≡ kind_number (receiver_of (rule m))
unfolding row rule
receiver-kind m = eqb-true _ _ (each (λ k. eqb (kind_number (row k).receiver) (kind_number (receiver_of (rule k)))) refl m)

pub argument-kind : (m : Member) → kind_number (row m).argument ≡ kind_number (argument_of (rule m))
unfolding row rule
argument-kind m = eqb-true _ _ (each (λ k. eqb (kind_number (row k).argument) (kind_number (argument_of (rule k)))) refl m)
