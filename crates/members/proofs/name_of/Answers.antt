-- Each arm's numbers are the definition's, as antt computes them. Assumes nothing.
use mathlib.Core.Path.{sym, ap}
use Rattle.language.specs.Names.{bytes, pack_onto}
use Rattle.members.specs.Members.{spelled, packed_name}
use Rattle.members.proofs.name_of.Goals as goal

pub returns-in-Add : goal.returns-in-Add
unfolding packed_name spelled bytes pack_onto
returns-in-Add c = ap (λ m. packed_name (spelled m)) (sym c.in-Add.is)

pub returns-in-Sub : goal.returns-in-Sub
unfolding packed_name spelled bytes pack_onto
returns-in-Sub c = ap (λ m. packed_name (spelled m)) (sym c.in-Sub.is)

pub returns-in-Mul : goal.returns-in-Mul
unfolding packed_name spelled bytes pack_onto
returns-in-Mul c = ap (λ m. packed_name (spelled m)) (sym c.in-Mul.is)

pub returns-in-Div : goal.returns-in-Div
unfolding packed_name spelled bytes pack_onto
returns-in-Div c = ap (λ m. packed_name (spelled m)) (sym c.in-Div.is)

pub returns-in-Gt : goal.returns-in-Gt
unfolding packed_name spelled bytes pack_onto
returns-in-Gt c = ap (λ m. packed_name (spelled m)) (sym c.in-Gt.is)

pub returns-in-Eq : goal.returns-in-Eq
unfolding packed_name spelled bytes pack_onto
returns-in-Eq c = ap (λ m. packed_name (spelled m)) (sym c.in-Eq.is)

pub returns-in-Skip : goal.returns-in-Skip
unfolding packed_name spelled bytes pack_onto
returns-in-Skip c = ap (λ m. packed_name (spelled m)) (sym c.in-Skip.is)

pub returns-in-Take : goal.returns-in-Take
unfolding packed_name spelled bytes pack_onto
returns-in-Take c = ap (λ m. packed_name (spelled m)) (sym c.in-Take.is)

pub returns-in-Count : goal.returns-in-Count
unfolding packed_name spelled bytes pack_onto
returns-in-Count c = ap (λ m. packed_name (spelled m)) (sym c.in-Count.is)

pub returns-in-Sum : goal.returns-in-Sum
unfolding packed_name spelled bytes pack_onto
returns-in-Sum c = ap (λ m. packed_name (spelled m)) (sym c.in-Sum.is)

pub returns-in-Min : goal.returns-in-Min
unfolding packed_name spelled bytes pack_onto
returns-in-Min c = ap (λ m. packed_name (spelled m)) (sym c.in-Min.is)

pub returns-in-Max : goal.returns-in-Max
unfolding packed_name spelled bytes pack_onto
returns-in-Max c = ap (λ m. packed_name (spelled m)) (sym c.in-Max.is)

pub returns-in-At : goal.returns-in-At
unfolding packed_name spelled bytes pack_onto
returns-in-At c = ap (λ m. packed_name (spelled m)) (sym c.in-At.is)

pub returns-in-CountWhere : goal.returns-in-CountWhere
unfolding packed_name spelled bytes pack_onto
returns-in-CountWhere c = ap (λ m. packed_name (spelled m)) (sym c.in-CountWhere.is)

pub returns-in-LongestRun : goal.returns-in-LongestRun
unfolding packed_name spelled bytes pack_onto
returns-in-LongestRun c = ap (λ m. packed_name (spelled m)) (sym c.in-LongestRun.is)

pub returns-in-SumBy : goal.returns-in-SumBy
unfolding packed_name spelled bytes pack_onto
returns-in-SumBy c = ap (λ m. packed_name (spelled m)) (sym c.in-SumBy.is)

pub returns-in-BestSum : goal.returns-in-BestSum
unfolding packed_name spelled bytes pack_onto
returns-in-BestSum c = ap (λ m. packed_name (spelled m)) (sym c.in-BestSum.is)

pub returns-in-BestAt : goal.returns-in-BestAt
unfolding packed_name spelled bytes pack_onto
returns-in-BestAt c = ap (λ m. packed_name (spelled m)) (sym c.in-BestAt.is)
