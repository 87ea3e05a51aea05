-- By the node's kind. Assumes nothing.
use mathlib.Core.Path.{refl}
use Rattle.layout.specs.Nodes.{variable_kind, unbound_kind}
use Rattle.printing.proofs.JudgingLaws.{counted-few}
use Rattle.printer.specs.WalkingLaws.{key-name, leaf-variable, leaf-unbound, leaf-other}
use Rattle.printer.proofs.judge.walk_leaf.Goals as goal

pub is_own-requires : goal.is_own-requires
is_own-requires c = let p = c.requires in (key-name _ variable_kind c.if-n-eq-VARIABLE.true p.0 refl refl, p.1, p.2)

pub look-requires : goal.look-requires
look-requires c = rw c.count_part-met.ensures (counted-few _)

pub returns-then-n-eq-VARIABLE : goal.returns-then-n-eq-VARIABLE
returns-then-n-eq-VARIABLE c =
    leaf-variable _ _ _ _ c.count_part-met.ensures c.if-n-eq-VARIABLE.true _ c.is_own.ensures _ c.look.ensures

pub is_bound-requires : goal.is_bound-requires
is_bound-requires c = let p = c.requires in (key-name _ unbound_kind c.if-n-eq-UNBOUND.true p.0 refl refl, p.2)

pub look-requires-then-n-eq-UNBOUND : goal.look-requires-then-n-eq-UNBOUND
look-requires-then-n-eq-UNBOUND c = rw c.count_part-met.ensures (counted-few _)

pub returns-then-n-eq-UNBOUND : goal.returns-then-n-eq-UNBOUND
returns-then-n-eq-UNBOUND c =
    leaf-unbound _ _ _ _ c.count_part-met.ensures c.if-n-eq-UNBOUND.true _ c.is_bound.ensures _ c.look-then-n-eq-UNBOUND.ensures

pub returns : goal.returns
returns c =
    leaf-other _ _ _ _ c.count_part-met.ensures c.if-n-eq-VARIABLE.false c.if-n-eq-UNBOUND.false
