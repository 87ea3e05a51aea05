-- The names of an order's levels, one after the other. Assumes nothing.
use mathlib.Core.Path.{refl, sym, ap, ◌∙◌}
use native.Mathlib.Omega.{arith}
use Rattle.meaning.specs.Evaluation.{has_name}
use Rattle.interpreter.specs.Orders.{listed}
use Rattle.interpreter.specs.NamingLaws.{awaits-level, names-none, names-one, names-two}
use Rattle.interpreter.proofs.names.names_of.Goals as goal

pub name_at-requires : goal.name_at-requires
unfolding listed has_name
name_at-requires c = awaits-level c.args.records.now c.args.orders.now c.args.i c.requires _ (ap listed (sym c.from.ensures ∙ c.in-Outer.is)) 0 (omega arith) refl

pub name_at-requires-in-Inner : goal.name_at-requires-in-Inner
unfolding listed has_name
name_at-requires-in-Inner c = awaits-level c.args.records.now c.args.orders.now c.args.i c.requires _ (ap listed (sym c.from.ensures ∙ c.in-Inner.is)) 1 (omega arith) refl

pub name_at-requires-in-OuterInner : goal.name_at-requires-in-OuterInner
unfolding listed has_name
name_at-requires-in-OuterInner c = awaits-level c.args.records.now c.args.orders.now c.args.i c.requires _ (ap listed (sym c.from.ensures ∙ c.in-OuterInner.is)) 0 (omega arith) refl

pub name_at-requires-in-OuterInner-2 : goal.name_at-requires-in-OuterInner-2
unfolding listed has_name
name_at-requires-in-OuterInner-2 c = awaits-level c.args.records.now c.args.orders.now c.args.i c.requires _ (ap listed (sym c.from.ensures ∙ c.in-OuterInner.is)) 1 (omega arith) refl

pub name_at-requires-in-InnerOuter : goal.name_at-requires-in-InnerOuter
unfolding listed has_name
name_at-requires-in-InnerOuter c = awaits-level c.args.records.now c.args.orders.now c.args.i c.requires _ (ap listed (sym c.from.ensures ∙ c.in-InnerOuter.is)) 1 (omega arith) refl

pub name_at-requires-in-InnerOuter-2 : goal.name_at-requires-in-InnerOuter-2
unfolding listed has_name
name_at-requires-in-InnerOuter-2 c = awaits-level c.args.records.now c.args.orders.now c.args.i c.requires _ (ap listed (sym c.from.ensures ∙ c.in-InnerOuter.is)) 0 (omega arith) refl

pub returns-in-Empty : goal.returns-in-Empty
returns-in-Empty c = names-none c.args.records.now c.args.orders.now c.args.i c.requires (sym c.from.ensures ∙ c.in-Empty.is)

pub returns-in-Outer : goal.returns-in-Outer
unfolding listed has_name
returns-in-Outer c = names-one c.args.records.now c.args.orders.now c.args.i c.requires 0 (ap listed (sym c.from.ensures ∙ c.in-Outer.is)) refl _ c.name_at.ensures

pub returns-in-Inner : goal.returns-in-Inner
unfolding listed has_name
returns-in-Inner c = names-one c.args.records.now c.args.orders.now c.args.i c.requires 1 (ap listed (sym c.from.ensures ∙ c.in-Inner.is)) refl _ c.name_at-in-Inner.ensures

pub returns-in-OuterInner : goal.returns-in-OuterInner
unfolding listed has_name
returns-in-OuterInner c = names-two c.args.records.now c.args.orders.now c.args.i c.requires 0 1 (ap listed (sym c.from.ensures ∙ c.in-OuterInner.is)) refl refl _ _ c.name_at-in-OuterInner.ensures c.name_at-in-OuterInner-2.ensures

pub returns-in-InnerOuter : goal.returns-in-InnerOuter
unfolding listed has_name
returns-in-InnerOuter c = names-two c.args.records.now c.args.orders.now c.args.i c.requires 1 0 (ap listed (sym c.from.ensures ∙ c.in-InnerOuter.is)) refl refl _ _ c.name_at-in-InnerOuter.ensures c.name_at-in-InnerOuter-2.ensures
