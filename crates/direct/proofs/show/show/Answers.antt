-- The walk begins with nothing bound and nothing remembered; what its value shows is a law of ShowingLaws. Assumes nothing.
use mathlib.Core.Path.{refl}
use Rattle.direct.specs.ShowingLaws.{begins, nameable, shows-function, shows-delay, shows-other}
use Rattle.direct.proofs.show.show.Goals as goal

pub value-requires : goal.value-requires
value-requires c = begins _ _ _ c.requires _ c.order_all.ensures _ c.unset.ensures _ refl

pub returns-in-Function : goal.returns-in-Function
returns-in-Function c =
    shows-function _ _ _ _ _ _ _ c.value.ensures c.unset.ensures _ c.unpack-found.ensures _ c.numbers-v.ensures c.in-Function.is
    _ c.record_at.ensures _ c.view.ensures

pub names_of-awaited-requires : goal.names_of-awaited-requires
names_of-awaited-requires c = nameable _ _ _ c.requires _ c.order_all.ensures

pub returns-in-Delayed : goal.returns-in-Delayed
returns-in-Delayed c =
    shows-delay _ _ _ _ _ _ _ c.value.ensures c.unset.ensures _ c.unpack-found.ensures _ c.numbers-v.ensures c.in-Delayed.is
    _ _ c.names_of-awaited.ensures _ c.view-in-Delayed.ensures

pub returns-in_default : goal.returns-in_default
returns-in_default c =
    shows-other _ _ _ _ _ _ _ c.value.ensures c.unset.ensures _ c.unpack-found.ensures _ c.numbers-v.ensures c.in_default.not-Function c.in_default.not-Delayed
    _ c.view-in_default.ensures
