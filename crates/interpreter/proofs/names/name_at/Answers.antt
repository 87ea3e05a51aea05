-- Each turn goes on to a record before, on the way to the variable. Assumes nothing.
use Rattle.interpreter.specs.NamingLaws.{way-begin, way-one, way-low, way_on, way_end}
use Rattle.interpreter.proofs.names.name_at.Goals as goal

pub loop-n-init : goal.loop-n-init
loop-n-init c = (c.record_at-n.ensures, way-begin _ _ _ _ c.requires)

pub overflow_sub-at : goal.overflow_sub-at
overflow_sub-at c =
    rw c.next-at.ensures (way-one c.args.records.now c.args.orders.now c.args.i c.args.level c.loop-n.at
    c.loop-n.invariant.1 c.loop-n.n c.loop-n.invariant.0 c.loop-n-test.true)

pub loop-n-smaller : goal.loop-n-smaller
loop-n-smaller c =
    rw c.next-at.ensures (way-low c.args.records.now c.args.orders.now c.args.i c.args.level c.loop-n.at
    c.loop-n.invariant.1 c.loop-n.n c.loop-n.invariant.0 c.loop-n-test.true)

pub loop-n-preserved : goal.loop-n-preserved
loop-n-preserved c = (
  c.record_at-n-in-loop-n.ensures,
  way_on _ _ _ _ c.loop-n.at c.loop-n.invariant.1 c.loop-n.n c.loop-n.invariant.0 c.loop-n-test.true
      c.next-at.result c.next-at.ensures,
)

pub returns : goal.returns
returns c =
    way_end _ _ _ _ c.loop-n.at c.loop-n.invariant.1 c.loop-n.n c.loop-n.invariant.0 c.loop-n-test.false
