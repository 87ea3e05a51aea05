-- What each record awaits is set once, from those before it. Assumes nothing.
use native.Mathlib.Omega.{arith}
use Rattle.layout.specs.Held.{record_at}
use Rattle.interpreter.specs.OrdersLaws.{ordered-more}
use Rattle.interpreter.proofs.orders.order_all.Goals as goal

pub loop-i-preserved : goal.loop-i-preserved
loop-i-preserved c =
    ordered-more (record_at c.args.records.now) c.loop-i.i c.loop-i.orders c.loop-i.invariant (omega (arith, c.loop-i-test.true, c.requires))
    c.order_at-w.result c.order_at-w.ensures c.from.result c.from.ensures
