-- What each record awaits is set once, from those before it. Assumes nothing.
use Rattle.layout.specs.Held.{record_at}
use Rattle.interpreter.specs.Orders.{Ordered}
use Rattle.interpreter.proofs.orders.order_all.Given as goal

abbrev pub invariant-loop-i : goal.invariant-loop-i
invariant-loop-i l = Ordered (record_at l.records) l.i l.orders
