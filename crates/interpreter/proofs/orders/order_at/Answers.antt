-- `interpreter::orders::order_at` meets its contract: each path is a law of Paths. Assumes nothing.
use Rattle.interpreter.proofs.Paths.{paths}
use Rattle.interpreter.proofs.orders.order_at.Goals as goal

pub returns-then-n-eq0 : goal.returns-then-n-eq0
returns-then-n-eq0 c = search paths

pub returns-else-n-eq0 : goal.returns-else-n-eq0
returns-else-n-eq0 c = search paths

pub returns-then-n-lt-FUNCTION : goal.returns-then-n-lt-FUNCTION
returns-then-n-lt-FUNCTION c = search paths

pub returns-then-n-eq-FUNCTION : goal.returns-then-n-eq-FUNCTION
returns-then-n-eq-FUNCTION c = search paths

pub returns : goal.returns
returns c = search paths
