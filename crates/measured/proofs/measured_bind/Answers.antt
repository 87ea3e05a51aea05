-- `measured::measured_bind` meets its contract: the test says what binding requires. Assumes nothing.
use borrow.Author.Rules.{rules}
use Rattle.measured.proofs.Measuring.{bind-count, bind-some, bind-few, bind-apart, bind_done, bind-none}
use Rattle.measured.proofs.measured_bind.Goals as goal

pub bind-total-requires : goal.bind-total-requires
bind-total-requires c = search (rules, bind-count, bind-few, bind-apart)

pub overflow_sub-n : goal.overflow_sub-n
overflow_sub-n c = search (rules, bind-some)

pub returns-then-can_bind : goal.returns-then-can_bind
returns-then-can_bind c = search (rules, bind_done)

pub returns : goal.returns
returns c = search (rules, bind-none)
