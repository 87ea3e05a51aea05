-- By the entry's kind. Assumes nothing.
use borrow.Author.Rules.{rules}
use Rattle.writer.specs.PuttingLaws.{number_small, puts_number, puts_readings, puts_name}
use Rattle.writer.proofs.put.put_leaf.Goals as goal

pub put_number-requires : goal.put_number-requires
put_number-requires c = number_small _ c.requires c.if-n-eq-NUMBER.true

pub returns-then-n-eq-NUMBER : goal.returns-then-n-eq-NUMBER
returns-then-n-eq-NUMBER c = search (rules, puts_number)

pub returns-then-n-eq-READINGS : goal.returns-then-n-eq-READINGS
returns-then-n-eq-READINGS c = search (rules, puts_readings)

pub returns : goal.returns
returns c = search (rules, puts_name)
