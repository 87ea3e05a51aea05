-- What is left of the number decides, byte by byte from the last. Assumes nothing.
use Rattle.std.proofs.Common.{◌≡◌, ◌-◌}
use Rattle.layout.specs.Nodes.{word_number}
use Rattle.table.proofs.entries.is_word.Given as goal

abbrev pub invariant-loop : goal.invariant-loop
invariant-loop l = word_number 8 l.k ≡ word_number (8 - l.counter) l.rest
