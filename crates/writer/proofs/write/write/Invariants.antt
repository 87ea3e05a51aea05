-- The invariant: the entry's text is what is written, with what stands before it. Assumes nothing.
use Rattle.printing.specs.Printed.{text_of}
use Rattle.writer.specs.Writing.{form_in, left, Goes}
use Rattle.writer.proofs.write.write.Given as goal

abbrev pub invariant-loop-pending : goal.invariant-loop-pending
invariant-loop-pending l = Goes l.links l.cells l.count l.initial.page.low (text_of (form_in l.links l.cells l.count l.entry)) l.s l.pending l.page

abbrev pub decreases-loop-pending : goal.decreases-loop-pending
decreases-loop-pending l = left l.s l.page
