-- The part lies within the readings, and is the definition's. Assumes nothing.
use Rattle.std.proofs.Common.{arith}
use Rattle.calls.specs.Previewing.{span-within, fetch-is}
use Rattle.calls.proofs.fetch.fetch.Goals as goal

pub overflow_add-end : goal.overflow_add-end
overflow_add-end c = omega (arith, span-within _ _ _ _ c.span_of-span.ensures)

pub offset_bounds-readings-start : goal.offset_bounds-readings-start
offset_bounds-readings-start c = omega (arith, span-within _ _ _ _ c.span_of-span.ensures)

pub slice_bounds-result-end : goal.slice_bounds-result-end
slice_bounds-result-end c = omega (arith, span-within _ _ _ _ c.span_of-span.ensures)

pub returns : goal.returns
returns c = fetch-is _ _ _ _ c.span_of-span.ensures
