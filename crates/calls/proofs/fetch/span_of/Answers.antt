-- The entry's value, as it starts out, is its window; of a refused call there is none. Assumes nothing.
use Rattle.std.proofs.Common.{sym, ◌∙◌, arith}
use Rattle.calls.specs.Previewing.{goes-on, readings-few, entry-few, span-refused, span-shown}
use Rattle.calls.proofs.fetch.span_of.Goals as goal

pub returns-then-is_err : goal.returns-then-is_err
returns-then-is_err c = span-refused _ _ _ c.check.ensures (sym c.is_err.ensures.value ∙ c.if-is_err.true)

pub overflow_cast-size : goal.overflow_cast-size
overflow_cast-size c = omega (arith, readings-few _ _ _ _ _ _ c.check.ensures _ (goes-on _ (sym c.is_err.ensures.value ∙ c.if-is_err.false)) _ c.get_or-size.ensures)

pub start_at-requires : goal.start_at-requires
start_at-requires c = entry-few _ _ _ _ _ _ c.check.ensures _ (goes-on _ (sym c.is_err.ensures.value ∙ c.if-is_err.false))

pub returns : goal.returns
returns c =
    span-shown _ _ _ _ _ _ c.check.ensures (sym c.is_err.ensures.value ∙ c.if-is_err.false) _ c.get_or-size.ensures _ c.start_at.ensures _ c.unpack.ensures _ _
    c.window_in.ensures
