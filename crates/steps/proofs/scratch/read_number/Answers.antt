-- Where nothing is refused, the number is in range and there is room for its record. Assumes nothing.
use Rattle.std.proofs.Common.{rules}
use Rattle.steps.specs.CursorsLaws.{raised, part-kept}
use Rattle.steps.proofs.ScratchPaths.{number-room, number-outside, number-outside-whole, number_read, number-held, number-stopped, number-stopped-whole, put-kept}
use Rattle.steps.proofs.scratch.read_number.Goals as goal

pub put-requires : goal.put-requires
put-requires c = number-room _ _ _ _ _ c.at_atom.ensures c.in_ok-a.ensures _ c.requires

pub returns-in_err-a-clause-wrote : goal.returns-in_err-a-clause-wrote
returns-in_err-a-clause-wrote c =
    rw (raised _ c.from_residual.ensures.1) (number-stopped _ _ _ _ _ _ _ c.number.ensures c.requires _ c.in-Some.is _ c.at_atom.ensures _ c.in_err-a.ensures)

pub returns-in_err-a-clause-whole : goal.returns-in_err-a-clause-whole
returns-in_err-a-clause-whole c =
    rw (raised _ c.from_residual.ensures.1) (number-stopped-whole _ _ _ _ _ _ _ c.number.ensures c.requires _ c.in-Some.is _ c.at_atom.ensures _ c.in_err-a.ensures)

pub returns-then-is_refused : goal.returns-then-is_refused
returns-then-is_refused c =
    let h = number-held _ _ _ _ _ _ _ c.number.ensures c.requires _ c.in-Some.is _ c.at_atom.ensures _ c.in_ok-a.ensures _ c.is_refused.ensures c.if-is_refused.true in
    record { wrote = h; kept = part-kept _ _ c.args.c _ _ c.in_ok-a.ensures; whole = λ scope. (h.leaves scope).cursor }

pub returns : goal.returns
returns c =
    let h = number_read _ _ _ _ _ _ _ c.number.ensures c.requires _ c.in-Some.is _ c.at_atom.ensures _ c.in_ok-a.ensures _ c.is_refused.ensures c.if-is_refused.false _
    (search rules) _ _ _ c.put.ensures in
    record {
      wrote = h;
      kept = put-kept _ c.args.c c.in_ok-a.a (part-kept _ _ c.args.c _ _ c.in_ok-a.ensures) _ _ _ _ _ _ c.put.ensures;
      whole = λ scope. (h.leaves scope).cursor;
    }

pub returns-in_default-clause-whole : goal.returns-in_default-clause-whole
returns-in_default-clause-whole c = number-outside-whole _ _ _ _ _ _ _ c.number.ensures c.requires c.in_default.is _ c.refused.ensures

pub returns-in_default-clause-wrote : goal.returns-in_default-clause-wrote
returns-in_default-clause-wrote c = number-outside _ _ _ _ _ _ _ c.number.ensures c.requires c.in_default.is _ c.refused.ensures
