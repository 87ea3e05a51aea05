-- Where nothing is refused, the name is not too long and there is room for its record. Assumes nothing.
use Rattle.steps.specs.CursorsLaws.{raised, part-kept}
use Rattle.steps.proofs.ScratchPaths.{name-room, name-long, name-long-whole, name-read, name-held, name-stopped, name-stopped-whole, name-kept}
use Rattle.steps.proofs.scratch.read_name.Goals as goal

pub put_name-requires : goal.put_name-requires
put_name-requires c = name-room _ _ _ _ _ c.at_atom.ensures c.in_ok-a.ensures _ _ _ c.requires

pub returns-then-is_long-clause-leaves : goal.returns-then-is_long-clause-leaves
returns-then-is_long-clause-leaves c = name-long _ _ _ _ _ _ _ _ _ c.is_long.ensures c.requires c.if-is_long.true _ c.refused.ensures

pub returns-then-is_long-clause-whole : goal.returns-then-is_long-clause-whole
returns-then-is_long-clause-whole c = name-long-whole _ _ _ _ _ _ _ _ _ c.is_long.ensures c.requires c.if-is_long.true _ c.refused.ensures

pub returns-in_err-a-clause-leaves : goal.returns-in_err-a-clause-leaves
returns-in_err-a-clause-leaves c =
    rw (raised _ c.from_residual.ensures.1) (name-stopped _ _ _ _ _ _ _ _ _ c.is_long.ensures c.requires c.if-is_long.false _ c.at_atom.ensures _ c.in_err-a.ensures)

pub returns-in_err-a-clause-whole : goal.returns-in_err-a-clause-whole
returns-in_err-a-clause-whole c =
    rw (raised _ c.from_residual.ensures.1) (name-stopped-whole _ _ _ _ _ _ _ _ _ c.is_long.ensures c.requires c.if-is_long.false _ c.at_atom.ensures _ c.in_err-a.ensures)

pub returns-then-is_refused : goal.returns-then-is_refused
returns-then-is_refused c =
    let h = name-held _ _ _ _ _ _ _ _ _ c.is_long.ensures c.requires c.if-is_long.false _ c.at_atom.ensures _ c.in_ok-a.ensures _ c.is_refused.ensures c.if-is_refused.true in
    record { leaves = h; kept = part-kept _ _ c.args.c _ _ c.in_ok-a.ensures; whole = h.cursor }

pub returns : goal.returns
returns c =
    let h = name-read _ _ _ _ _ _ _ _ _ c.is_long.ensures c.requires c.if-is_long.false _ c.at_atom.ensures _ c.in_ok-a.ensures _ c.is_refused.ensures
    c.if-is_refused.false _ c.name-name.ensures _ _ _ c.put_name.ensures in
    record {
      leaves = h;
      kept = name-kept _ c.args.c c.in_ok-a.a (part-kept _ _ c.args.c _ _ c.in_ok-a.ensures) _ _ _ _ _ _ _ _ c.put_name.ensures;
      whole = h.cursor;
    }
