-- Token by token, up to the first that is refused. Assumes nothing.
use Rattle.steps.specs.CursorsLaws.{raised, part-kept, kept-on}
use Rattle.steps.proofs.CursorPaths.{let-goes, let-name-stops, let-held, let-stops, let-stops-whole, no-further}
use Rattle.steps.proofs.cursor.let_head.Goals as goal

pub returns-in_err-a-clause-comes : goal.returns-in_err-a-clause-comes
returns-in_err-a-clause-comes c = rw (raised _ c.from_residual.ensures.1) (let-stops _ _ _ c.requires.next _ _ _ c.at_let.ensures _ c.in_err-a.ensures)

pub returns-in_err-a-clause-whole : goal.returns-in_err-a-clause-whole
returns-in_err-a-clause-whole c = λ n. rw (raised _ c.from_residual.ensures.1) (let-stops-whole _ _ _ c.requires.next _ _ _ c.at_let.ensures _ c.in_err-a.ensures)

pub returns-in_err-b-clause-comes : goal.returns-in_err-b-clause-comes
returns-in_err-b-clause-comes c =
    rw (raised _ c.from_residual-in_err-b.ensures.1)
    (let-name-stops _ _ _ c.requires.next _ _ _ c.at_let.ensures _ c.in_ok-a.ensures _ c.is_refused.ensures c.if-is_refused.false _ c.in_err-b.ensures.comes)

pub returns-in_err-b-clause-whole : goal.returns-in_err-b-clause-whole
returns-in_err-b-clause-whole c = λ n. absurd (no-further _ _ c.args.c _ _ c.in_ok-a.ensures _ c.is_refused.ensures c.if-is_refused.false n)

pub returns-then-is_refused : goal.returns-then-is_refused
returns-then-is_refused c = record {
  comes = let-held _ _ _ c.requires.next _ _ _ c.at_let.ensures _ c.in_ok-a.ensures _ c.is_refused.ensures c.if-is_refused.true;
  kept = part-kept _ _ c.args.c _ _ c.in_ok-a.ensures;
  whole = λ n. let-held _ _ _ c.requires.next _ _ _ c.at_let.ensures _ c.in_ok-a.ensures _ c.is_refused.ensures c.if-is_refused.true;
}

pub returns : goal.returns
returns c = record {
  comes = let-goes _ _ _ c.requires.next _ _ _ c.at_let.ensures _ c.in_ok-a.ensures _ c.is_refused.ensures c.if-is_refused.false _ c.in_ok-b.ensures.comes
      c.in_ok-b.ensures.kept _ c.need.ensures.comes;
  kept = kept-on c.args.c c.in_ok-a.a _ (part-kept _ _ c.args.c _ _ c.in_ok-a.ensures) (kept-on c.in_ok-a.a c.in_ok-b.b _ c.in_ok-b.ensures.kept c.need.ensures.kept);
  whole = λ n. absurd (no-further _ _ c.args.c _ _ c.in_ok-a.ensures _ c.is_refused.ensures c.if-is_refused.false n);
}
