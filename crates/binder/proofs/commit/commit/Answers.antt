-- What is left of the entries that wait decides. Assumes nothing.
use borrow.Author.Rules.{rules}
use Rattle.binder.specs.WrittenLaws.{append-go, append-end, count-go}
use Rattle.binder.proofs.commit.commit.Goals as goal

pub loop-i-preserved : goal.loop-i-preserved
loop-i-preserved c = (
  count-go _ _ _ _ _ _ _ _ _ c.loop-i.invariant.1 _ _ _ _ _ c.append.ensures c.loop-i.invariant.0 (search rules),
  append-go _ _ _ _ _ _ _ _ _ c.loop-i.invariant.1 _ _ _ _ c.append.ensures c.fresh_at.ensures c.loop-i-test.true,
)

pub returns : goal.returns
returns c = append-end _ _ _ _ _ _ _ _ _ c.loop-i.invariant.1 (search rules)
