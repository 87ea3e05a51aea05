-- The cells of the new entry, and the count. Assumes nothing.
use mathlib.Core.Path.{refl}
use Rattle.binder.specs.WrittenLaws.{append-is}
use Rattle.binder.proofs.commit.append.Goals as goal

pub returns : goal.returns
returns c =
    append-is c.args.heads.now _ _ _ _ _ _ _
    c.get_or-count.ensures c.put_links.ensures c.put_cells.ensures refl
