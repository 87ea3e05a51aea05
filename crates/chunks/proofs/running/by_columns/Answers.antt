-- `chunks::running::by_columns` meets its contract: what fits is a list of members that run no function, and the buffer is written only for
-- such a list. Assumes nothing.
use Rattle.chunks.proofs.Turning.{ran}
use Rattle.chunks.proofs.running.by_columns.Goals as goal

pub returns-clause-done : goal.returns-clause-done
returns-clause-done c = ran _ c.fits.ensures c.if-not-fits.false c.run.ensures
