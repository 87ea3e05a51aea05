-- `chunks::fitting::settles` meets its contract: the kind of a member's argument says whether it runs a function. Assumes nothing.
use Rattle.chunks.proofs.Fits.{settles-other}
use Rattle.chunks.proofs.fitting.settles.Goals as goal

pub returns-in_default : goal.returns-in_default
returns-in_default c = settles-other _ _ _ _ c.member_of.ensures c.in-Some.is c.argument.ensures c.in_default.not-Function
