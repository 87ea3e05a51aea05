-- Each answer is a law of Opening; a cache that is lent whole has room for the recording and the counts. Assumes nothing.
use Rattle.std.proofs.Common.{rules}
use Rattle.calls.specs.Opening.{opening, fits-room}
use Rattle.calls.proofs.open.open.Goals as goal

pub returns-then-n-gt-READINGS : goal.returns-then-n-gt-READINGS
returns-then-n-gt-READINGS c = search (rules, opening)

pub bounds-heads-0 : goal.bounds-heads-0
bounds-heads-0 c = search (rules, fits-room _ _ _ _ _ c.fits.ensures c.if-not-fits.false)

pub bounds-heads-1 : goal.bounds-heads-1
bounds-heads-1 c = search (rules, fits-room _ _ _ _ _ c.fits.ensures c.if-not-fits.false)

pub returns-then-not-fits : goal.returns-then-not-fits
returns-then-not-fits c = search (rules, opening)

pub copy-requires : goal.copy-requires
copy-requires c = search (rules, fits-room _ _ _ _ _ c.fits.ensures c.if-not-fits.false)

pub returns : goal.returns
returns c = search (rules, opening)
