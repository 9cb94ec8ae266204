-- The seconds that are over, where there are any, are the same in the code and in the definition: the smaller of two bounds.
use native.Mathlib.Omega.{arith}
use Rattle.times.proofs.Sums.{settle_down, settle_up}
use Rattle.times.proofs.settle.Goals as goal

pub returns-then-take-give : goal.returns-then-take-give
returns-then-take-give c = settle_down c.args.up c.args.give c.args.take c.args.rest (omega arith) c.if-take-give.true c.requires.0

pub returns : goal.returns
returns c =
    let a = c.args in
    settle_up a.up a.give a.take a.rest (omega arith) c.min-fits.result c.if-take-give.false c.min-fits.ensures
