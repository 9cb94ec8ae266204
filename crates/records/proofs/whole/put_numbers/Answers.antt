-- Two times and three stores, each right after the last, are one run of seven words.
use mathlib.Core.Path.{◌∙◌}
use native.Mathlib.Omega.{arith}
use lib.ListN.{length-set}
use Rattle.records.proofs.Pieces.{numbers_written}
use Rattle.records.proofs.whole.put_numbers.Goals as goal

pub bounds-t-at-2 : goal.bounds-t-at-2
bounds-t-at-2 c = simp length-set (omega arith)

pub bounds-t-at-3 : goal.bounds-t-at-3
bounds-t-at-3 c = simp length-set (omega arith)

pub shape_of-t : goal.shape_of-t
shape_of-t c = simp length-set (c.put_time-2.auto.t ∙ c.put_time.auto.t)

pub returns : goal.returns
returns c =
    let a = c.args in
    numbers_written
    a.t.now
    c.put_time.new.t
    c.put_time-2.new.t
    a.at
    a.received
    a.sent
    a.timeout
    a.sequence
    a.expiry
    c.put_time.ensures
    c.put_time-2.ensures
    c.requires
