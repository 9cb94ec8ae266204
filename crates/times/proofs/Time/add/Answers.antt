-- The two tests are one, that the sum of the whole nanoseconds passes the range, since what is carried is below a second.
use native.Mathlib.Omega.{arith}
use Rattle.times.proofs.Sums.{add_far, add_carries_out, add_clock}
use Rattle.times.proofs.Time.add.Goals as goal

pub returns-then-step-self : goal.returns-then-step-self
returns-then-step-self c =
    let a = c.args in
    add_far a.self a.step c.if-step-self.true

pub returns-then-carry-secs : goal.returns-then-carry-secs
returns-then-carry-secs c =
    let a = c.args in
    add_carries_out a.self a.step c.if-step-self.false c.if-carry-secs.true

pub returns : goal.returns
returns c =
    let a = c.args in
    add_clock a.self a.step (omega arith) c.if-step-self.false c.if-carry-secs.false
