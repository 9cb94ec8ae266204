-- Of two clocks' times the seconds decide and then the nanoseconds; of others the comparison that adds nothing to the first.
use mathlib.Core.Path.{◌∙◌}
use Rattle.times.proofs.Order.{passes_before, seconds_decide, nanos_decide}
use Rattle.times.proofs.Time.is_before.Goals as goal

pub returns-then-self-ge-SECOND : goal.returns-then-self-ge-SECOND
returns-then-self-ge-SECOND c = let a = c.args in c.passes.ensures ∙ passes_before a.self a.other

pub returns-then-other-ge-SECOND : goal.returns-then-other-ge-SECOND
returns-then-other-ge-SECOND c = let a = c.args in c.passes-then-other-ge-SECOND.ensures ∙ passes_before a.self a.other

pub returns-then-self-other : goal.returns-then-self-other
returns-then-self-other c =
    let a = c.args in
    seconds_decide a.self a.other c.if-self-ge-SECOND.false c.if-other-ge-SECOND.false c.if-self-other.true

pub returns : goal.returns
returns c =
    let a = c.args in
    nanos_decide a.self a.other c.if-self-ge-SECOND.false c.if-other-ge-SECOND.false c.if-self-other.false
