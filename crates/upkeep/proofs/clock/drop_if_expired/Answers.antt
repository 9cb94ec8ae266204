-- Each way out leaves the mark that the definition says.
use Rattle.upkeep.proofs.Marks.{empty_stays, expired_goes, lasting_stays}
use Rattle.upkeep.proofs.clock.drop_if_expired.Goals as goal

pub returns-then-pending-i-eq0 : goal.returns-then-pending-i-eq0
returns-then-pending-i-eq0 c = let a = c.args in empty_stays a.pending.now a.m a.secs a.i c.if-pending-i-eq0.true

pub returns-then-secs-expire_timestamp : goal.returns-then-secs-expire_timestamp
returns-then-secs-expire_timestamp c =
    let a = c.args in
    expired_goes a.pending.now a.m a.secs a.i c.if-pending-i-eq0.false _ c.expire_timestamp.ensures c.if-secs-expire_timestamp.true

pub returns-else-secs-expire_timestamp : goal.returns-else-secs-expire_timestamp
returns-else-secs-expire_timestamp c =
    let a = c.args in
    lasting_stays a.pending.now a.m a.secs a.i _ c.expire_timestamp.ensures c.if-secs-expire_timestamp.false
