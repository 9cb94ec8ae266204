-- By what the tests gave, and then by the answer; where they passed the tables are set-up's.
use mathlib.Core.Path.{refl}
use Rattle.refusal.proofs.Laws.{passed, refused_as, refused_some}
use lib.ListN.{length}
use Rattle.grants.proofs.Tests.{grantable}
use Rattle.grants.proofs.Ways.{answer_refused, answer_yes, answer_no}
use Rattle.grants.proofs.answer_token.Goals as goal

pub returns-in-Err : goal.returns-in-Err
returns-in-Err c =
    let a = c.args in
    answer_refused a.server a.token a.list.now a.slots.now a.pending.now a.entries.now a.public.now a.held.now a.out.now (length a.datagram.now)
    a.given _ (refused_as _ _ c.grant_refusal-tested.ensures _ c.in-Err.is) (refused_some _ _ c.grant_refusal-tested.ensures _ c.in-Err.is) _ c.refused.ensures

pub grant-requires : goal.grant-requires
grant-requires c =
    let a = c.args in
    grantable a.server a.slots.now a.pending.now a.entries.now a.public.now (length a.datagram.now) a.out.now a.given a.list.now
    _ (passed _ _ c.grant_refusal-tested.ensures _ c.in_default.is) refl

pub returns-then-given : goal.returns-then-given
returns-then-given c =
    let a = c.args in
    answer_yes a.server a.token a.list.now a.slots.now a.pending.now a.entries.now a.public.now a.held.now a.out.now (length a.datagram.now)
    a.given _ (passed _ _ c.grant_refusal-tested.ensures _ c.in_default.is) refl c.if-given.true _ _ _ _ _ c.grant.ensures

pub returns : goal.returns
returns c =
    let a = c.args in
    answer_no a.server a.token a.list.now a.slots.now a.pending.now a.entries.now a.public.now a.held.now a.out.now (length a.datagram.now)
    a.given _ (passed _ _ c.grant_refusal-tested.ensures _ c.in_default.is) refl c.if-given.false _ c.closed.ensures
