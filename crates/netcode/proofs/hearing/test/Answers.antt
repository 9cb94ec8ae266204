-- What is sealed has passed each test.
use mathlib.Core.Path.{refl, sym, ◌∙◌}
use Rattle.refusal.proofs.Laws.{is_err_none}
use Rattle.netcode.proofs.Quickly.{had, other_tested, sealed_tested}
use Rattle.netcode.proofs.hearing.test.Goals as goal

pub returns-then-not-apply_replay_protection : goal.returns-then-not-apply_replay_protection
returns-then-not-apply_replay_protection c = let a = c.args in other_tested a.slots.now a.n a.i a.kind a.datagram.now

pub returns-then-is_err : goal.returns-then-is_err
returns-then-is_err c = let a = c.args in other_tested a.slots.now a.n a.i a.kind a.datagram.now

pub returns-then-past : goal.returns-then-past
returns-then-past c = let a = c.args in other_tested a.slots.now a.n a.i a.kind a.datagram.now

pub returns-in_err-sequence : goal.returns-in_err-sequence
returns-in_err-sequence c = let a = c.args in rw c.from_residual.ensures (other_tested a.slots.now a.n a.i a.kind a.datagram.now)

pub returns : goal.returns
returns c =
    let a = c.args in
    sealed_tested a.slots.now a.n a.i a.kind a.datagram.now _ _ c.read_start.result c.read_start.ensures (had c.read_start.result c.ok.result c.ok.ensures.value _ c.in_ok-sequence.was)
    c.apply_replay_protection.result c.apply_replay_protection.ensures c.if-not-apply_replay_protection.false
    _ refl (is_err_none _ c.window_refusal.result c.window_refusal.ensures (sym c.is_err.ensures.value ∙ c.if-is_err.false)) c.past.result c.past.ensures c.if-past.false
