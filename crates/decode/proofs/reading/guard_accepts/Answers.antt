-- The two tests of the definition.
use Rattle.serialize.specs.Choice.{pick}
use Rattle.decode.specs.Decodes.{guard_accepts}
use Rattle.asks.proofs.Lent.{told}
use Rattle.decode.proofs.reading.guard_accepts.Goals as goal

pub returns-in-Some : goal.returns-in-Some
unfolding guard_accepts pick
returns-in-Some c = simp (c.advance_in_place.ensures, told c.apply_replay_protection.ensures c.if-apply_replay_protection.true, c.in-Some.is)

pub returns-in_default : goal.returns-in_default
unfolding guard_accepts pick
returns-in_default c = simp (told c.apply_replay_protection.ensures c.if-apply_replay_protection.true, c.in_default.is)

pub returns-else-apply_replay_protection : goal.returns-else-apply_replay_protection
unfolding guard_accepts pick
returns-else-apply_replay_protection c = simp (told c.apply_replay_protection.ensures c.if-apply_replay_protection.false)
