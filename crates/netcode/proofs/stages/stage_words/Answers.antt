-- Each arm is a case of the definition.
use Rattle.netcode.specs.Laid.{stage_words}
use Rattle.netcode.proofs.stages.stage_words.Goals as goal

pub returns-in-Idle : goal.returns-in-Idle
unfolding stage_words
returns-in-Idle c = simp (c.placed.ensures, c.in-Idle.is)

pub returns-in-Packet : goal.returns-in-Packet
unfolding stage_words
returns-in-Packet c = simp (c.packet_words.ensures, c.in-Packet.is)

pub returns-in-Token : goal.returns-in-Token
unfolding stage_words
returns-in-Token c = simp (c.token_words.ensures, c.in-Token.is)

pub returns-in-Challenge : goal.returns-in-Challenge
unfolding stage_words
returns-in-Challenge c = simp (c.placed-in-Challenge.ensures, c.in-Challenge.is)

pub returns-in-Seal : goal.returns-in-Seal
unfolding stage_words
returns-in-Seal c = simp (c.goal_words.ensures, c.in-Seal.is)
