-- Each arm is a case of the definition.
use Rattle.netcode.specs.Laid.{goal_words}
use Rattle.netcode.proofs.stages.goal_words.Goals as goal

pub returns-in-Denied : goal.returns-in-Denied
unfolding goal_words
returns-in-Denied c = simp (c.addressed.ensures, c.in-Denied.is)

pub returns-in-ChallengeToken : goal.returns-in-ChallengeToken
unfolding goal_words
returns-in-ChallengeToken c = simp (c.addressed-in-ChallengeToken.ensures, c.in-ChallengeToken.is)

pub returns-in-ChallengePacket : goal.returns-in-ChallengePacket
unfolding goal_words
returns-in-ChallengePacket c = simp (c.addressed-in-ChallengePacket.ensures, c.in-ChallengePacket.is)

pub returns-in-Connecting : goal.returns-in-Connecting
unfolding goal_words
returns-in-Connecting c = simp (c.placed.ensures, c.in-Connecting.is)

pub returns-in-Sending : goal.returns-in-Sending
unfolding goal_words
returns-in-Sending c = simp (c.placed-in-Sending.ensures, c.in-Sending.is)

pub returns-in-Ending : goal.returns-in-Ending
unfolding goal_words
returns-in-Ending c = simp (c.addressed-in-Ending.ensures, c.in-Ending.is)
