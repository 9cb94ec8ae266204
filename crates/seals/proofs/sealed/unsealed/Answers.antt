-- Each arm is a case of the definition.
use Rattle.seals.specs.Seals.{unsealed}
use Rattle.seals.proofs.sealed.unsealed.Goals as goal

pub returns-in-Denied : goal.returns-in-Denied
unfolding unsealed
returns-in-Denied c = simp (c.closed.ensures, c.in-Denied.is)

pub returns-in-ChallengeToken : goal.returns-in-ChallengeToken
unfolding unsealed
returns-in-ChallengeToken c = simp (c.closed-in-ChallengeToken.ensures, c.in-ChallengeToken.is)

pub returns-in-ChallengePacket : goal.returns-in-ChallengePacket
unfolding unsealed
returns-in-ChallengePacket c = simp (c.closed-in-ChallengePacket.ensures, c.in-ChallengePacket.is)

pub returns-in-Connecting : goal.returns-in-Connecting
unfolding unsealed
returns-in-Connecting c = simp (c.closed-in-Connecting.ensures, c.in-Connecting.is)

pub returns-in-Sending : goal.returns-in-Sending
unfolding unsealed
returns-in-Sending c = simp (c.closed-in-Sending.ensures, c.in-Sending.is)

pub returns-in-Ending : goal.returns-in-Ending
unfolding unsealed
returns-in-Ending c = simp (c.closed-in-Ending.ensures, c.in-Ending.is)
