-- What `decode_challenge` answers, laid out.
use Rattle.calls.proofs.Laid.{challenge_laid}
use Rattle.calls.proofs.tokens.pump_decode_challenge.Goals as goal

pub returns : goal.returns
returns c = challenge_laid c.decode_challenge-challenged.result _ _ _ c.decode_challenge-challenged.ensures c.challenged_desk.ensures c.told_of.ensures
