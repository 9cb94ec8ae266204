-- What `generate_challenge` answers, laid out.
use Rattle.calls.proofs.Laid.{encoded_laid}
use Rattle.calls.proofs.tokens.pump_generate_challenge.Goals as goal

pub returns : goal.returns
returns c = encoded_laid c.generate_challenge-encoded.result _ _ _ _ c.generate_challenge-encoded.ensures c.encoded_desk.ensures c.told_of.ensures
