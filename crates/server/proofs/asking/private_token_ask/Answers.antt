-- The additional data is the token's, and the rest is put together.
use Rattle.server.specs.Asking.{private_token_ask}
use Rattle.server.proofs.asking.private_token_ask.Goals as goal

pub returns : goal.returns
unfolding private_token_ask
returns c = simp c.get_token_additional_data.ensures
