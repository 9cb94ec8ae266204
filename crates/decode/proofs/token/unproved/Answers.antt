-- Nothing is asked, and there is no token.
use Rattle.decode.proofs.token.unproved.Goals as goal

pub returns : goal.returns
returns c = simp (c.no_ask.ensures, c.no_token.ensures)
