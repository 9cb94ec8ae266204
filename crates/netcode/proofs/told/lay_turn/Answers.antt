-- Record, answer and ask are laid one after the other.
use Rattle.netcode.proofs.told.lay_turn.Goals as goal

pub returns : goal.returns
returns c = simp (c.lay_ask.ensures, c.lay_answer.ensures, c.lay.ensures)
