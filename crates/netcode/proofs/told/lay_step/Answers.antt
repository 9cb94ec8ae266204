-- Record and answer are laid one after the other.
use Rattle.netcode.proofs.told.lay_step.Goals as goal

pub returns : goal.returns
returns c = simp (c.lay_answer.ensures, c.no_ask.ensures, c.lay.ensures)
