-- Words, answer and ask are laid one after the other.
use Rattle.netcode.proofs.steps.lay_asking.Goals as goal

pub returns : goal.returns
returns c = simp (c.lay_ask.ensures, c.lay_answer.ensures, c.put_step.ensures)
