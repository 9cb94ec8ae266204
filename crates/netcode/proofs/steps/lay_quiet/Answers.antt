-- Words, answer and ask are laid one after the other.
use Rattle.netcode.proofs.steps.lay_quiet.Goals as goal

pub returns : goal.returns
returns c = simp (c.lay_ask.ensures, c.no_ask-2.ensures, c.lay_answer.ensures, c.no_ask.ensures, c.put_step.ensures)
