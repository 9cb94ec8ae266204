-- The two runs of words that calls change are copied.
use Rattle.netcode.specs.Quick.{step_words}
use Rattle.netcode.proofs.steps.put_step.Goals as goal

pub returns : goal.returns
unfolding step_words
returns c = simp (c.copy-2.ensures, c.copy.ensures)
