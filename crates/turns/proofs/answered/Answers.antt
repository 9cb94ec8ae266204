-- The parts are the arguments and the empty ask.
use Rattle.turns.proofs.answered.Goals as goal

pub returns : goal.returns
returns c = simp c.no_ask.ensures
