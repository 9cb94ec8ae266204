-- The record with no ask, answered.
use Rattle.turns.proofs.closed.Goals as goal

pub returns : goal.returns
returns c = simp (c.answered.ensures, c.with_ask.ensures)
