-- The record with the ask.
use Rattle.turns.proofs.asking.Goals as goal

pub returns : goal.returns
returns c = simp c.with_ask.ensures
