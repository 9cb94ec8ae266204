-- The record is put together, its connect key by the callee.
use Rattle.upkeep.proofs.setup.fixed.Goals as goal

pub returns : goal.returns
returns c = simp c.connect_key.ensures
