-- The address has its own words.
use Rattle.netcode.proofs.stages.addressed.Goals as goal

pub returns : goal.returns
returns c = simp c.first_word.ensures
