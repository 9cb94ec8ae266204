-- Nine words, each of its own argument.
use Rattle.server.proofs.answers.lay.Goals as goal

pub returns : goal.returns
returns c = simp c.first_word.ensures
