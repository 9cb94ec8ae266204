-- The answer in nine words, and the ask in five.
use Rattle.netcode.specs.Told.{answer_words}
use Rattle.netcode.proofs.told.lay_answer.Goals as goal

pub returns : goal.returns
unfolding answer_words
returns c = simp (c.copy-2.ensures, c.copy.ensures, c.work_number.ensures, c.words-first.ensures)
