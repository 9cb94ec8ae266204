-- An ask is open, or none is.
use Rattle.decode.proofs.reading.answer_open.Goals.{in-Some, in-None}
use Rattle.decode.proofs.reading.answer_open.Goals as goal

pub returns : goal.returns
returns c = elim c.match-opening.branch [
  | in-Some w ↦ simp (c.no_ask.ensures, w.answer-is, w.left-is, w.in-Some.is) w.answer_opened.ensures
  | in-None w ↦ simp (c.no_ask.ensures, w.answer-is, w.left-is, w.in-None.is)
]
