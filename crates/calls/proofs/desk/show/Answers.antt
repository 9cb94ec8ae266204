-- Each number is its field.
use Rattle.calls.proofs.desk.show.Goals as goal

pub returns : goal.returns
returns c = simp (c.second.ensures, c.first.ensures, c.id.ensures)
