-- Nothing is asked, and no ask is open.
use Rattle.decode.proofs.reading.ended.Goals as goal

pub returns : goal.returns
returns c = simp c.no_ask.ensures
