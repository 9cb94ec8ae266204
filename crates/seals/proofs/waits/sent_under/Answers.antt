-- The two stores are the definition's.
use Rattle.seals.proofs.waits.sent_under.Goals as goal

pub returns : goal.returns
returns c = simp (c.set_sent_time.ensures, c.set_sequence.ensures)
