-- The words that calls change are copied in two runs.
use Rattle.netcode.specs.Laid.{record_words}
use Rattle.netcode.proofs.record.lay.Goals as goal

pub returns : goal.returns
unfolding record_words
returns c = simp (c.copy-2.ensures, c.copy.ensures, c.stage_words-stage.ensures)
