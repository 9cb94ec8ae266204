-- Each part of the record is read from its words.
use Rattle.netcode.specs.Laid.{record_in}
use Rattle.netcode.proofs.record.read.Goals as goal

pub returns : goal.returns
unfolding record_in
returns c = simp (c.stage_in.ensures, c.set_up_in.ensures)
