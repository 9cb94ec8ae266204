-- Each part is read from its words.
use Rattle.netcode.specs.Laid.{set_up_in}
use Rattle.netcode.proofs.record.set_up_in.Goals as goal

pub returns : goal.returns
unfolding set_up_in
returns c = simp (c.key_at-2.ensures, c.key_at.ensures)
