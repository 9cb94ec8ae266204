-- Each arm is a case of the definition.
use Rattle.netcode.specs.Told.{work_number}
use Rattle.netcode.proofs.told.work_number.Goals as goal

pub returns-in-Open : goal.returns-in-Open
unfolding work_number
returns-in-Open c = simp c.in-Open.is

pub returns-in-Seal : goal.returns-in-Seal
unfolding work_number
returns-in-Seal c = simp c.in-Seal.is
