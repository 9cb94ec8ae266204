-- Each word is its field.
use Rattle.calls.proofs.desk.lay.Goals as goal

pub returns : goal.returns
returns c = simp c.work_code.ensures
