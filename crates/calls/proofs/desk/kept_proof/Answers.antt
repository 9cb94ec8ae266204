-- An ask is open, or none is.
use mathlib.Core.Path.{sym, ap}
use Rattle.calls.specs.Desk.{kept_proof}
use Rattle.calls.proofs.desk.kept_proof.Goals as goal

pub returns-in-Some : goal.returns-in-Some
returns-in-Some c = sym (ap kept_proof c.in-Some.is)
