-- An ask is open, or none is.
use mathlib.Core.Path.{sym, ap}
use Rattle.calls.specs.Desk.{kept_sealing}
use Rattle.calls.proofs.desk.kept_sealing.Goals as goal

pub returns-in-Some : goal.returns-in-Some
returns-in-Some c = sym (ap kept_sealing c.in-Some.is)
