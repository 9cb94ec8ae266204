-- The sequence that was read, or the number that refuses it.
use mathlib.Core.Path.{sym, ap, ◌∙◌}
use Rattle.calls.specs.Heads.{told}
use Rattle.calls.proofs.heads.pump_read_sequence.Goals as goal

pub returns-in-Ok : goal.returns-in-Ok
returns-in-Ok c = sym (ap told (sym c.read_sequence.ensures ∙ c.in-Ok.is))

pub returns-in-Err : goal.returns-in-Err
returns-in-Err c = simp (c.from.ensures, c.number.ensures) (sym (ap told (sym c.read_sequence.ensures ∙ c.in-Err.is)))
