-- The window is stored, or there is none.
use mathlib.Core.Path.{◌∙◌}
use Rattle.calls.proofs.packets.put_back.Goals as goal

pub returns-in-Some : goal.returns-in-Some
returns-in-Some c = c.store_window.ensures ∙ simp c.in-Some.is

pub returns-in_default : goal.returns-in_default
returns-in_default c = simp c.in_default.is
