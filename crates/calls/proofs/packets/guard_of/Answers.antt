-- The window is the one that was loaded, if there is one.
use Rattle.calls.proofs.packets.guard_of.Goals as goal

pub returns-then-given : goal.returns-then-given
returns-then-given c = simp (c.load_window.ensures, c.if-given.true)

pub returns-else-given : goal.returns-else-given
returns-else-given c = simp c.if-given.false
