-- Any two outcomes that satisfy a promise coincide (document 01, "What every promise pins down"): each promise is an equation for the
-- result with all that a call can write. `Post` is the function's `ensures`, of its arguments a, its result x and its slices at exit e.
use mathlib.Core.Path.{◌≡◌}
use Rattle.serialize.proofs.Determined.{coincide}
use Rattle.turns.specs.Outcomes.{came, half, written}
use Rattle.opens.proofs.heard.from_slot.Reads as from-slot
use Rattle.opens.proofs.heard.from_pending.Reads as from-pending
use Rattle.opens.proofs.responses.respond.Reads as respond
use Rattle.opens.proofs.answer_open.Reads as answer-open

pub from_slot_determined : (κs : _) (a : _) (x y : _) (e f : _) → from-slot.Post κs a x e → from-slot.Post κs a y f
    → half x e.1.1.1.1.1.0.now ≡ half y f.1.1.1.1.1.0.now
from_slot_determined κs a x y e f p q = coincide p q

pub from_pending_determined : (κs : _) (a : _) (x y : _) (e f : _) → from-pending.Post κs a x e → from-pending.Post κs a y f
    → half x e.1.1.1.1.1.0.now ≡ half y f.1.1.1.1.1.0.now
from_pending_determined κs a x y e f p q = coincide p q

-- the slots are lent to be read alone
pub respond_determined : (κs : _) (a : _) (x y : _) (e f : _) → respond.Post κs a x e → respond.Post κs a y f
    → written (came x a.1.1.1.0.now e.1.1.1.1.0.now) e.1.1.1.1.1.0.now e.1.1.1.1.1.1.0.now
    ≡ written (came y a.1.1.1.0.now f.1.1.1.1.0.now) f.1.1.1.1.1.0.now f.1.1.1.1.1.1.0.now
respond_determined κs a x y e f p q = coincide p q

pub answer_open_determined : (κs : _) (a : _) (x y : _) (e f : _) → answer-open.Post κs a x e → answer-open.Post κs a y f
    → written (came x e.1.1.0.now e.1.1.1.0.now) e.1.1.1.1.0.now e.1.1.1.1.1.0.now
    ≡ written (came y f.1.1.0.now f.1.1.1.0.now) f.1.1.1.1.0.now f.1.1.1.1.1.0.now
answer_open_determined κs a x y e f p q = coincide p q
