-- Any two outcomes that satisfy a promise coincide (document 01, "What every promise pins down"): each promise is an equation for the
-- record and for every table that a call can write. `Post` is the function's `ensures`, of its arguments a, its result x and its slices at
-- exit e.
use mathlib.Core.Path.{◌≡◌}
use Rattle.serialize.proofs.Determined.{coincide}
use Rattle.upkeep.specs.SetUps as set-ups
use Rattle.upkeep.specs.Clocks as clocks
use Rattle.upkeep.proofs.setup.set_up.Reads as set-up
use Rattle.upkeep.proofs.clock.update.Reads as update
use Rattle.upkeep.proofs.limit.set_max_clients.Reads as set-max-clients

pub set_up_determined : (κs : _) (a : _) (x y : _) (e f : _) → set-up.Post κs a x e → set-up.Post κs a y f
    → set-ups.done x e.1.0.now e.1.1.0.now e.1.1.1.0.now ≡ set-ups.done y f.1.0.now f.1.1.0.now f.1.1.1.0.now
set_up_determined κs a x y e f p q = coincide p q

pub update_determined : (κs : _) (a : _) (x y : _) (e f : _) → update.Post κs a x e → update.Post κs a y f
    → clocks.done x e.1.0.now ≡ clocks.done y f.1.0.now
update_determined κs a x y e f p q = coincide p q

pub set_max_clients_determined : (κs : _) (a : _) (x y : _) (e f : _) → set-max-clients.Post κs a x e → set-max-clients.Post κs a y f → x ≡ y
set_max_clients_determined κs a x y e f p q = coincide p q
