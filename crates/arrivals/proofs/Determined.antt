-- Any two outcomes that satisfy the promise coincide (document 01, "What every promise pins down"): the promise is an equation for the
-- answer, the record, what the host is asked for and both tables. `Post` is the function's `ensures`, of its arguments a, its result x and
-- its slices at exit e.
use mathlib.Core.Path.{◌≡◌}
use Rattle.serialize.proofs.Determined.{coincide}
use Rattle.turns.specs.Outcomes.{came}
use Rattle.arrivals.proofs.process_packet.Reads as process-packet

pub process_packet_determined : (κs : _) (a : _) (x y : _) (e f : _) → process-packet.Post κs a x e → process-packet.Post κs a y f
    → came x e.1.1.0.now e.1.1.1.0.now ≡ came y f.1.1.0.now f.1.1.1.0.now
process_packet_determined κs a x y e f p q = coincide p q
