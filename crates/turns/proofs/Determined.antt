-- Any two outcomes that satisfy a promise coincide (document 01, "What every promise pins down"): each promise is an equation for the
-- result, or for the result with the output. `Post` is the function's `ensures`, of its arguments a, its result x and its slices at exit e.
use mathlib.Core.Path.{◌≡◌}
use Rattle.serialize.proofs.Determined.{coincide}
use Rattle.turns.specs.Packets.{sealing, spoken}
use Rattle.turns.proofs.answered.Reads as answered
use Rattle.turns.proofs.refused.Reads as refused
use Rattle.turns.proofs.closed.Reads as closed
use Rattle.turns.proofs.asking.Reads as asking
use Rattle.turns.proofs.open_refusal.Reads as open-refusal
use Rattle.turns.proofs.packets.write_packet.Reads as write-packet
use Rattle.turns.proofs.packets.deny.Reads as deny

pub answered_determined : (κs : _) (a : _) (x y : _) (e f : _) → answered.Post κs a x e → answered.Post κs a y f → x ≡ y
answered_determined κs a x y e f p q = coincide p q

pub refused_determined : (κs : _) (a : _) (x y : _) (e f : _) → refused.Post κs a x e → refused.Post κs a y f → x ≡ y
refused_determined κs a x y e f p q = coincide p q

pub closed_determined : (κs : _) (a : _) (x y : _) (e f : _) → closed.Post κs a x e → closed.Post κs a y f → x ≡ y
closed_determined κs a x y e f p q = coincide p q

pub asking_determined : (κs : _) (a : _) (x y : _) (e f : _) → asking.Post κs a x e → asking.Post κs a y f → x ≡ y
asking_determined κs a x y e f p q = coincide p q

pub open_refusal_determined : (κs : _) (a : _) (x y : _) (e f : _) → open-refusal.Post κs a x e → open-refusal.Post κs a y f → x ≡ y
open_refusal_determined κs a x y e f p q = coincide p q

pub write_packet_determined : (κs : _) (a : _) (x y : _) (e f : _) → write-packet.Post κs a x e → write-packet.Post κs a y f
    → sealing x e.0.now ≡ sealing y f.0.now
write_packet_determined κs a x y e f p q = coincide p q

pub deny_determined : (κs : _) (a : _) (x y : _) (e f : _) → deny.Post κs a x e → deny.Post κs a y f → spoken x e.1.1.0.now ≡ spoken y f.1.1.0.now
deny_determined κs a x y e f p q = coincide p q
