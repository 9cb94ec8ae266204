-- Any two outcomes that satisfy a promise coincide (document 01, "What every promise pins down"): each promise is an equation for the
-- record, the answer and what the host is asked for, with all that a call can write. `Post` is the function's `ensures`, of its arguments a,
-- its result x and its slices at exit e.
use mathlib.Core.Path.{◌≡◌}
use Rattle.serialize.proofs.Determined.{coincide}
use Rattle.turns.specs.Packets.{spoken}
use Rattle.sending.specs.Packets.{served}
use Rattle.sending.proofs.packets.send.Reads as send
use Rattle.sending.proofs.packets.end.Reads as end
use Rattle.sending.proofs.payloads.generate_payload_packet.Reads as generate-payload-packet
use Rattle.sending.proofs.clients.update_client.Reads as update-client
use Rattle.sending.proofs.clients.disconnect.Reads as disconnect

-- the slots are lent to be read alone
pub send_determined : (κs : _) (a : _) (x y : _) (e f : _) → send.Post κs a x e → send.Post κs a y f
    → spoken x e.1.1.1.1.1.0.now ≡ spoken y f.1.1.1.1.1.0.now
send_determined κs a x y e f p q = coincide p q

pub generate_payload_packet_determined : (κs : _) (a : _) (x y : _) (e f : _) → generate-payload-packet.Post κs a x e → generate-payload-packet.Post κs a y f
    → spoken x e.1.1.1.1.0.now ≡ spoken y f.1.1.1.1.0.now
generate_payload_packet_determined κs a x y e f p q = coincide p q

pub end_determined : (κs : _) (a : _) (x y : _) (e f : _) → end.Post κs a x e → end.Post κs a y f
    → served x e.1.1.0.now e.1.1.1.1.0.now ≡ served y f.1.1.0.now f.1.1.1.1.0.now
end_determined κs a x y e f p q = coincide p q

pub update_client_determined : (κs : _) (a : _) (x y : _) (e f : _) → update-client.Post κs a x e → update-client.Post κs a y f
    → served x e.1.1.0.now e.1.1.1.0.now ≡ served y f.1.1.0.now f.1.1.1.0.now
update_client_determined κs a x y e f p q = coincide p q

pub disconnect_determined : (κs : _) (a : _) (x y : _) (e f : _) → disconnect.Post κs a x e → disconnect.Post κs a y f
    → served x e.1.1.0.now e.1.1.1.0.now ≡ served y f.1.1.0.now f.1.1.1.0.now
disconnect_determined κs a x y e f p q = coincide p q
