-- Any two outcomes that satisfy a promise coincide (document 01, "What every promise pins down"): each promise is an equation for
-- all that a call can change. `Post` is the function's `ensures`, of its arguments a, its result x and its slices at exit e.
use mathlib.Core.Path.{◌≡◌}
use Rattle.serialize.proofs.Determined.{coincide}
use Rattle.bodies.proofs.PacketType.from_u8.Reads as from-u8
use Rattle.bodies.proofs.PacketType.to_u8.Reads as to-u8
use Rattle.bodies.proofs.PacketType.least.Reads as least
use Rattle.bodies.proofs.PacketType.wants.Reads as wants
use Rattle.bodies.proofs.PacketType.body_len.Reads as body-len
use Rattle.bodies.proofs.PacketType.is_request.Reads as is-request
use Rattle.bodies.proofs.PacketType.apply_replay_protection.Reads as apply-replay-protection
use Rattle.bodies.proofs.Packet.packet_type.Reads as packet-type
use Rattle.bodies.proofs.Packet.id.Reads as id
use Rattle.bodies.proofs.reader.read.Reads as read
use Rattle.bodies.proofs.challenge.ChallengeToken.new.Reads as token-new
use Rattle.bodies.proofs.challenge.ChallengeToken.read.Reads as token-read
use Rattle.bodies.proofs.reader.field.Reads as field
use Rattle.bodies.proofs.reader.version_info.Reads as version-info
use Rattle.bodies.proofs.reader.xnonce.Reads as xnonce
use Rattle.bodies.proofs.reader.private_data.Reads as private-data
use Rattle.bodies.proofs.reader.token_data.Reads as token-data
use Rattle.bodies.proofs.reader.payload.Reads as payload
use Rattle.bodies.proofs.writer.write.Reads as write
use Rattle.bodies.proofs.challenge.ChallengeToken.write.Reads as token-write

-- ---- functions that return a value and write nothing

pub from_u8_determined : (κs : _) (a : _) (x y : _) (e f : _) → from-u8.Post κs a x e → from-u8.Post κs a y f → x ≡ y
from_u8_determined κs a x y e f p q = coincide p q

pub to_u8_determined : (κs : _) (a : _) (x y : _) (e f : _) → to-u8.Post κs a x e → to-u8.Post κs a y f → x ≡ y
to_u8_determined κs a x y e f p q = coincide p q

pub least_determined : (κs : _) (a : _) (x y : _) (e f : _) → least.Post κs a x e → least.Post κs a y f → x ≡ y
least_determined κs a x y e f p q = coincide p q

pub wants_determined : (κs : _) (a : _) (x y : _) (e f : _) → wants.Post κs a x e → wants.Post κs a y f → x ≡ y
wants_determined κs a x y e f p q = coincide p q

pub body_len_determined : (κs : _) (a : _) (x y : _) (e f : _) → body-len.Post κs a x e → body-len.Post κs a y f → x ≡ y
body_len_determined κs a x y e f p q = coincide p q

pub is_request_determined : (κs : _) (a : _) (x y : _) (e f : _) → is-request.Post κs a x e → is-request.Post κs a y f → x ≡ y
is_request_determined κs a x y e f p q = coincide p q

pub apply_replay_protection_determined : (κs : _) (a : _) (x y : _) (e f : _) → apply-replay-protection.Post κs a x e → apply-replay-protection.Post κs a y f → x ≡ y
apply_replay_protection_determined κs a x y e f p q = coincide p q

pub packet_type_determined : (κs : _) (a : _) (x y : _) (e f : _) → packet-type.Post κs a x e → packet-type.Post κs a y f → x ≡ y
packet_type_determined κs a x y e f p q = coincide p q

pub id_determined : (κs : _) (a : _) (x y : _) (e f : _) → id.Post κs a x e → id.Post κs a y f → x ≡ y
id_determined κs a x y e f p q = coincide p q

pub read_determined : (κs : _) (a : _) (x y : _) (e f : _) → read.Post κs a x e → read.Post κs a y f → x ≡ y
read_determined κs a x y e f p q = coincide p q

pub token_new_determined : (κs : _) (a : _) (x y : _) (e f : _) → token-new.Post κs a x e → token-new.Post κs a y f → x ≡ y
token_new_determined κs a x y e f p q = coincide p q

pub token_read_determined : (κs : _) (a : _) (x y : _) (e f : _) → token-read.Post κs a x e → token-read.Post κs a y f → x ≡ y
token_read_determined κs a x y e f p q = coincide p q

-- ---- functions that return a part

pub field_determined : (κs : _) (a : _) (x y : _) (e f : _) → field.Post κs a x e → field.Post κs a y f → x.now ≡ y.now
field_determined κs a x y e f p q = coincide p q

pub version_info_determined : (κs : _) (a : _) (x y : _) (e f : _) → version-info.Post κs a x e → version-info.Post κs a y f → x.now ≡ y.now
version_info_determined κs a x y e f p q = coincide p q

pub xnonce_determined : (κs : _) (a : _) (x y : _) (e f : _) → xnonce.Post κs a x e → xnonce.Post κs a y f → x.now ≡ y.now
xnonce_determined κs a x y e f p q = coincide p q

pub private_data_determined : (κs : _) (a : _) (x y : _) (e f : _) → private-data.Post κs a x e → private-data.Post κs a y f → x.now ≡ y.now
private_data_determined κs a x y e f p q = coincide p q

pub token_data_determined : (κs : _) (a : _) (x y : _) (e f : _) → token-data.Post κs a x e → token-data.Post κs a y f → x.now ≡ y.now
token_data_determined κs a x y e f p q = coincide p q

pub payload_determined : (κs : _) (a : _) (x y : _) (e f : _) → payload.Post κs a x e → payload.Post κs a y f → x.now ≡ y.now
payload_determined κs a x y e f p q = coincide p q

-- ---- functions that write a buffer

pub write_determined : (κs : _) (a : _) (x y : _) (e f : _) → write.Post κs a x e → write.Post κs a y f → e.0.now ≡ f.0.now
write_determined κs a x y e f p q = coincide p q

pub token_write_determined : (κs : _) (a : _) (x y : _) (e f : _) → token-write.Post κs a x e → token-write.Post κs a y f → e.1.0.now ≡ f.1.0.now
token_write_determined κs a x y e f p q = coincide p q
