-- Any two outcomes that satisfy a promise coincide (document 01, "What every promise pins down"): each promise is an equation for
-- all that a call can change. `Post` is the function's `ensures`, of its arguments a, its result x and its slices at exit e.
use mathlib.Core.Path.{◌≡◌}
use Rattle.serialize.proofs.Determined.{coincide}
use Rattle.prefix.proofs.sequence_bytes_required.Reads as sequence-bytes-required
use Rattle.prefix.proofs.encode_prefix.Reads as encode-prefix
use Rattle.prefix.proofs.decode_prefix.Reads as decode-prefix
use Rattle.prefix.proofs.sequence_of.Reads as sequence-of
use Rattle.prefix.proofs.read_sequence.Reads as read-sequence
use Rattle.prefix.proofs.get_additional_data.Reads as get-additional-data
use Rattle.prefix.proofs.get_token_additional_data.Reads as get-token-additional-data
use Rattle.prefix.proofs.packet_nonce.Reads as packet-nonce
use Rattle.prefix.proofs.write_sequence.Reads as write-sequence

-- ---- functions that return a value and write nothing

pub sequence_bytes_required_determined : (κs : _) (a : _) (x y : _) (e f : _) → sequence-bytes-required.Post κs a x e → sequence-bytes-required.Post κs a y f → x ≡ y
sequence_bytes_required_determined κs a x y e f p q = coincide p q

pub encode_prefix_determined : (κs : _) (a : _) (x y : _) (e f : _) → encode-prefix.Post κs a x e → encode-prefix.Post κs a y f → x ≡ y
encode_prefix_determined κs a x y e f p q = coincide p q

pub decode_prefix_determined : (κs : _) (a : _) (x y : _) (e f : _) → decode-prefix.Post κs a x e → decode-prefix.Post κs a y f → x ≡ y
decode_prefix_determined κs a x y e f p q = coincide p q

pub sequence_of_determined : (κs : _) (a : _) (x y : _) (e f : _) → sequence-of.Post κs a x e → sequence-of.Post κs a y f → x ≡ y
sequence_of_determined κs a x y e f p q = coincide p q

pub read_sequence_determined : (κs : _) (a : _) (x y : _) (e f : _) → read-sequence.Post κs a x e → read-sequence.Post κs a y f → x ≡ y
read_sequence_determined κs a x y e f p q = coincide p q

pub get_additional_data_determined : (κs : _) (a : _) (x y : _) (e f : _) → get-additional-data.Post κs a x e → get-additional-data.Post κs a y f → x ≡ y
get_additional_data_determined κs a x y e f p q = coincide p q

pub get_token_additional_data_determined : (κs : _) (a : _) (x y : _) (e f : _) → get-token-additional-data.Post κs a x e → get-token-additional-data.Post κs a y f → x ≡ y
get_token_additional_data_determined κs a x y e f p q = coincide p q

pub packet_nonce_determined : (κs : _) (a : _) (x y : _) (e f : _) → packet-nonce.Post κs a x e → packet-nonce.Post κs a y f → x ≡ y
packet_nonce_determined κs a x y e f p q = coincide p q

-- ---- the count, and what is left of the buffer

pub write_sequence_determined : (κs : _) (a : _) (x y : _) (e f : _) → write-sequence.Post κs a x e → write-sequence.Post κs a y f → (x ≡ y) × (e.0.now ≡ f.0.now)
write_sequence_determined κs a x y e f p q = (coincide p.0 q.0, coincide p.1 q.1)
