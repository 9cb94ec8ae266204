-- Any two outcomes that satisfy a promise coincide (document 01, "What every promise pins down"): each promise is an equation for
-- all that a call can change. `Post` is the function's `ensures`, of its arguments a, its result x and its slices at exit e.
use mathlib.Core.Path.{◌≡◌}
use Rattle.serialize.proofs.Determined.{coincide}
use Rattle.calls.specs.Heads.{written}
use Rattle.calls.specs.Packets.{handed, placed}
use Rattle.calls.proofs.desk.challenged_desk.Reads as challenged-desk
use Rattle.calls.proofs.desk.decoded_desk.Reads as decoded-desk
use Rattle.calls.proofs.desk.encoded_desk.Reads as encoded-desk
use Rattle.calls.proofs.desk.kept_on.Reads as kept_on
use Rattle.calls.proofs.desk.opening_of.Reads as opening-of
use Rattle.calls.proofs.desk.packet_of.Reads as packet-of
use Rattle.calls.proofs.desk.proof_opening_of.Reads as proof-opening-of
use Rattle.calls.proofs.desk.refused_desk.Reads as refused-desk
use Rattle.calls.proofs.desk.sealing_of.Reads as sealing-of
use Rattle.calls.proofs.desk.told_of.Reads as told_of
use Rattle.calls.proofs.heads.pump_decode_prefix.Reads as pump-decode-prefix
use Rattle.calls.proofs.heads.pump_encode_prefix.Reads as pump-encode-prefix
use Rattle.calls.proofs.heads.pump_get_additional_data.Reads as pump-get-additional-data
use Rattle.calls.proofs.heads.pump_get_token_additional_data.Reads as pump-get-token-additional-data
use Rattle.calls.proofs.heads.pump_read_sequence.Reads as pump-read-sequence
use Rattle.calls.proofs.heads.pump_sequence_bytes_required.Reads as pump-sequence-bytes-required
use Rattle.calls.proofs.heads.pump_write_sequence.Reads as pump-write-sequence
use Rattle.calls.proofs.packets.pump_answer_seal.Reads as pump-answer-seal
use Rattle.calls.proofs.packets.pump_field.Reads as pump-field
use Rattle.calls.proofs.windows.pump_advance_at.Reads as pump-advance-at
use Rattle.calls.proofs.windows.pump_advance_sequence.Reads as pump-advance-sequence
use Rattle.calls.proofs.windows.pump_already_received.Reads as pump-already-received
use Rattle.calls.proofs.windows.pump_new_window.Reads as pump-new-window
use Rattle.calls.proofs.windows.pump_refusal.Reads as pump-refusal
use Rattle.calls.proofs.windows.pump_refusal_at.Reads as pump-refusal-at
use Rattle.calls.proofs.packets.pump_answer_open.Reads as pump-answer-open
use Rattle.calls.proofs.packets.pump_decode.Reads as pump-decode
use Rattle.calls.proofs.packets.pump_encode.Reads as pump-encode
use Rattle.calls.proofs.tokens.pump_answer_challenge.Reads as pump-answer-challenge
use Rattle.calls.proofs.tokens.pump_decode_challenge.Reads as pump-decode-challenge
use Rattle.calls.proofs.tokens.pump_generate_challenge.Reads as pump-generate-challenge

-- ---- functions that return a value and write nothing

pub told_of_determined : (κs : _) (a : _) (x y : _) (e f : _) → told_of.Post κs a x e → told_of.Post κs a y f → x ≡ y
told_of_determined κs a x y e f p q = coincide p q

pub encoded_desk_determined : (κs : _) (a : _) (x y : _) (e f : _) → encoded-desk.Post κs a x e → encoded-desk.Post κs a y f → x ≡ y
encoded_desk_determined κs a x y e f p q = coincide p q

pub refused_desk_determined : (κs : _) (a : _) (x y : _) (e f : _) → refused-desk.Post κs a x e → refused-desk.Post κs a y f → x ≡ y
refused_desk_determined κs a x y e f p q = coincide p q

pub kept_on_determined : (κs : _) (a : _) (x y : _) (e f : _) → kept_on.Post κs a x e → kept_on.Post κs a y f → x ≡ y
kept_on_determined κs a x y e f p q = coincide p q

pub sealing_of_determined : (κs : _) (a : _) (x y : _) (e f : _) → sealing-of.Post κs a x e → sealing-of.Post κs a y f → x ≡ y
sealing_of_determined κs a x y e f p q = coincide p q

pub packet_of_determined : (κs : _) (a : _) (x y : _) (e f : _) → packet-of.Post κs a x e → packet-of.Post κs a y f → x ≡ y
packet_of_determined κs a x y e f p q = coincide p q

pub decoded_desk_determined : (κs : _) (a : _) (x y : _) (e f : _) → decoded-desk.Post κs a x e → decoded-desk.Post κs a y f → x ≡ y
decoded_desk_determined κs a x y e f p q = coincide p q

pub opening_of_determined : (κs : _) (a : _) (x y : _) (e f : _) → opening-of.Post κs a x e → opening-of.Post κs a y f → x ≡ y
opening_of_determined κs a x y e f p q = coincide p q

pub challenged_desk_determined : (κs : _) (a : _) (x y : _) (e f : _) → challenged-desk.Post κs a x e → challenged-desk.Post κs a y f → x ≡ y
challenged_desk_determined κs a x y e f p q = coincide p q

pub proof_opening_of_determined : (κs : _) (a : _) (x y : _) (e f : _) → proof-opening-of.Post κs a x e → proof-opening-of.Post κs a y f → x ≡ y
proof_opening_of_determined κs a x y e f p q = coincide p q

pub pump_sequence_bytes_required_determined : (κs : _) (a : _) (x y : _) (e f : _) → pump-sequence-bytes-required.Post κs a x e → pump-sequence-bytes-required.Post κs a y f → x ≡ y
pump_sequence_bytes_required_determined κs a x y e f p q = coincide p q

pub pump_encode_prefix_determined : (κs : _) (a : _) (x y : _) (e f : _) → pump-encode-prefix.Post κs a x e → pump-encode-prefix.Post κs a y f → x ≡ y
pump_encode_prefix_determined κs a x y e f p q = coincide p q

pub pump_already_received_determined : (κs : _) (a : _) (x y : _) (e f : _) → pump-already-received.Post κs a x e → pump-already-received.Post κs a y f → x ≡ y
pump_already_received_determined κs a x y e f p q = coincide p q

pub pump_refusal_determined : (κs : _) (a : _) (x y : _) (e f : _) → pump-refusal.Post κs a x e → pump-refusal.Post κs a y f → x ≡ y
pump_refusal_determined κs a x y e f p q = coincide p q

pub pump_refusal_at_determined : (κs : _) (a : _) (x y : _) (e f : _) → pump-refusal-at.Post κs a x e → pump-refusal-at.Post κs a y f → x ≡ y
pump_refusal_at_determined κs a x y e f p q = coincide p q

-- ---- functions that write one lent array

pub pump_decode_prefix_determined : (κs : _) (a : _) (x y : _) (e f : _) → pump-decode-prefix.Post κs a x e → pump-decode-prefix.Post κs a y f → e.1.0.now ≡ f.1.0.now
pump_decode_prefix_determined κs a x y e f p q = coincide p q

pub pump_read_sequence_determined : (κs : _) (a : _) (x y : _) (e f : _) → pump-read-sequence.Post κs a x e → pump-read-sequence.Post κs a y f → e.1.1.1.0.now ≡ f.1.1.1.0.now
pump_read_sequence_determined κs a x y e f p q = coincide p q

pub pump_get_additional_data_determined : (κs : _) (a : _) (x y : _) (e f : _) → pump-get-additional-data.Post κs a x e → pump-get-additional-data.Post κs a y f → e.0.now ≡ f.0.now
pump_get_additional_data_determined κs a x y e f p q = coincide p q

pub pump_get_token_additional_data_determined : (κs : _) (a : _) (x y : _) (e f : _) → pump-get-token-additional-data.Post κs a x e → pump-get-token-additional-data.Post κs a y f → e.0.now ≡ f.0.now
pump_get_token_additional_data_determined κs a x y e f p q = coincide p q

pub pump_new_window_determined : (κs : _) (a : _) (x y : _) (e f : _) → pump-new-window.Post κs a x e → pump-new-window.Post κs a y f → e.0.now ≡ f.0.now
pump_new_window_determined κs a x y e f p q = coincide p q

pub pump_advance_sequence_determined : (κs : _) (a : _) (x y : _) (e f : _) → pump-advance-sequence.Post κs a x e → pump-advance-sequence.Post κs a y f → e.0.now ≡ f.0.now
pump_advance_sequence_determined κs a x y e f p q = coincide p q

pub pump_advance_at_determined : (κs : _) (a : _) (x y : _) (e f : _) → pump-advance-at.Post κs a x e → pump-advance-at.Post κs a y f → e.0.now ≡ f.0.now
pump_advance_at_determined κs a x y e f p q = coincide p q

pub pump_answer_seal_determined : (κs : _) (a : _) (x y : _) (e f : _) → pump-answer-seal.Post κs a x e → pump-answer-seal.Post κs a y f → e.1.1.0.now ≡ f.1.1.0.now
pump_answer_seal_determined κs a x y e f p q = coincide p q

-- ---- functions that write one and return a count

pub pump_write_sequence_determined : (κs : _) (a : _) (x y : _) (e f : _) → pump-write-sequence.Post κs a x e → pump-write-sequence.Post κs a y f → written x e.0.now ≡ written y f.0.now
pump_write_sequence_determined κs a x y e f p q = coincide p q

pub pump_field_determined : (κs : _) (a : _) (x y : _) (e f : _) → pump-field.Post κs a x e → pump-field.Post κs a y f → written x e.1.1.1.1.0.now ≡ written y f.1.1.1.1.0.now
pump_field_determined κs a x y e f p q = coincide p q

-- ---- functions that write the desk and what else is lent

pub pump_encode_determined : (κs : _) (a : _) (x y : _) (e f : _) → pump-encode.Post κs a x e → pump-encode.Post κs a y f
    → handed e.1.1.1.1.1.1.1.1.1.0.now e.1.1.1.1.1.1.1.1.1.1.0.now e.0.now ≡ handed f.1.1.1.1.1.1.1.1.1.0.now f.1.1.1.1.1.1.1.1.1.1.0.now f.0.now
pump_encode_determined κs a x y e f p q = coincide p q

pub pump_decode_determined : (κs : _) (a : _) (x y : _) (e f : _) → pump-decode.Post κs a x e → pump-decode.Post κs a y f
    → handed e.1.1.1.1.1.1.0.now e.1.1.1.1.1.1.1.0.now e.1.1.1.1.1.0.now ≡ handed f.1.1.1.1.1.1.0.now f.1.1.1.1.1.1.1.0.now f.1.1.1.1.1.0.now
pump_decode_determined κs a x y e f p q = coincide p q

pub pump_generate_challenge_determined : (κs : _) (a : _) (x y : _) (e f : _) → pump-generate-challenge.Post κs a x e → pump-generate-challenge.Post κs a y f
    → handed e.1.1.1.1.1.1.0.now e.1.1.1.1.1.1.1.0.now e.0.now ≡ handed f.1.1.1.1.1.1.0.now f.1.1.1.1.1.1.1.0.now f.0.now
pump_generate_challenge_determined κs a x y e f p q = coincide p q

pub pump_answer_open_determined : (κs : _) (a : _) (x y : _) (e f : _) → pump-answer-open.Post κs a x e → pump-answer-open.Post κs a y f
    → placed e.1.1.1.1.0.now e.1.1.0.now ≡ placed f.1.1.1.1.0.now f.1.1.0.now
pump_answer_open_determined κs a x y e f p q = coincide p q

pub pump_decode_challenge_determined : (κs : _) (a : _) (x y : _) (e f : _) → pump-decode-challenge.Post κs a x e → pump-decode-challenge.Post κs a y f
    → placed e.1.1.1.1.0.now e.1.1.1.1.1.0.now ≡ placed f.1.1.1.1.0.now f.1.1.1.1.1.0.now
pump_decode_challenge_determined κs a x y e f p q = coincide p q

pub pump_answer_challenge_determined : (κs : _) (a : _) (x y : _) (e f : _) → pump-answer-challenge.Post κs a x e → pump-answer-challenge.Post κs a y f
    → placed e.1.1.0.now e.1.1.1.0.now ≡ placed f.1.1.0.now f.1.1.1.0.now
pump_answer_challenge_determined κs a x y e f p q = coincide p q
