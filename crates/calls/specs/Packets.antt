-- What the calls on packets leave: the desk, the bytes for the cipher, and the buffer or the window that was lent.
use Rattle.std.specs.Prelude.{ℕ, ◌+◌, ◌-◌, Bool, true, false, List, length, eqb, ltb, Option, Some, None, Result, Ok, Err}
use Rattle.std.specs.Bool.{then_some}
use Rattle.serialize.specs.Choice.{pick}
use Rattle.serialize.specs.Runs.{part, splice, zeros}
use Rattle.replay_protection.specs.declared.ReplayProtection.{ReplayProtection}
use Rattle.replay_protection.specs.Stored.{window_at, put_window}
use Rattle.replay_protection.specs.Ours.{width, window_of, protection}
use Rattle.bodies.specs.declared.PacketType.{PacketType}
use Rattle.bodies.specs.Kinds.{type_of}
use Rattle.encode.specs.Encodes.{Done, encode, answer_seal}
use Rattle.decode.specs.Decodes.{decode, answer_open}
use Rattle.calls.specs.Heads.{Written, written}
use Rattle.calls.specs.Desk.{told_of, kept_on, encoded_desk, refused_desk, sealing_of, packet_of, decoded_desk, opening_of}

-- the desk, the bytes for the cipher, and what else was lent
pub record Handed : Type 0 where
  pub desk : List ℕ
  pub told : List ℕ
  pub lent : List ℕ

abbrev pub handed : List ℕ → List ℕ → List ℕ → Handed
handed desk told lent = record { desk = desk; told = told; lent = lent }

-- the desk, and what else was lent
pub record Placed : Type 0 where
  pub desk : List ℕ
  pub lent : List ℕ

abbrev pub placed : List ℕ → List ℕ → Placed
placed desk lent = record { desk = desk; lent = lent }

-- the key that was lent, if it is said to be one
abbrev pub key_of : Bool → List ℕ → Option (List ℕ)
key_of given bytes = then_some given bytes

-- ---- encoding: 2 for a type over 6, and nothing written

abbrev pub encoded_call : Done → Handed
encoded_call d = handed (encoded_desk d.encoded) (told_of d.encoded.ask) d.out

abbrev pub encode_typed : Result PacketType ℕ → List ℕ → ℕ → ℕ → List ℕ → ℕ → Option (List ℕ) → ℕ → Handed
encode_typed (Ok kind) out a b bytes protocol key sequence = encoded_call (encode out (packet_of kind a b) bytes protocol key sequence)
encode_typed (Err n) out a b bytes protocol key sequence = handed (refused_desk n) (zeros 66) out

abbrev pub encode_call : List ℕ → ℕ → ℕ → ℕ → List ℕ → ℕ → Bool → List ℕ → ℕ → Handed
encode_call out kind a b bytes protocol keyed key sequence =
    encode_typed (type_of kind) out a b bytes protocol (key_of keyed key) sequence

abbrev pub answer_seal_call : List ℕ → List ℕ → Bool → List ℕ
answer_seal_call desk out granted =
    encoded_desk (answer_seal (sealing_of (kept_on desk)) (length out) granted)

-- ---- decoding: the window by value, from the words lent and back to them

abbrev pub guard_of : Bool → List ℕ → Option ReplayProtection
guard_of true words = Some (protection (window_at width words 0))
guard_of false words = None

-- the words as they are where there is no window
abbrev pub window_left : List ℕ → Option ReplayProtection → List ℕ
window_left words (Some window) = put_window words 0 (window_of window)
window_left words None = words

abbrev pub decode_call : List ℕ → ℕ → Bool → List ℕ → Bool → List ℕ → Handed
decode_call d protocol keyed key guarded words =
    handed
    (decoded_desk (decode d protocol (key_of keyed key) (guard_of guarded words)))
    (told_of (decode d protocol (key_of keyed key) (guard_of guarded words)).ask)
    (window_left words (decode d protocol (key_of keyed key) (guard_of guarded words)).guard)

abbrev pub answer_open_call : List ℕ → List ℕ → Bool → List ℕ → Bool → Placed
answer_open_call desk d guarded words granted =
    placed
    (decoded_desk (answer_open (opening_of (kept_on desk)) d (guard_of guarded words) granted))
    (window_left words (answer_open (opening_of (kept_on desk)) d (guard_of guarded words) granted).guard)

-- ---- parts of a body from at to end: version, nonce, private data, token data, else all of it

unfoldable pub field_of : ℕ → List ℕ → ℕ → ℕ → List ℕ
field_of which src at end =
    pick (eqb which 0) (part src (at + 0) 13)
    (pick (eqb which 1) (part src (at + 29) 24)
    (pick (eqb which 2) (part src (at + 53) 1024)
    (pick (eqb which 3) (part src (at + 8) 300)
    (part src (at + 0) (end - at)))))

-- its length; it stands at the start of out, if it fits
unfoldable pub field_call : List ℕ → List ℕ → Written
field_call field out = pick (ltb (length out) (length field)) (written (length field) out) (written (length field) (splice out 0 field))
