-- Document 01's table, "When the server says no", for encode, decode, the challenge token and the host's answers: each number with what
-- it is given for, after the lines that come before it in document 01's order have passed.
use Rattle.std.specs.Prelude.{ℕ, ◌+◌, ◌-◌, ◌%◌, ◌^◌, ◌≤◌, ◌<◌, ◌≡◌, ◌⊎◌, Bool, true, false, List, length, get_or, Option, Some, None, is_some}
use Rattle.replay_protection.specs.declared.ReplayProtection.{ReplayProtection}
use Rattle.replay_protection.specs.Replay.{refuses}
use Rattle.replay_protection.specs.Ours.{width, window_of}
use Rattle.bodies.specs.declared.PacketType.{PacketType}
use Rattle.bodies.specs.declared.Packet.{Packet}
use Rattle.bodies.specs.declared.challenge.ChallengeToken.{ChallengeToken}
use Rattle.bodies.specs.Kinds.{number_of, windowed, is_request}
use Rattle.bodies.specs.Bodies.{kind_of, wants, least}
use Rattle.asks.specs.Asks.{no_ask}
use Rattle.encode.specs.declared.Encoding.TheVariants as encoding
use Rattle.encode.specs.Encodes.{encoded_as, open_at, refused_by, need, encode, answer_seal}
use Rattle.encode.specs.Generates.{generate_challenge}
use Rattle.decode.specs.declared.Decoding.TheVariants as decoding
use Rattle.decode.specs.declared.Proving.TheVariants as proving
use Rattle.decode.specs.Decodes.{decoded_as, ended, opening_as, count_of, sequence_of, guard_accepts, decode, answer_open}
use Rattle.decode.specs.Challenges.{proof_as, unproved, decode_challenge, answer_challenge}

-- each follows from the other
abbrev pub Iff : Type 0 → Type 0 → Type 0
Iff A B = (A → B) × (B → A)

-- ---- decode: 1, 2; type 0 then 9; others 3, 4, 5, 6, 7

-- the datagram has 18 bytes or more, and a type
pub record Typed (d : List ℕ) (kind : PacketType) : Type 0 where
  pub long : 18 ≤ length d
  pub type : get_or d 0 0 % 16 ≡ number_of kind

-- it is of a sealed type, and a key is given
pub record Keyed (d : List ℕ) (keyed : Bool) (kind : PacketType) : Type 0 where
  pub typed : Typed d kind
  pub sealed : is_request kind ≡ false
  pub given : keyed ≡ true

-- its sequence is below 2^64-256, if the type is windowed, and the window, if one is given, does not refuse it
pub record Passes (guard : Option ReplayProtection) (kind : PacketType) (sequence : ℕ) : Type 0 where
  pub below : windowed kind ≡ true → sequence + width < 2 ^ 64
  pub fresh : (window : ReplayProtection) → windowed kind ≡ true → guard ≡ Some window → refuses width (window_of window) sequence ≡ false

pub data DecodeSays (d : List ℕ) (keyed : Bool) (guard : Option ReplayProtection) : ℕ → Type 0 where
  -- 1: datagram under 18 bytes
  says_1 : length d < 18 → DecodeSays d keyed guard 1
  -- 2: type over 6
  says_2 : 18 ≤ length d → 6 < get_or d 0 0 % 16 → DecodeSays d keyed guard 2
  -- 9: body short; of a request, under 1,078 bytes in all
  says_9 : (kind : PacketType) → Typed d kind → is_request kind ≡ true → length d < 1078 → DecodeSays d keyed guard 9
  -- 3: type 1 to 6, no key given
  says_3 : (kind : PacketType) → Typed d kind → is_request kind ≡ false → keyed ≡ false → DecodeSays d keyed guard 3
  -- 4: type 1 to 6, L over 8
  says_4 : (kind : PacketType) → Keyed d keyed kind → 8 < count_of d → DecodeSays d keyed guard 4
  -- 5: windowed sequence 2^64-256 or more, with a window or without one
  says_5 : (kind : PacketType) → Keyed d keyed kind → count_of d ≤ 8 → windowed kind ≡ true → 2 ^ 64 ≤ sequence_of d + width → DecodeSays d keyed guard 5
  -- 6: window refuses
  says_6 : (kind : PacketType) (window : ReplayProtection) → Keyed d keyed kind → count_of d ≤ 8 → windowed kind ≡ true → sequence_of d + width < 2 ^ 64
      → guard ≡ Some window → refuses width (window_of window) (sequence_of d) ≡ true → DecodeSays d keyed guard 6
  -- 7: under 16 bytes after the sequence
  says_7 : (kind : PacketType) → Keyed d keyed kind → count_of d ≤ 8 → Passes guard kind (sequence_of d) → length d < 1 + count_of d + 16 → DecodeSays d keyed guard 7

-- ---- the host's answer to an ask to open a packet: 18, 8, 9 (17 where none is open)

-- the datagram has the ask's length, and the ask's place
pub record Lent (at n len room : ℕ) : Type 0 where
  pub same : room ≡ len
  pub there : at + n ≤ len

pub data OpenSays (kind : PacketType) (start len room : ℕ) (granted : Bool) : ℕ → Type 0 where
  -- 18: wrong length or range
  opens_18 : (Lent start 16 len room → ⊥) → OpenSays kind start len room granted 18
  -- 8: host says no to open
  opens_8 : Lent start 16 len room → granted ≡ false → OpenSays kind start len room granted 8
  -- 9: body short
  opens_9 : Lent start 16 len room → granted ≡ true → len - 16 - start < least kind → OpenSays kind start len room granted 9

-- ---- encode: 3, then 14 for its whole need; then 9, too few bytes beside the packet

-- a key is given, or the packet is a request
abbrev pub MayWrite : PacketType → Bool → Type 0
MayWrite kind keyed = (keyed ≡ true) ⊎ (is_request kind ≡ true)

pub data EncodeSays (room : ℕ) (kind : PacketType) (given : ℕ) (keyed : Bool) (sequence : ℕ) : ℕ → Type 0 where
  encodes_3 : is_request kind ≡ false → keyed ≡ false → EncodeSays room kind given keyed sequence 3
  encodes_14 : MayWrite kind keyed → room < need kind given sequence → EncodeSays room kind given keyed sequence 14
  encodes_9 : MayWrite kind keyed → need kind given sequence ≤ room → given < wants kind → EncodeSays room kind given keyed sequence 9

-- ---- the host's answer to an ask to seal: 18, 24 (17 where none is open)

pub data SealSays (end len room : ℕ) (granted : Bool) : ℕ → Type 0 where
  seals_18 : (Lent end 0 len room → ⊥) → SealSays end len room granted 18
  seals_24 : Lent end 0 len room → granted ≡ false → SealSays end len room granted 24

-- ---- the challenge token: 14 where it is written, 9 where it is to be opened, 18 and 8 for the host's answer (17 where none is open)

pub data ProofSays (at len room : ℕ) (granted : Bool) : ℕ → Type 0 where
  proves_18 : (Lent at 300 len room → ⊥) → ProofSays at len room granted 18
  proves_8 : Lent at 300 len room → granted ≡ false → ProofSays at len room granted 8

-- ---- the one statement: by these numbers and for these reasons, and what each leaves

pub record Refusals : Type 0 where
  -- decode; a refusal leaves the window, asks for nothing and leaves no ask open
  pub decodes : (d : List ℕ) (protocol : ℕ) (key : Option (List ℕ)) (guard : Option ReplayProtection) (n : ℕ)
      → Iff ((decode d protocol key guard).answer ≡ decoding.Refused n) (DecodeSays d (is_some key) guard n)
  pub decodes_nothing : (d : List ℕ) (protocol : ℕ) (key : Option (List ℕ)) (guard : Option ReplayProtection) (n : ℕ)
      → (decode d protocol key guard).answer ≡ decoding.Refused n → decode d protocol key guard ≡ ended (decoding.Refused n) guard
  -- the host's answer to an ask to open: none open, 17; by 18 the ask stays open; a no leaves the window; a yes has moved it before 9
  pub opens_none : (d : List ℕ) (guard : Option ReplayProtection) (granted : Bool) → answer_open None d guard granted ≡ ended (decoding.Refused 17) guard
  pub opens : (kind : PacketType) (sequence start len : ℕ) (d : List ℕ) (guard : Option ReplayProtection) (granted : Bool) (n : ℕ)
      → Iff ((answer_open (Some (opening_as kind sequence start len)) d guard granted).answer ≡ decoding.Refused n) (OpenSays kind start len (length d) granted n)
  pub opens_stays : (kind : PacketType) (sequence start len : ℕ) (d : List ℕ) (guard : Option ReplayProtection) (granted : Bool) → (Lent start 16 len (length d) → ⊥)
      → answer_open (Some (opening_as kind sequence start len)) d guard granted ≡ decoded_as (decoding.Refused 18) no_ask (Some (opening_as kind sequence start len)) guard
  pub opens_no : (kind : PacketType) (sequence start len : ℕ) (d : List ℕ) (guard : Option ReplayProtection) → (answer_open (Some (opening_as kind sequence start len)) d guard false).guard ≡ guard
  pub opens_yes : (kind : PacketType) (sequence start len : ℕ) (d : List ℕ) (guard : Option ReplayProtection) → Lent start 16 len (length d)
      → (answer_open (Some (opening_as kind sequence start len)) d guard true).guard ≡ guard_accepts kind guard sequence
  -- encode; a refusal leaves the buffer
  pub encodes : (out : List ℕ) (packet : Packet) (bytes : List ℕ) (protocol : ℕ) (key : Option (List ℕ)) (sequence n : ℕ)
      → Iff ((encode out packet bytes protocol key sequence).encoded.answer ≡ encoding.Refused n) (EncodeSays (length out) (kind_of packet) (length bytes) (is_some key) sequence n)
  pub encodes_nothing : (out : List ℕ) (packet : Packet) (bytes : List ℕ) (protocol : ℕ) (key : Option (List ℕ)) (sequence n : ℕ)
      → (encode out packet bytes protocol key sequence).encoded.answer ≡ encoding.Refused n → (encode out packet bytes protocol key sequence).out ≡ out
  -- the host's answer to an ask to seal
  pub seals_none : (room : ℕ) (granted : Bool) → answer_seal None room granted ≡ refused_by 17
  pub seals : (end len room : ℕ) (granted : Bool) (n : ℕ) → Iff ((answer_seal (open_at end len) room granted).answer ≡ encoding.Refused n) (SealSays end len room granted n)
  pub seals_stays : (end len room : ℕ) (granted : Bool) → (Lent end 0 len room → ⊥)
      → answer_seal (open_at end len) room granted ≡ encoded_as (encoding.Refused 18) no_ask (open_at end len)
  -- the challenge token
  pub generates : (out : List ℕ) (at : ℕ) (t : ChallengeToken) (sequence : ℕ) (key : List ℕ) (n : ℕ)
      → Iff ((generate_challenge out at t sequence key).encoded.answer ≡ encoding.Refused n) ((n ≡ 14) × (length out < at + 300))
  pub generates_nothing : (out : List ℕ) (at : ℕ) (t : ChallengeToken) (sequence : ℕ) (key : List ℕ) → length out < at + 300 → (generate_challenge out at t sequence key).out ≡ out
  pub demands : (room at sequence : ℕ) (key : List ℕ) (n : ℕ) → Iff ((decode_challenge room at sequence key).answer ≡ proving.Refused n) ((n ≡ 9) × (room < at + 300))
  pub proves_none : (src : List ℕ) (granted : Bool) → answer_challenge None src granted ≡ unproved 17 None
  pub proves : (at len : ℕ) (src : List ℕ) (granted : Bool) (n : ℕ) → Iff ((answer_challenge (Some (proof_as at len)) src granted).answer ≡ proving.Refused n) (ProofSays at len (length src) granted n)
  pub proves_stays : (at len : ℕ) (src : List ℕ) (granted : Bool) → (Lent at 300 len (length src) → ⊥) → answer_challenge (Some (proof_as at len)) src granted ≡ unproved 18 (Some (proof_as at len))
