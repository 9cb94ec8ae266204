-- The figures that document 01, "Figures on both sides", marks with a star, in its order, over the definitions.
use Rattle.std.specs.Prelude.{◌≡◌, ℕ, ◌-◌, ◌^◌, true, List, [], ◌∷◌, Option, Some}
use Rattle.serialize.specs.Runs.{zeros}
use Rattle.prefix.specs.Head.{fewest, prefix_byte, head_bytes}
use Rattle.prefix.specs.Sealed.{additional_data}
use Rattle.replay_protection.specs.declared.ReplayProtection.{ReplayProtection}
use Rattle.replay_protection.specs.Replay.{fresh, refusal}
use Rattle.replay_protection.specs.Arrivals.{run}
use Rattle.replay_protection.specs.Ours.{width, protection}
use Rattle.bodies.specs.declared.PacketType.TheVariants as kind
use Rattle.bodies.specs.declared.Packet.TheVariants.{KeepAlive, Disconnect}
use Rattle.bodies.specs.Bodies.{body}
use Rattle.encode.specs.declared.Encoding.TheVariants as encoding
use Rattle.encode.specs.Encodes.{Done, encode}
use Rattle.decode.specs.declared.Decoding.TheVariants.{Refused, Read}
use Rattle.decode.specs.Decodes.{opening_as, opened, decode, answer_open}

-- what refuses s after the arrivals, the newest first; 0 where it is accepted
abbrev pub after : List ℕ → ℕ → ℕ
after arrivals s = refusal width (run width arrivals) s

-- a key, and a fresh window
abbrev pub some_key : Option (List ℕ)
some_key = Some (zeros 32)

abbrev pub fresh_guard : Option ReplayProtection
fresh_guard = Some (protection (fresh width))

-- a disconnect for protocol 7 under a sequence, into 18 bytes
abbrev pub disconnect : ℕ → Done
disconnect sequence = encode (zeros 18) Disconnect [] 7 some_key sequence

pub record Figures : Type 0 where
  -- type 4, sequence 0: prefix 04
  pub keep_alive_0 : head_bytes 4 0 ≡ 0x04 ∷ []
  -- type 5: 255 gives 15 FF
  pub payload_255 : head_bytes 5 255 ≡ 0x15 ∷ 0xFF ∷ []
  -- 256 gives 25 00 01
  pub payload_256 : head_bytes 5 256 ≡ 0x25 ∷ 0x00 ∷ 0x01 ∷ []
  -- 2^64-1 gives prefix 85
  pub payload_last : prefix_byte 5 (fewest (2 ^ 64 - 1)) ≡ 0x85
  -- keep-alive 3 of 8: 03 00 00 00 08 00 00 00
  pub keep_alive_body : body (KeepAlive 3 8) [] ≡ 0x03 ∷ 0x00 ∷ 0x00 ∷ 0x00 ∷ 0x08 ∷ 0x00 ∷ 0x00 ∷ 0x00 ∷ []
  -- protocol 7, prefix 04, additional data whole
  pub additional_data : additional_data 0x04 7
      ≡ 0x4E ∷ 0x45 ∷ 0x54 ∷ 0x43 ∷ 0x4F ∷ 0x44 ∷ 0x45 ∷ 0x20 ∷ 0x31 ∷ 0x2E ∷ 0x30 ∷ 0x32 ∷ 0x00
      ∷ 0x07 ∷ 0x00 ∷ 0x00 ∷ 0x00 ∷ 0x00 ∷ 0x00 ∷ 0x00 ∷ 0x00 ∷ 0x04 ∷ []
  -- disconnect at sequence 0 is 17 bytes: written
  pub disconnect_0 : ((disconnect 0).encoded.answer ≡ encoding.Asked) × ((disconnect 0).encoded.ask.end ≡ 17)
  pub disconnect_0_bytes : (disconnect 0).out ≡ 0x06 ∷ zeros 17
  -- but refused as 1
  pub disconnect_0_refused : (decode (0x06 ∷ zeros 16) 7 some_key fresh_guard).answer ≡ Refused 1
  -- at 1 it is 18
  pub disconnect_1 : ((disconnect 1).encoded.answer ≡ encoding.Asked) × ((disconnect 1).encoded.ask.end ≡ 18)
  -- and read: asked for, and after a yes a disconnect under sequence 1
  pub disconnect_1_asked : (decode (0x16 ∷ 0x01 ∷ zeros 16) 7 some_key fresh_guard).opening ≡ Some (opening_as kind.Disconnect 1 2 18)
  pub disconnect_1_read : (answer_open (Some (opening_as kind.Disconnect 1 2 18)) (0x16 ∷ 0x01 ∷ zeros 16) fresh_guard true).answer ≡ Read (opened 1 Disconnect 2 2)
  -- after 300: 44 refused
  pub after_300_refused : after (300 ∷ []) 44 ≡ 6
  -- 45 accepted
  pub after_300_accepted : after (300 ∷ []) 45 ≡ 0
  -- after 0, 256 accepted
  pub after_0_accepted : after (0 ∷ []) 256 ≡ 0
  -- then 0 refused
  pub after_256_refused : after (256 ∷ 0 ∷ []) 0 ≡ 6
  -- 2^64-257 passes
  pub last_passes : after [] (2 ^ 64 - 257) ≡ 0
  -- 2^64-256 gives 5
  pub past_last : after [] (2 ^ 64 - 256) ≡ 5
