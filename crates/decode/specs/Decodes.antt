-- Decoding a datagram (document 01, "When the server says no", the order for a datagram: 1, 2; type 0 then goes to the length test
-- (9); others 3, 4, 5, 6, 7, open, 9; "The window"; "How the host answers").
use Rattle.std.specs.Prelude.{ℕ, ◌+◌, ◌-◌, ◌/◌, ◌%◌, ◌^◌, Bool, not, List, length, get_or, eqb, ltb, leb, Option, Some, None, Result, Ok, Err}
use Rattle.serialize.specs.Choice.{pick}
use Rattle.serialize.specs.Runs.{part}
use Rattle.serialize.specs.Le.{of_le}
use Rattle.replay_protection.specs.declared.ReplayProtection.{ReplayProtection}
use Rattle.replay_protection.specs.Replay.{refusal, arrive}
use Rattle.replay_protection.specs.Ours.{width, window_of, protection}
use Rattle.bodies.specs.declared.PacketType.{PacketType}
use Rattle.bodies.specs.declared.Packet.{Packet}
use Rattle.bodies.specs.Kinds.{type_of, windowed, is_request}
use Rattle.bodies.specs.Bodies.{read_body}
use Rattle.asks.specs.declared.Ask.{Ask}
use Rattle.asks.specs.declared.Work.TheVariants as work
use Rattle.decode.specs.declared.Opened.{Opened}
use Rattle.decode.specs.declared.Decoding.{Decoding}
use Rattle.decode.specs.declared.Decoding.TheVariants.{Refused, Asked, Read}
use Rattle.decode.specs.declared.Opening.{Opening}
use Rattle.decode.specs.declared.Decoded.{Decoded}
use Rattle.decode.specs.declared.Start.{Start}
use Rattle.asks.specs.Asks.{no_ask, packet_ask, unlike}

abbrev pub decoded_as : Decoding → Ask → Option Opening → Option ReplayProtection → Decoded
decoded_as answer ask opening guard = record { answer = answer; ask = ask; opening = opening; guard = guard }

-- an answer that ends the call: nothing is asked, no ask is open
abbrev pub ended : Decoding → Option ReplayProtection → Decoded
ended answer guard = decoded_as answer no_ask None guard

-- an ask to open that is open
abbrev pub opening_as : PacketType → ℕ → ℕ → ℕ → Opening
opening_as kind sequence start len = record { kind = kind; sequence = sequence; start = start; len = len }

-- ---- the head

-- 1: under 18 bytes; 2: a type over 6
unfoldable pub type_at : List ℕ → Result PacketType ℕ
type_at d = pick (ltb (length d) 18) (Err 1) (type_of (get_or d 0 0 % 16))

-- L, and the sequence of L bytes after the prefix byte; 4: L over 8
abbrev pub count_of : List ℕ → ℕ
count_of d = get_or d 0 0 / 16

abbrev pub sequence_of : List ℕ → ℕ
sequence_of d = of_le (part d 1 (count_of d))

abbrev pub start_as : ℕ → ℕ → Start
start_as sequence start = record { sequence = sequence; start = start }

unfoldable pub start_at : List ℕ → Result Start ℕ
start_at d = pick (ltb 8 (count_of d)) (Err 4) (Ok (start_as (sequence_of d) (1 + count_of d)))

-- ---- the window

-- 5 or 6, 0 for none; without a window 5 alone
unfoldable pub window_refusal : Option ReplayProtection → ℕ → ℕ
window_refusal (Some window) sequence = refusal width (window_of window) sequence
window_refusal None sequence = pick (leb (2 ^ 64) (sequence + width)) 5 0

-- windowed types alone
unfoldable pub guard_refusal : PacketType → Option ReplayProtection → ℕ → ℕ
guard_refusal kind guard sequence = pick (windowed kind) (window_refusal guard sequence) 0

-- the window with the sequence accepted, if there is one
abbrev pub accepting : Option ReplayProtection → ℕ → Option ReplayProtection
accepting (Some window) sequence = Some (protection (arrive width (window_of window) sequence))
accepting None sequence = None

-- the same, if the type is windowed
unfoldable pub guard_accepts : PacketType → Option ReplayProtection → ℕ → Option ReplayProtection
guard_accepts kind guard sequence = pick (windowed kind) (accepting guard sequence) guard

-- ---- the body, from start to end of the datagram: 9 if it is short

abbrev pub opened : ℕ → Packet → ℕ → ℕ → Opened
opened sequence packet start end = record { sequence = sequence; packet = packet; start = start; end = end }

abbrev pub by_body : ℕ → ℕ → ℕ → Result Packet ℕ → Decoding
by_body sequence start end (Ok packet) = Read (opened sequence packet start end)
by_body sequence start end (Err n) = Refused n

unfoldable pub read_opened : PacketType → ℕ → List ℕ → ℕ → ℕ → Decoding
read_opened kind sequence d start end = by_body sequence start end (read_body kind (part d start (end - start)))

-- ---- the whole

-- past the head: 5 or 6 by the window; 7 under 16 bytes after the sequence; else an ask to open what follows the sequence
unfoldable pub decode_at : List ℕ → PacketType → ℕ → List ℕ → ℕ → ℕ → Option ReplayProtection → Decoded
decode_at d kind protocol key sequence start guard =
    pick (not (eqb (guard_refusal kind guard sequence) 0)) (ended (Refused (guard_refusal kind guard sequence)) guard)
    (pick (ltb (length d) (start + 16)) (ended (Refused 7) guard)
    (decoded_as Asked
    (packet_ask work.Open key sequence (get_or d 0 0) protocol start (length d))
    (Some (opening_as kind sequence start (length d)))
    guard))

abbrev pub by_start : List ℕ → PacketType → ℕ → List ℕ → Option ReplayProtection → Result Start ℕ → Decoded
by_start d kind protocol key guard (Err n) = ended (Refused n) guard
by_start d kind protocol key guard (Ok head) = decode_at d kind protocol key head.sequence head.start guard

-- a sealed packet: 3 without a key, 4 by its head
unfoldable pub decode_sealed : List ℕ → PacketType → ℕ → Option (List ℕ) → Option ReplayProtection → Decoded
decode_sealed d kind protocol (Some key) guard = by_start d kind protocol key guard (start_at d)
decode_sealed d kind protocol None guard = ended (Refused 3) guard

-- a request is read in clear, after its prefix byte; it has no sequence, and its L is ignored
unfoldable pub decode_of : List ℕ → PacketType → ℕ → Option (List ℕ) → Option ReplayProtection → Decoded
decode_of d kind protocol key guard =
    pick (is_request kind) (ended (read_opened kind 0 d 1 (length d)) guard) (decode_sealed d kind protocol key guard)

abbrev pub by_kind : List ℕ → ℕ → Option (List ℕ) → Option ReplayProtection → Result PacketType ℕ → Decoded
by_kind d protocol key guard (Err n) = ended (Refused n) guard
by_kind d protocol key guard (Ok kind) = decode_of d kind protocol key guard

unfoldable pub decode : List ℕ → ℕ → Option (List ℕ) → Option ReplayProtection → Decoded
decode d protocol key guard = by_kind d protocol key guard (type_at d)

-- the host's answer to an ask to open: 17 where none is open; 18, and it stays open, for a datagram of another length or a place
-- that it does not have; no is 8 and leaves the window; yes advances the window, and then the body is read
unfoldable pub answer_opened : PacketType → ℕ → ℕ → ℕ → List ℕ → Option ReplayProtection → Bool → Decoded
answer_opened kind sequence start len d guard granted =
    pick (unlike start 16 len (length d)) (decoded_as (Refused 18) no_ask (Some (opening_as kind sequence start len)) guard)
    (pick granted
    (ended (read_opened kind sequence d start (len - 16)) (guard_accepts kind guard sequence))
    (ended (Refused 8) guard))

abbrev pub answer_open : Option Opening → List ℕ → Option ReplayProtection → Bool → Decoded
answer_open None d guard granted = ended (Refused 17) guard
answer_open (Some ask) d guard granted = answer_opened ask.kind ask.sequence ask.start ask.len d guard granted
