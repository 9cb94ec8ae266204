-- A datagram (document 01, "When the server says no", the order for a datagram: 16, 23, 14 (reply buffer under 1,400), 19, 1, 2; type 0 then
-- goes to the length test (9); others 3, 4, 5, 6, 7, open; "How a connection lives").
use Rattle.std.specs.Prelude.{ℕ, ◌+◌, Bool, true, false, List, length, get_or, eqb, ltb, Result, Ok, Err}
use Rattle.serialize.specs.Choice.{pick}
use Rattle.replay_protection.specs.Replay.{refusal}
use Rattle.replay_protection.specs.Stored.{window_at}
use Rattle.replay_protection.specs.Ours.{width}
use Rattle.bodies.specs.declared.PacketType.{PacketType}
use Rattle.bodies.specs.Kinds.{windowed, is_request}
use Rattle.asks.specs.declared.Work.TheVariants.{Open}
use Rattle.asks.specs.Asks.{packet_ask}
use Rattle.addresses.specs.declared.Address.{Address}
use Rattle.addresses.specs.Addresses as addresses
use Rattle.places.specs.Layout.{receive_key_at, received_at, window_place}
use Rattle.records.specs.Records.{bytes_at, put_time}
use Rattle.decode.specs.declared.Start.{Start}
use Rattle.decode.specs.Decodes.{type_at, start_at}
use Rattle.server.specs.declared.NetcodeServer.{NetcodeServer}
use Rattle.server.specs.declared.Answer.TheVariants.{Nothing}
use Rattle.server.specs.declared.Stage.TheVariants.{Packet}
use Rattle.server.specs.Asking.{asked}
use Rattle.server.specs.Ready.{before, call_refusal, both_refusal}
use Rattle.turns.specs.declared.Turn.{Turn}
use Rattle.turns.specs.Outcomes.{answered, refused, asking, State, Outcome, came, leaves, refuses}
use Rattle.arrivals.specs.declared.Sender.{Sender}
use Rattle.arrivals.specs.declared.Sender.TheVariants.{Connected, Pending, Unknown}
use Rattle.arrivals.specs.Senders.{sender_of}
use Rattle.arrivals.specs.Requests.{request_read}

-- ---- 16, 23, 14, 19: before the datagram is looked at

-- 14, then 19
unfoldable pub lent_refusal : Address → ℕ → ℕ
lent_refusal addr out = pick (ltb out 1400) 14 (addresses.refusal addr)

unfoldable pub arrival_refusal : State → Address → ℕ → ℕ
arrival_refusal t addr out =
    before (call_refusal t.server.ask (both_refusal t.server.set (length t.slots) (length t.pending))) (lent_refusal addr out)

-- ---- a sealed packet from the record at place i of n

-- 5 or 6 by the record's window, for a windowed type alone
unfoldable pub window_refusal : List ℕ → ℕ → ℕ → PacketType → ℕ → ℕ
window_refusal table n i kind sequence = pick (windowed kind) (refusal width (window_at width table (window_place n i)) sequence) 0

-- an ask to open what follows the sequence, under the record's receive key
unfoldable pub open_asked : NetcodeServer → List ℕ → ℕ → Bool → ℕ → PacketType → ℕ → ℕ → ℕ → List ℕ → Turn
open_asked s table n connected i kind sequence start out d =
    asking s (Packet connected i kind sequence start) (length d) out
    (asked (packet_ask Open (bytes_at table (receive_key_at n i) 4) sequence (get_or d 0 0) s.set.protocol_id start (length d)))

-- 5, 6, 7; else the ask. Nothing has moved.
unfoldable pub sealed_at : NetcodeServer → List ℕ → ℕ → Bool → ℕ → PacketType → ℕ → ℕ → ℕ → List ℕ → Turn
sealed_at s table n connected i kind sequence start out d =
    pick (eqb (window_refusal table n i kind sequence) 0)
    (pick (ltb (length d) (start + 16)) (refused s 7) (open_asked s table n connected i kind sequence start out d))
    (refused s (window_refusal table n i kind sequence))

-- 4 by its head
unfoldable pub by_start : NetcodeServer → List ℕ → ℕ → Bool → ℕ → PacketType → ℕ → List ℕ → Result Start ℕ → Turn
by_start s table n connected i kind out d (Ok at) = sealed_at s table n connected i kind at.sequence at.start out d
by_start s table n connected i kind out d (Err number) = refused s number

-- 3 where the sender is neither connected nor pending
unfoldable pub sealed_from : State → ℕ → PacketType → List ℕ → Sender → Turn
sealed_from t out kind d (Connected i) = by_start t.server t.slots t.server.set.slots true i kind out d (start_at d)
sealed_from t out kind d (Pending j) = by_start t.server t.pending t.server.set.pending false j kind out d (start_at d)
sealed_from t out kind d Unknown = refused t.server 3

-- ---- a request in clear: from a connected address it sets the received time and nothing else is done; from a pending one it sets that
-- place's, and then is read

unfoldable pub request_from : State → Address → ℕ → List ℕ → Sender → Outcome
request_from t addr out d (Connected i) =
    came (answered t.server Nothing) (put_time t.slots (received_at t.server.set.slots i) t.server.current_time) t.pending
request_from t addr out d (Pending j) =
    came (request_read t.server addr out d) t.slots (put_time t.pending (received_at t.server.set.pending j) t.server.current_time)
request_from t addr out d Unknown = leaves t (request_read t.server addr out d)

-- ---- the whole

abbrev pub sender_in : State → Address → Sender
sender_in t addr = sender_of t.slots t.server.set.slots t.pending t.server.set.pending addr

-- a request goes to the length test (9)
unfoldable pub kind_arrives : State → Address → ℕ → List ℕ → PacketType → Outcome
kind_arrives t addr out d kind =
    pick (is_request kind)
    (pick (ltb (length d) 1078) (refuses t 9) (request_from t addr out d (sender_in t addr)))
    (leaves t (sealed_from t out kind d (sender_in t addr)))

-- 1, 2 by its type
unfoldable pub by_kind : State → Address → ℕ → List ℕ → Result PacketType ℕ → Outcome
by_kind t addr out d (Ok kind) = kind_arrives t addr out d kind
by_kind t addr out d (Err number) = refuses t number

-- a datagram d from an address, with an output of so many bytes
unfoldable pub arrives : State → Address → ℕ → List ℕ → Outcome
arrives t addr out d =
    pick (eqb (arrival_refusal t addr out) 0) (by_kind t addr out d (type_at d)) (refuses t (arrival_refusal t addr out))
