-- A packet that the host opened (document 01, "The window": acceptance comes after a yes and before the body is read; "How a connection
-- lives", Connected address and Pending address; "When the server says no", 9: the window has advanced if windowed).
use Rattle.std.specs.Prelude.{ℕ, ◌+◌, ◌-◌, List, length, set, Result, Ok, Err, None}
use Rattle.serialize.specs.Choice.{pick}
use Rattle.serialize.specs.Runs.{part}
use Rattle.replay_protection.specs.Replay.{arrive}
use Rattle.replay_protection.specs.Stored.{window_at, put_window}
use Rattle.replay_protection.specs.Ours.{width}
use Rattle.bodies.specs.declared.PacketType.{PacketType}
use Rattle.bodies.specs.declared.Packet.{Packet}
use Rattle.bodies.specs.declared.Packet.TheVariants as packet
use Rattle.bodies.specs.Kinds.{windowed}
use Rattle.bodies.specs.Bodies.{read_body}
use Rattle.asks.specs.declared.Work.TheVariants.{Open}
use Rattle.asks.specs.Asks.{token_ask}
use Rattle.places.specs.Layout.{confirmed_at, received_at, window_place, id_of, address_of}
use Rattle.records.specs.Records.{put_time, emptied}
use Rattle.server.specs.declared.NetcodeServer.{NetcodeServer}
use Rattle.server.specs.declared.Answer.TheVariants.{Refused, Nothing, Payload, ClientDisconnected}
use Rattle.server.specs.declared.Stage.TheVariants.{Challenge}
use Rattle.server.specs.Asking.{asked}
use Rattle.turns.specs.declared.Turn.{Turn}
use Rattle.turns.specs.Outcomes.{closed, asking, Half, half}

-- the window of place i with the sequence accepted, if the type is windowed
unfoldable pub accepted : List ℕ → ℕ → ℕ → PacketType → ℕ → List ℕ
accepted t n i kind sequence = pick (windowed kind) (put_window t (window_place n i) (arrive width (window_at width t (window_place n i)) sequence)) t

-- a good packet sets the received time
abbrev pub touched : NetcodeServer → List ℕ → ℕ → ℕ → List ℕ
touched s t n i = put_time t (received_at n i) s.current_time

abbrev pub confirmed : List ℕ → ℕ → ℕ → List ℕ
confirmed t n i = set t (confirmed_at n i) 1

-- ---- connected address: payload hands out its bytes with the slot's id and confirms; keep-alive confirms; disconnect empties the slot and
-- reports it; others: nothing. The body is the datagram's from start to end, the slots are t, its received time set already.

unfoldable pub slot_says : NetcodeServer → List ℕ → ℕ → ℕ → ℕ → ℕ → Packet → Half
slot_says s t n i start end (packet.ConnectionRequest protocol expiry) = half (closed s Nothing) t
slot_says s t n i start end packet.ConnectionDenied = half (closed s Nothing) t
slot_says s t n i start end (packet.Challenge sequence) = half (closed s Nothing) t
slot_says s t n i start end (packet.Response sequence) = half (closed s Nothing) t
slot_says s t n i start end (packet.KeepAlive index maximum) = half (closed s Nothing) (confirmed t n i)
slot_says s t n i start end packet.Payload = half (closed s (Payload (id_of t n i) start end)) (confirmed t n i)
slot_says s t n i start end packet.Disconnect = half (closed s (ClientDisconnected (id_of t n i) (address_of t n i) 0 None)) (emptied t i)

-- what refuses the body, 9 for a short one: the window has advanced, the received time is not set
unfoldable pub slot_body : NetcodeServer → List ℕ → ℕ → ℕ → ℕ → ℕ → Result Packet ℕ → Half
slot_body s t n i start end (Ok p) = slot_says s (touched s t n i) n i start end p
slot_body s t n i start end (Err r) = half (closed s (Refused r)) t

-- ---- pending address: a response asks for its challenge, 300 bytes after the token sequence, which is its nonce; windowed packets are
-- accepted and not handed out; others: nothing

unfoldable pub challenge_asked : NetcodeServer → ℕ → ℕ → ℕ → ℕ → ℕ → Turn
challenge_asked s j sequence start datagram out =
    asking s (Challenge j (start + 8)) datagram out (asked (token_ask Open s.set.challenge_key sequence (start + 8) (start + 8 + 300)))

unfoldable pub pending_says : NetcodeServer → ℕ → ℕ → ℕ → ℕ → Packet → Turn
pending_says s j start datagram out (packet.ConnectionRequest protocol expiry) = closed s Nothing
pending_says s j start datagram out packet.ConnectionDenied = closed s Nothing
pending_says s j start datagram out (packet.Challenge sequence) = closed s Nothing
pending_says s j start datagram out (packet.Response sequence) = challenge_asked s j sequence start datagram out
pending_says s j start datagram out (packet.KeepAlive index maximum) = closed s Nothing
pending_says s j start datagram out packet.Payload = closed s Nothing
pending_says s j start datagram out packet.Disconnect = closed s Nothing

unfoldable pub pending_body : NetcodeServer → List ℕ → ℕ → ℕ → ℕ → ℕ → ℕ → Result Packet ℕ → Half
pending_body s t m j start datagram out (Ok p) = half (pending_says s j start datagram out p) (touched s t m j)
pending_body s t m j start datagram out (Err r) = half (closed s (Refused r)) t

-- ---- after the yes: the window moves, then the body is read from what stands between the sequence and the tag

abbrev pub body_in : PacketType → ℕ → List ℕ → Result Packet ℕ
body_in kind start d = read_body kind (part d start (length d - 16 - start))

unfoldable pub slot_heard : NetcodeServer → List ℕ → ℕ → PacketType → ℕ → ℕ → List ℕ → Half
slot_heard s slots i kind sequence start d =
    slot_body s (accepted slots s.set.slots i kind sequence) s.set.slots i start (length d - 16) (body_in kind start d)

unfoldable pub pending_heard : NetcodeServer → List ℕ → ℕ → PacketType → ℕ → ℕ → ℕ → List ℕ → Half
pending_heard s pending j kind sequence start out d =
    pending_body s (accepted pending s.set.pending j kind sequence) s.set.pending j start (length d) out (body_in kind start d)
