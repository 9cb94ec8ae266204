-- The host's answer to an ask to seal (document 01, "How the host answers"; "When the server says no": 17, 23, 18, 24: earlier steps stay; "How
-- a connection lives": every denied raises the global sequence; the challenge is sent, then the global sequence rises).
use Rattle.std.specs.Prelude.{ℕ, ◌+◌, Bool, List, length, eqb, Some, None}
use Rattle.serialize.specs.Choice.{pick}
use Rattle.prefix.specs.Head.{fewest, prefix_byte}
use Rattle.asks.specs.declared.Work.TheVariants as work
use Rattle.asks.specs.Asks.{packet_ask}
use Rattle.addresses.specs.declared.Address.{Address}
use Rattle.places.specs.Layout.{id_of, address_of}
use Rattle.records.specs.Records.{emptied}
use Rattle.server.specs.declared.NetcodeServer.{NetcodeServer}
use Rattle.server.specs.declared.Goal.{Goal}
use Rattle.server.specs.declared.Goal.TheVariants.{Denied, ChallengeToken, ChallengePacket, Connecting, Sending, Ending}
use Rattle.server.specs.declared.Stage.{Stage}
use Rattle.server.specs.declared.Stage.TheVariants.{Idle, Packet, Token, Challenge, Seal}
use Rattle.server.specs.declared.Answer.TheVariants.{Refused, PacketToSend, ClientConnected, ClientDisconnected}
use Rattle.server.specs.Asking.{asked}
use Rattle.server.specs.Held.{held_send_key}
use Rattle.server.specs.Ready.{both_refusal, answer_refusal}
use Rattle.turns.specs.declared.Turn.{Turn}
use Rattle.turns.specs.Outcomes.{closed, asking, spent, State, Outcome, came, leaves, refuses, Half, half, from_slot}
use Rattle.seals.specs.Waits.{waits, sent_under, connected}

-- ---- no: 24. A slot that was being ended is empty and no packet comes.

unfoldable pub unsealed : NetcodeServer → Goal → Turn
unsealed s (Denied addr) = closed s (Refused 24)
unsealed s (ChallengeToken addr) = closed s (Refused 24)
unsealed s (ChallengePacket addr) = closed s (Refused 24)
unsealed s (Connecting j i) = closed s (Refused 24)
unsealed s (Sending i) = closed s (Refused 24)
unsealed s (Ending id addr) = closed s (ClientDisconnected id addr 0 (Some 24))

-- ---- yes

-- the token is sealed: the packet around it is to be sealed, under the token's key; `out` is the output's length
unfoldable pub packet_asked : NetcodeServer → List ℕ → ℕ → Address → ℕ → ℕ → Turn
packet_asked s held out addr sequence end =
    asking s (Seal (ChallengePacket addr) sequence end) s.ask.datagram out
    (asked (packet_ask work.Seal (held_send_key held) sequence (prefix_byte 2 (fewest sequence)) s.set.protocol_id (1 + fewest sequence) end))

-- a slot takes the record of a pending place, with the pending id
unfoldable pub connects : State → List ℕ → ℕ → ℕ → ℕ → ℕ → Outcome
connects t held j i sequence end =
    came
    (closed t.server
    (ClientConnected (id_of t.pending t.server.set.pending j) i (address_of t.pending t.server.set.pending j) end))
    (connected t.slots t.server.set.slots i t.pending t.server.set.pending j held sequence t.server.current_time)
    (emptied t.pending j)

-- a payload or a keep-alive of a slot went out: the slots alone change
unfoldable pub sends : NetcodeServer → List ℕ → ℕ → ℕ → ℕ → Half
sends s slots i sequence end =
    half (closed s (PacketToSend (address_of slots s.set.slots i) end)) (sent_under slots s.set.slots i sequence s.current_time)

unfoldable pub sealed : State → List ℕ → ℕ → ℕ → ℕ → Goal → Outcome
sealed t held out sequence end (Denied addr) = leaves t (closed (spent t.server sequence) (PacketToSend addr end))
sealed t held out sequence end (ChallengeToken addr) = leaves t (packet_asked t.server held out addr sequence end)
sealed t held out sequence end (ChallengePacket addr) =
    came (closed (spent t.server sequence) (PacketToSend addr end)) t.slots
    (waits t.pending t.server.set.pending held addr t.server.current_time)
sealed t held out sequence end (Connecting j i) = connects t held j i sequence end
sealed t held out sequence end (Sending i) = from_slot t (sends t.server t.slots i sequence end)
sealed t held out sequence end (Ending id addr) = leaves t (closed t.server (ClientDisconnected id addr end None))

-- ---- the whole

-- the ask's stage. Only a seal's gets here: `seal_refusal` has refused the others as 17 or 18.
unfoldable pub by_stage : State → Bool → List ℕ → ℕ → Stage → Outcome
by_stage t granted held out Idle = refuses t 17
by_stage t granted held out (Packet connected place kind sequence start) = refuses t 18
by_stage t granted held out (Token addr expiry low high) = refuses t 18
by_stage t granted held out (Challenge place start) = refuses t 18
by_stage t granted held out (Seal goal sequence end) = pick granted (sealed t held out sequence end goal) (leaves t (unsealed t.server goal))

-- 17, 23, 18. No datagram is lent, so none has another length.
abbrev pub seal_refusal : State → ℕ → ℕ
seal_refusal t out =
    answer_refusal t.server.ask (both_refusal t.server.set (length t.slots) (length t.pending)) 3 t.server.set t.server.ask.datagram out

-- yes or no, the held bytes, and an output of so many bytes; it is not written
unfoldable pub seals : State → Bool → List ℕ → ℕ → Outcome
seals t granted held out =
    pick (eqb (seal_refusal t out) 0) (by_stage t granted held out t.server.ask.stage) (refuses t (seal_refusal t out))
