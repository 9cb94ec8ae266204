-- A response whose challenge the host opened (document 01, "How a connection lives", Pending address, Response: remove the pending entry; if
-- the challenge's id is connected, nothing; if no slot is free, denied; else the lowest free slot takes the record, with the pending id and
-- the challenge's user data, and a keep-alive goes back). What the slot takes stays in the words of the emptied place until the keep-alive is
-- sealed; the challenge's user data is held.
use Rattle.std.specs.Prelude.{ℕ, ◌-◌, ◌^◌, List, length, eqb, Option, Some, None}
use Rattle.serialize.specs.Choice.{pick}
use Rattle.bodies.specs.declared.challenge.ChallengeToken.{ChallengeToken}
use Rattle.bodies.specs.Bodies.{kind_of}
use Rattle.bodies.specs.Tokens.{token_at}
use Rattle.encode.specs.Encodes.{need}
use Rattle.places.specs.Layout.{word_of, sequence_at, send_key_at, address_of}
use Rattle.places.specs.Finds.{find_id, find_free}
use Rattle.records.specs.Records.{bytes_at, emptied}
use Rattle.server.specs.declared.NetcodeServer.{NetcodeServer}
use Rattle.server.specs.declared.Goal.TheVariants.{Connecting}
use Rattle.server.specs.declared.Stage.TheVariants.{Seal}
use Rattle.server.specs.declared.Answer.TheVariants as answer
use Rattle.server.specs.Held.{held_challenge}
use Rattle.turns.specs.Outcomes.{closed, asking}
use Rattle.turns.specs.Packets.{keep_alive, seal_ask, seal_out, Prepared, prepared, holding, denied}

-- slot i is to take the record of pending place j: a keep-alive under the record's send key and its own counter, 15 where that is 2^64-1
unfoldable pub connecting : NetcodeServer → ℕ → List ℕ → List ℕ → ℕ → ℕ → List ℕ → ℕ → ChallengeToken → Prepared
connecting s datagram held out j i key sequence token =
    pick (eqb sequence (2 ^ 64 - 1)) (prepared (closed s (answer.Refused 15)) held out)
    (prepared
    (asking s (Seal (Connecting j i) sequence (need (kind_of (keep_alive s.max_clients i)) 0 sequence)) datagram (length out)
    (seal_ask (keep_alive s.max_clients i) s.set.protocol_id key sequence))
    (held_challenge held token.client_id token.user_data)
    (seal_out out (keep_alive s.max_clients i) sequence))

-- the send key, the counter and the address of the record at pending place j
abbrev pub send_key_of : NetcodeServer → List ℕ → ℕ → List ℕ
send_key_of s pending j = bytes_at pending (send_key_at s.set.pending j) 4

abbrev pub counter_of : NetcodeServer → List ℕ → ℕ → ℕ
counter_of s pending j = word_of pending (sequence_at s.set.pending j)

-- by the lowest free slot; where there is none, denied under the pending send key
unfoldable pub by_free : NetcodeServer → ℕ → List ℕ → List ℕ → List ℕ → ℕ → ChallengeToken → Option ℕ → Prepared
by_free s datagram pending held out j token (Some i) = connecting s datagram held out j i (send_key_of s pending j) (counter_of s pending j) token
by_free s datagram pending held out j token None =
    holding held (denied s datagram out (send_key_of s pending j) (address_of pending s.set.pending j))

-- by a slot with the challenge's id: nothing then. `pending` has the place emptied already.
unfoldable pub by_id : NetcodeServer → ℕ → List ℕ → List ℕ → List ℕ → List ℕ → ℕ → ChallengeToken → Option ℕ → Prepared
by_id s datagram slots pending held out j token (Some k) = prepared (closed s answer.Nothing) held out
by_id s datagram slots pending held out j token None =
    by_free s datagram pending held out j token (find_free slots s.set.slots)

unfoldable pub responded : NetcodeServer → List ℕ → List ℕ → List ℕ → List ℕ → ℕ → ℕ → List ℕ → Prepared
responded s slots pending held out j at d =
    by_id s (length d) slots (emptied pending j) held out j (token_at d at) (find_id slots s.set.slots (token_at d at).client_id)
