-- The host's answer to an ask to open a packet or a challenge (document 01, "How the host answers"; "When the server says no": 17, 23, 18; a no
-- is 8 and leaves the window; 9).
use Rattle.std.specs.Prelude.{ℕ, Bool, List, length, eqb}
use Rattle.serialize.specs.Choice.{pick}
use Rattle.bodies.specs.declared.PacketType.{PacketType}
use Rattle.records.specs.Records.{emptied}
use Rattle.server.specs.declared.Stage.{Stage}
use Rattle.server.specs.declared.Stage.TheVariants.{Idle, Packet, Token, Challenge, Seal}
use Rattle.server.specs.declared.Answer.TheVariants.{Refused}
use Rattle.server.specs.Ready.{both_refusal}
use Rattle.turns.specs.Outcomes.{closed, State, Outcome, came, leaves, refuses, from_slot, from_pending, Written, written, open_refusal}
use Rattle.turns.specs.Packets.{Prepared}
use Rattle.opens.specs.Heard.{slot_heard, pending_heard}
use Rattle.opens.specs.Responses.{responded}

-- a packet that was opened, from a slot or a pending place: that table alone changes
unfoldable pub packet_opened : State → Bool → ℕ → PacketType → ℕ → ℕ → ℕ → List ℕ → Outcome
packet_opened t connected place kind sequence start out d =
    pick connected (from_slot t (slot_heard t.server t.slots place kind sequence start d))
    (from_pending t (pending_heard t.server t.pending place kind sequence start out d))

-- a challenge that was opened: the pending place is emptied
abbrev pub from_response : State → ℕ → Prepared → Written
from_response t j p = written (came p.turn t.slots (emptied t.pending j)) p.held p.out

-- the ask's stage, after a yes. Only the two that ask to open get here: `open_refusal` has refused the others as 17 or 18.
unfoldable pub opened : State → List ℕ → List ℕ → List ℕ → Stage → Written
opened t held out d Idle = written (refuses t 17) held out
opened t held out d (Packet connected place kind sequence start) = written (packet_opened t connected place kind sequence start (length out) d) held out
opened t held out d (Token addr expiry low high) = written (refuses t 18) held out
opened t held out d (Challenge place start) = from_response t place (responded t.server t.slots t.pending held out place start d)
opened t held out d (Seal goal sequence end) = written (refuses t 18) held out

abbrev pub open_answer_refusal : State → ℕ → ℕ → ℕ
open_answer_refusal t datagram out = open_refusal t.server (both_refusal t.server.set (length t.slots) (length t.pending)) 1 datagram out

-- the answer, with the held bytes, the output and the datagram as they are lent now
unfoldable pub opens : State → Bool → List ℕ → List ℕ → List ℕ → Written
opens t granted held out d =
    pick (eqb (open_answer_refusal t (length d) (length out)) 0)
    (pick granted (opened t held out d t.server.ask.stage) (written (leaves t (closed t.server (Refused 8))) held out))
    (written (refuses t (open_answer_refusal t (length d) (length out))) held out)
