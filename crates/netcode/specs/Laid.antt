-- The server's record in 34 words, for a host in another language. Words 0 to 5 and 14 to 21 are what set-up fixed; words 6 to 13 and 22 to 33
-- are what calls change. Any words are a record.
use Rattle.std.specs.Prelude.{ℕ, Bool, false, not, List, [], ◌∷◌, get_or, eqb}
use Rattle.serialize.specs.Choice.{pick}
use Rattle.serialize.specs.Runs.{part, splice, zeros}
use Rattle.serialize.specs.Le.{words}
use Rattle.times.specs.Times.{time}
use Rattle.addresses.specs.declared.Address.{Address}
use Rattle.addresses.specs.Addresses.{of_words, first_word}
use Rattle.bodies.specs.declared.PacketType.{PacketType}
use Rattle.bodies.specs.declared.PacketType.TheVariants as kind
use Rattle.bodies.specs.Kinds.{number_of}
use Rattle.records.specs.Records.{bytes_at, bit}
use Rattle.server.specs.declared.NetcodeServer.{NetcodeServer}
use Rattle.server.specs.declared.SetUp.{SetUp}
use Rattle.server.specs.declared.Stage.{Stage}
use Rattle.server.specs.declared.Stage.TheVariants.{Idle, Packet, Token, Challenge, Seal}
use Rattle.server.specs.declared.Goal.{Goal}
use Rattle.server.specs.declared.Goal.TheVariants.{Denied, ChallengeToken, ChallengePacket, Connecting, Sending, Ending}
use Rattle.server.specs.State.{server_of, counted, opened}

-- ---- the open ask's step, from words 11 and 22 to 33

-- a packet's type; any other word is the last one's
unfoldable pub kind_in : ℕ → PacketType
kind_in n =
    pick (eqb n 0) kind.ConnectionRequest
    (pick (eqb n 1) kind.ConnectionDenied
    (pick (eqb n 2) kind.Challenge
    (pick (eqb n 3) kind.Response
    (pick (eqb n 4) kind.KeepAlive
    (pick (eqb n 5) kind.Payload kind.Disconnect)))))

abbrev pub addr_in : List ℕ → Address
addr_in w = of_words (get_or w 28 0) (get_or w 29 0) (get_or w 30 0)

unfoldable pub goal_in : List ℕ → Goal
goal_in w =
    pick (eqb (get_or w 11 0) 4) (Denied (addr_in w))
    (pick (eqb (get_or w 11 0) 5) (ChallengeToken (addr_in w))
    (pick (eqb (get_or w 11 0) 6) (ChallengePacket (addr_in w))
    (pick (eqb (get_or w 11 0) 7) (Connecting (get_or w 22 0) (get_or w 23 0))
    (pick (eqb (get_or w 11 0) 8) (Sending (get_or w 23 0))
    (Ending (get_or w 31 0) (addr_in w))))))

unfoldable pub stage_in : List ℕ → Stage
stage_in w =
    pick (eqb (get_or w 11 0) 0) Idle
    (pick (eqb (get_or w 11 0) 1) (Packet (not (eqb (get_or w 27 0) 0)) (get_or w 22 0) (kind_in (get_or w 24 0)) (get_or w 25 0) (get_or w 26 0))
    (pick (eqb (get_or w 11 0) 2) (Token (addr_in w) (get_or w 31 0) (get_or w 32 0) (get_or w 33 0))
    (pick (eqb (get_or w 11 0) 3) (Challenge (get_or w 22 0) (get_or w 26 0))
    (Seal (goal_in w) (get_or w 25 0) (get_or w 26 0)))))

-- ---- the same in 13 words: its number, then words 22 to 33; what a step does not have is 0

-- a seal that is for an address, and one that is for a slot
abbrev pub addressed : ℕ → ℕ → ℕ → Address → ℕ → List ℕ
addressed number sequence end a id = number ∷ 0 ∷ 0 ∷ 0 ∷ sequence ∷ end ∷ 0 ∷ first_word a ∷ a.low ∷ a.high ∷ id ∷ 0 ∷ 0 ∷ []

abbrev pub placed : ℕ → ℕ → ℕ → ℕ → ℕ → List ℕ
placed number place slot sequence end = number ∷ place ∷ slot ∷ 0 ∷ sequence ∷ end ∷ 0 ∷ 0 ∷ 0 ∷ 0 ∷ 0 ∷ 0 ∷ 0 ∷ []

unfoldable pub goal_words : Goal → ℕ → ℕ → List ℕ
goal_words (Denied addr) sequence end = addressed 4 sequence end addr 0
goal_words (ChallengeToken addr) sequence end = addressed 5 sequence end addr 0
goal_words (ChallengePacket addr) sequence end = addressed 6 sequence end addr 0
goal_words (Connecting place slot) sequence end = placed 7 place slot sequence end
goal_words (Sending slot) sequence end = placed 8 0 slot sequence end
goal_words (Ending id addr) sequence end = addressed 9 sequence end addr id

-- a packet or a private token that is to be opened
abbrev pub packet_words : Bool → ℕ → PacketType → ℕ → ℕ → List ℕ
packet_words connected place kind sequence start =
    1 ∷ place ∷ 0 ∷ number_of kind ∷ sequence ∷ start ∷ bit connected ∷ 0 ∷ 0 ∷ 0 ∷ 0 ∷ 0 ∷ 0 ∷ []

abbrev pub token_words : Address → ℕ → ℕ → ℕ → List ℕ
token_words a expiry low high = 2 ∷ 0 ∷ 0 ∷ 0 ∷ 0 ∷ 0 ∷ 0 ∷ first_word a ∷ a.low ∷ a.high ∷ expiry ∷ low ∷ high ∷ []

unfoldable pub stage_words : Stage → List ℕ
stage_words Idle = placed 0 0 0 0 0
stage_words (Packet connected place kind sequence start) = packet_words connected place kind sequence start
stage_words (Token a expiry low high) = token_words a expiry low high
stage_words (Challenge place start) = placed 3 place 0 0 start
stage_words (Seal goal sequence end) = goal_words goal sequence end

-- ---- the record

unfoldable pub set_up_in : List ℕ → SetUp
set_up_in w = record {
  protocol_id = get_or w 5 0;
  connect_key = bytes_at w 14 4;
  challenge_key = bytes_at w 18 4;
  secure = not (eqb (get_or w 4 0) 0);
  slots = get_or w 0 0;
  pending = get_or w 1 0;
  entries = get_or w 2 0;
  addresses = get_or w 3 0;
}

-- so many slots and pending places, and nothing else that set-up fixed
abbrev pub places_only : ℕ → ℕ → SetUp
places_only slots pending = record {
  protocol_id = 0;
  connect_key = zeros 32;
  challenge_key = zeros 32;
  secure = false;
  slots = slots;
  pending = pending;
  entries = 0;
  addresses = 0;
}

unfoldable pub record_in : List ℕ → NetcodeServer
record_in w =
    server_of (set_up_in w) (get_or w 6 0) (time (get_or w 7 0) (get_or w 8 0)) (counted (get_or w 9 0) (get_or w 10 0))
    (opened (stage_in w) (get_or w 12 0) (get_or w 13 0))

-- words 6 to 13: client limit, clock, counters, the open ask's number and the lengths of its buffers
abbrev pub moving : NetcodeServer → List ℕ
moving s =
    s.max_clients ∷ s.current_time.secs ∷ s.current_time.nanos ∷ s.counters.global_sequence ∷ s.counters.challenge_sequence
    ∷ get_or (stage_words s.ask.stage) 0 0 ∷ s.ask.datagram ∷ s.ask.out ∷ []

-- what calls change, over words w
unfoldable pub record_words : List ℕ → NetcodeServer → List ℕ
record_words w s = splice (splice w 6 (moving s)) 22 (part (stage_words s.ask.stage) 1 12)

-- words 0 to 5: places in slots, pending and entries, public addresses; secure; protocol
abbrev pub standing : SetUp → List ℕ
standing set = set.slots ∷ set.pending ∷ set.entries ∷ set.addresses ∷ bit set.secure ∷ set.protocol_id ∷ []

-- the whole record over words w: words 14 to 17 and 18 to 21 are the connect and the challenge key
unfoldable pub whole_words : List ℕ → NetcodeServer → List ℕ
whole_words w s =
    record_words (splice (splice (splice w 0 (standing s.set)) 14 (words 4 s.set.connect_key)) 18 (words 4 s.set.challenge_key)) s
