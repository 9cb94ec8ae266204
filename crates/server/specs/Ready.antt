-- The tests that calls share (document 01, "When the server says no": elsewhere 16 comes first, and 17 before 18; 23 follows 16 or 17). Each
-- gives its number, or 0; the code gives the `verdict` of it.
use Rattle.std.specs.Prelude.{ℕ, ◌+◌, ◌*◌, ◌-◌, ◌^◌, Bool, false, not, ◌||◌, eqb, ltb, leb, Option, None, Some, Result, Ok, Err}
use Rattle.serialize.specs.Choice.{pick}
use Rattle.places.specs.Layout.{place_words}
use Rattle.server.specs.declared.SetUp.{SetUp}
use Rattle.server.specs.declared.OpenAsk.{OpenAsk}
use Rattle.server.specs.declared.Stage.{Stage}
use Rattle.server.specs.declared.Stage.TheVariants.{Idle, Packet, Token, Challenge, Seal}
use Rattle.server.specs.declared.Wanted.{Wanted}
use Rattle.server.specs.declared.Wanted.TheVariants as want
use Rattle.server.specs.declared.Goal.{Goal}
use Rattle.server.specs.declared.Goal.TheVariants.{Denied, ChallengeToken, ChallengePacket, Connecting, Sending, Ending}

-- ---- 23: a length unlike set-up's (document 01, the table: "later, a length unlike set-up's"). A record of no places, or of more than
-- set-up takes, is none that set-up made, and no length is right for it.

-- a table of n places, no more than most
unfoldable pub length_refusal : ℕ → ℕ → ℕ → ℕ
length_refusal len n most = pick (eqb n 0) 23 (pick (ltb most n) 23 (pick (eqb len (n * place_words)) 0 23))

abbrev pub slots_refusal : SetUp → ℕ → ℕ
slots_refusal set slots = length_refusal slots set.slots 1024

abbrev pub pending_refusal : SetUp → ℕ → ℕ
pending_refusal set pending = length_refusal pending set.pending 4096

unfoldable pub entries_refusal : SetUp → ℕ → ℕ
entries_refusal set entries =
    pick (eqb set.entries 0) 23 (pick (ltb 2048 set.entries) 23 (pick (eqb entries (set.entries * 48)) 0 23))

-- the public addresses, three words each
unfoldable pub list_refusal : SetUp → ℕ → ℕ
list_refusal set addresses = pick (eqb addresses (set.addresses * 3)) 0 23

-- the first refusal of two
unfoldable pub before : ℕ → ℕ → ℕ
before a b = pick (eqb a 0) b a

-- the two tables of connections; then the entries and the public addresses too
abbrev pub both_refusal : SetUp → ℕ → ℕ → ℕ
both_refusal set slots pending = before (slots_refusal set slots) (pending_refusal set pending)

abbrev pub all_refusal : SetUp → ℕ → ℕ → ℕ → ℕ → ℕ
all_refusal set slots pending entries addresses =
    before (both_refusal set slots pending) (before (entries_refusal set entries) (list_refusal set addresses))

-- ---- the kind of answer that an ask wants: 0 none, for none is open; 1 to an open, 2 to a private token's, 3 to a seal

unfoldable pub kind_of : Stage → ℕ
kind_of Idle = 0
kind_of (Packet connected place kind sequence start) = 1
kind_of (Token addr expiry low high) = 2
kind_of (Challenge place start) = 1
kind_of (Seal goal sequence end) = 3

-- the same as the code names it
unfoldable pub wanted : Stage → Option Wanted
wanted Idle = None
wanted (Packet connected place kind sequence start) = Some want.Open
wanted (Token addr expiry low high) = Some want.Token
wanted (Challenge place start) = Some want.Open
wanted (Seal goal sequence end) = Some want.Seal

-- a kind's number
abbrev pub code_of : Wanted → ℕ
code_of want.Open = 1
code_of want.Token = 2
code_of want.Seal = 3

-- ---- two tests in turn: where the first refuses, that is what they come to

abbrev pub next_to : Result (Unit {0}) ℕ → Result (Unit {0}) ℕ → Result (Unit {0}) ℕ
next_to (Ok u) second = second
next_to (Err n) second = Err n

-- ---- 16, then 23 by the tables that the call is lent

unfoldable pub call_refusal : OpenAsk → ℕ → ℕ
call_refusal ask tables = pick (eqb (kind_of ask.stage) 0) tables 16

-- the same of what the tables' test came to
unfoldable pub call_verdict : OpenAsk → Result (Unit {0}) ℕ → Result (Unit {0}) ℕ
call_verdict ask tables = pick (eqb (kind_of ask.stage) 0) tables (Err 16)

-- ---- 17, then 23 by the tables, then 18 (document 01: an answer lends the same buffers, another length is 18; wrong kind or field range)

-- how many places the table has in which a packet's sender stands
unfoldable pub room_of : Bool → ℕ → ℕ → ℕ
room_of connected slots pending = pick connected slots pending

-- a place that the table does not have, or n bytes from at that the buffer does not have
unfoldable pub misplaced : ℕ → ℕ → ℕ → ℕ → ℕ → Bool
misplaced place places room at n = leb places place || ltb room (at + n)

-- a counter that can't be raised, or a packet longer than the output
unfoldable pub overrun : ℕ → ℕ → ℕ → Bool
overrun sequence end out = eqb sequence (2 ^ 64 - 1) || ltb out end

-- a seal for a slot or a pending place that there is not
unfoldable pub goal_misfits : Goal → ℕ → ℕ → Bool
goal_misfits (Denied addr) slots pending = false
goal_misfits (ChallengeToken addr) slots pending = false
goal_misfits (ChallengePacket addr) slots pending = false
goal_misfits (Connecting place slot) slots pending = leb pending place || leb slots slot
goal_misfits (Sending slot) slots pending = leb slots slot
goal_misfits (Ending id addr) slots pending = false

unfoldable pub seal_misfits : Goal → ℕ → ℕ → ℕ → ℕ → ℕ → Bool
seal_misfits goal sequence end slots pending out = goal_misfits goal slots pending || overrun sequence end out

-- an ask that no call leaves: of a place, a part or a counter that there is not. Of slots and pending places, datagram and output.
unfoldable pub misfits : Stage → ℕ → ℕ → ℕ → ℕ → Bool
misfits Idle slots pending datagram out = false
misfits (Packet connected place kind sequence start) slots pending datagram out = misplaced place (room_of connected slots pending) datagram start 16
misfits (Token addr expiry low high) slots pending datagram out = false
misfits (Challenge place start) slots pending datagram out = misplaced place pending datagram start 300
misfits (Seal goal sequence end) slots pending datagram out = seal_misfits goal sequence end slots pending out

-- 18: another kind, a datagram or an output of another length, or an ask that does not fit
unfoldable pub unfit : OpenAsk → ℕ → SetUp → ℕ → ℕ → Bool
unfit ask kind set datagram out =
    not (eqb (kind_of ask.stage) kind)
    || (not (eqb datagram ask.datagram) || (not (eqb out ask.out) || misfits ask.stage set.slots set.pending datagram out))

-- 0 where the answer is taken
unfoldable pub answer_refusal : OpenAsk → ℕ → ℕ → SetUp → ℕ → ℕ → ℕ
answer_refusal ask tables kind set datagram out =
    pick (eqb (kind_of ask.stage) 0) 17 (pick (eqb tables 0) (pick (unfit ask kind set datagram out) 18 0) tables)

-- the same of what the tables' test came to
unfoldable pub answer_verdict : OpenAsk → Result (Unit {0}) ℕ → ℕ → SetUp → ℕ → ℕ → Result (Unit {0}) ℕ
answer_verdict ask tables kind set datagram out =
    pick (eqb (kind_of ask.stage) 0) (Err 17) (next_to tables (pick (unfit ask kind set datagram out) (Err 18) (Ok tt)))
