-- The desk: how answers, asks and what is kept open are laid out in sixteen words (ours; document 01, "Our forms": where an answer is
-- an enum, a definition gives this paper's number and values for each case).
use Rattle.std.specs.Prelude.{ℕ, ◌+◌, ◌-◌, ◌%◌, ◌^◌, List, [], ◌∷◌, get_or, eqb, Option, Some, None, Result, Ok, Err}
use Rattle.serialize.specs.Choice.{pick}
use Rattle.serialize.specs.Runs.{splice, zeros}
use Rattle.bodies.specs.declared.PacketType.{PacketType}
use Rattle.bodies.specs.declared.PacketType.TheVariants as kind
use Rattle.bodies.specs.declared.Packet.{Packet}
use Rattle.bodies.specs.declared.Packet.TheVariants.{ConnectionRequest, ConnectionDenied, Challenge, Response, KeepAlive, Payload, Disconnect}
use Rattle.bodies.specs.Kinds.{number_of, type_of}
use Rattle.bodies.specs.Bodies.{kind_of}
use Rattle.asks.specs.declared.Ask.{Ask}
use Rattle.asks.specs.declared.Work.{Work}
use Rattle.asks.specs.declared.Work.TheVariants as work
use Rattle.encode.specs.declared.Encoded.{Encoded}
use Rattle.encode.specs.declared.Encoding.{Encoding}
use Rattle.encode.specs.declared.Encoding.TheVariants as encoding
use Rattle.encode.specs.declared.Sealing.{Sealing}
use Rattle.encode.specs.Encodes.{open_at}
use Rattle.decode.specs.declared.Decoded.{Decoded}
use Rattle.decode.specs.declared.Decoding.{Decoding}
use Rattle.decode.specs.declared.Decoding.TheVariants as decoding
use Rattle.decode.specs.declared.Opening.{Opening}
use Rattle.decode.specs.declared.Challenged.{Challenged}
use Rattle.decode.specs.declared.Proving.{Proving}
use Rattle.decode.specs.declared.Proving.TheVariants as proving
use Rattle.decode.specs.declared.ProofOpening.{ProofOpening}
use Rattle.decode.specs.Decodes.{opening_as}
use Rattle.decode.specs.Challenges.{proof_as}
use Rattle.calls.specs.declared.desk.Said.{Said}
use Rattle.calls.specs.declared.desk.Shown.{Shown}
use Rattle.calls.specs.declared.desk.Kept.{Kept}

-- ---- the layout

abbrev pub saying : ℕ → ℕ → Said
saying code value = record { code = code; value = value }

abbrev pub showing : ℕ → ℕ → ℕ → ℕ → ℕ → ℕ → Shown
showing sequence kind first second start end =
    record { sequence = sequence; kind = kind; first = first; second = second; start = start; end = end }

abbrev pub keeping : ℕ → ℕ → ℕ → ℕ → Kept
keeping code sequence place len = record { code = code; sequence = sequence; place = place; len = len }

-- nothing was read; nothing is open
abbrev pub no_show : Shown
no_show = showing 0 0 0 0 0 0

abbrev pub no_kept : Kept
no_kept = keeping 0 0 0 0

abbrev pub work_code : Work → ℕ
work_code work.Open = 0
work_code work.Seal = 1

-- what was said 2, what was read 6, the ask 4, what is kept 4
abbrev pub laid : Said → Shown → Ask → Kept → List ℕ
laid said shown ask kept =
    said.code ∷ said.value ∷
    shown.sequence ∷ shown.kind ∷ shown.first ∷ shown.second ∷ shown.start ∷ shown.end ∷
    work_code ask.work ∷ ask.size ∷ ask.start ∷ ask.end ∷
    kept.code ∷ kept.sequence ∷ kept.place ∷ kept.len ∷ []

abbrev pub kept_on : List ℕ → Kept
kept_on desk = keeping (get_or desk 12 0) (get_or desk 13 0) (get_or desk 14 0) (get_or desk 15 0)

-- the bytes that go to the cipher: key from 0, nonce from 32, additional data from 44
abbrev pub told_of : Ask → List ℕ
told_of ask = splice (splice (splice (zeros 66) 0 ask.key) 32 ask.nonce) 44 ask.additional

-- ---- encoding

abbrev pub said_encoding : Encoding → Said
said_encoding (encoding.Refused n) = saying 0 n
said_encoding encoding.Asked = saying 1 0
said_encoding (encoding.Length n) = saying 2 n

abbrev pub kept_sealing : Option Sealing → Kept
kept_sealing None = no_kept
kept_sealing (Some ask) = keeping 1 0 ask.end ask.len

abbrev pub encoded_desk : Encoded → List ℕ
encoded_desk e = laid (said_encoding e.answer) no_show e.ask (kept_sealing e.sealing)

abbrev pub refused_desk : ℕ → List ℕ
refused_desk n = 0 ∷ n ∷ 0 ∷ 0 ∷ 0 ∷ 0 ∷ 0 ∷ 0 ∷ 0 ∷ 0 ∷ 0 ∷ 0 ∷ 0 ∷ 0 ∷ 0 ∷ 0 ∷ []

unfoldable pub sealing_of : Kept → Option Sealing
sealing_of kept = pick (eqb kept.code 0) None (open_at kept.place kept.len)

-- ---- packets

-- a packet's two numbers, 0 where it has none
abbrev pub first_of : Packet → ℕ
first_of (ConnectionRequest protocol expiry) = protocol
first_of ConnectionDenied = 0
first_of (Challenge sequence) = sequence
first_of (Response sequence) = sequence
first_of (KeepAlive index maximum) = index
first_of Payload = 0
first_of Disconnect = 0

abbrev pub second_of : Packet → ℕ
second_of (ConnectionRequest protocol expiry) = expiry
second_of ConnectionDenied = 0
second_of (Challenge sequence) = 0
second_of (Response sequence) = 0
second_of (KeepAlive index maximum) = maximum
second_of Payload = 0
second_of Disconnect = 0

-- the packet of a type and two numbers; a keep-alive takes their low 32 bits
abbrev pub packet_of : PacketType → ℕ → ℕ → Packet
packet_of kind.ConnectionRequest a b = ConnectionRequest a b
packet_of kind.ConnectionDenied a b = ConnectionDenied
packet_of kind.Challenge a b = Challenge a
packet_of kind.Response a b = Response a
packet_of kind.KeepAlive a b = KeepAlive (a % 2 ^ 32) (b % 2 ^ 32)
packet_of kind.Payload a b = Payload
packet_of kind.Disconnect a b = Disconnect

-- ---- decoding

abbrev pub said_decoding : Decoding → Said
said_decoding (decoding.Refused n) = saying 0 n
said_decoding decoding.Asked = saying 1 0
said_decoding (decoding.Read o) = saying 2 0

abbrev pub shown_of : Decoding → Shown
shown_of (decoding.Refused n) = no_show
shown_of decoding.Asked = no_show
shown_of (decoding.Read o) =
    showing o.sequence (number_of (kind_of o.packet)) (first_of o.packet) (second_of o.packet) o.start o.end

-- one more than the type, so that 0 is nothing open
abbrev pub kept_opening : Option Opening → Kept
kept_opening None = no_kept
kept_opening (Some ask) = keeping (1 + number_of ask.kind) ask.sequence ask.start ask.len

abbrev pub decoded_desk : Decoded → List ℕ
decoded_desk d = laid (said_decoding d.answer) (shown_of d.answer) d.ask (kept_opening d.opening)

abbrev pub opened_as : Result PacketType ℕ → Kept → Option Opening
opened_as (Ok kind) kept = Some (opening_as kind kept.sequence kept.place kept.len)
opened_as (Err n) kept = None

-- a code that no type has is nothing open
unfoldable pub opening_of : Kept → Option Opening
opening_of kept = pick (eqb kept.code 0) None (opened_as (type_of ((kept.code - 1) % 256)) kept)

-- ---- challenge tokens

abbrev pub said_proving : Proving → Said
said_proving (proving.Refused n) = saying 0 n
said_proving proving.Asked = saying 1 0
said_proving proving.Proved = saying 2 0

abbrev pub kept_proof : Option ProofOpening → Kept
kept_proof None = no_kept
kept_proof (Some ask) = keeping 1 0 ask.at ask.len

-- the token's client in the place of a packet's first number
abbrev pub challenged_desk : Challenged → List ℕ
challenged_desk c =
    laid (said_proving c.answer) (showing 0 0 c.token.client_id 0 0 0) c.ask (kept_proof c.opening)

unfoldable pub proof_opening_of : Kept → Option ProofOpening
proof_opening_of kept = pick (eqb kept.code 0) None (Some (proof_as kept.place kept.len))
