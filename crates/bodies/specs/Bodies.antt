-- The bodies of packets (document 01, "Bytes on the wire"; the standard, "Packets"). A packet is its numbers, and bytes beside them.
use Rattle.std.specs.Prelude.{ℕ, ◌^◌, ◌≤◌, ◌<◌, List, [], ◌++◌, length, ltb, Result, Ok, Err}
use Rattle.serialize.specs.Choice.{pick}
use Rattle.serialize.specs.Runs.{part}
use Rattle.serialize.specs.Le.{of_le, to_le}
use Rattle.bodies.specs.declared.PacketType.{PacketType}
use Rattle.bodies.specs.declared.PacketType.TheVariants as kind
use Rattle.bodies.specs.declared.Packet.{Packet}
use Rattle.bodies.specs.declared.Packet.TheVariants.{ConnectionRequest, ConnectionDenied, Challenge, Response, KeepAlive, Payload, Disconnect}

-- ---- sizes

abbrev pub kind_of : Packet → PacketType
kind_of (ConnectionRequest protocol expiry) = kind.ConnectionRequest
kind_of ConnectionDenied = kind.ConnectionDenied
kind_of (Challenge sequence) = kind.Challenge
kind_of (Response sequence) = kind.Response
kind_of (KeepAlive index maximum) = kind.KeepAlive
kind_of Payload = kind.Payload
kind_of Disconnect = kind.Disconnect

-- the bytes that must stand beside a packet: version 13, nonce 24 and private data 1,024; a sealed token 300; a payload may be empty
abbrev pub wants : PacketType → ℕ
wants kind.ConnectionRequest = 1061
wants kind.ConnectionDenied = 0
wants kind.Challenge = 300
wants kind.Response = 300
wants kind.KeepAlive = 0
wants kind.Payload = 0
wants kind.Disconnect = 0

-- how many of the bytes beside a packet its body takes: all of a payload, else what must be there
abbrev pub takes : PacketType → ℕ → ℕ
takes kind.ConnectionRequest n = 1061
takes kind.ConnectionDenied n = 0
takes kind.Challenge n = 300
takes kind.Response n = 300
takes kind.KeepAlive n = 0
takes kind.Payload n = n
takes kind.Disconnect n = 0

-- the least that a body of the type has: a request 1,077 after its prefix, a challenge or response 8 + 300, a keep-alive 4 + 4
abbrev pub least : PacketType → ℕ
least kind.ConnectionRequest = 1077
least kind.ConnectionDenied = 0
least kind.Challenge = 308
least kind.Response = 308
least kind.KeepAlive = 8
least kind.Payload = 0
least kind.Disconnect = 0

-- what a body has as it is written, n bytes standing beside the packet: the least, but of a payload all n
abbrev pub body_length : PacketType → ℕ → ℕ
body_length kind.ConnectionRequest n = 1077
body_length kind.ConnectionDenied n = 0
body_length kind.Challenge n = 308
body_length kind.Response n = 308
body_length kind.KeepAlive n = 8
body_length kind.Payload n = n
body_length kind.Disconnect n = 0

-- the numbers of a packet fit their fields, as the code's types have it
abbrev pub Ranged : Packet → Type 0
Ranged (ConnectionRequest protocol expiry) = (protocol < 256 ^ 8) × (expiry < 256 ^ 8)
Ranged ConnectionDenied = 0 ≤ 0
Ranged (Challenge sequence) = sequence < 256 ^ 8
Ranged (Response sequence) = sequence < 256 ^ 8
Ranged (KeepAlive index maximum) = (index < 256 ^ 4) × (maximum < 256 ^ 4)
Ranged Payload = 0 ≤ 0
Ranged Disconnect = 0 ≤ 0

-- ---- written

-- version 13, protocol u64, expiry u64, then nonce 24 and private data 1,024
unfoldable pub request_body : ℕ → ℕ → List ℕ → List ℕ
request_body protocol expiry bytes = part bytes 0 13 ++ (to_le 8 protocol ++ (to_le 8 expiry ++ part bytes 13 1048))

-- token sequence u64, 300 bytes
unfoldable pub token_body : ℕ → List ℕ → List ℕ
token_body sequence bytes = to_le 8 sequence ++ part bytes 0 300

-- index u32, maximum u32
unfoldable pub keep_alive_body : ℕ → ℕ → List ℕ
keep_alive_body index maximum = to_le 4 index ++ to_le 4 maximum

-- the body of a packet with its bytes beside it; payload: all of it; denied and disconnect: nothing
abbrev pub body : Packet → List ℕ → List ℕ
body (ConnectionRequest protocol expiry) bytes = request_body protocol expiry bytes
body ConnectionDenied bytes = []
body (Challenge sequence) bytes = token_body sequence bytes
body (Response sequence) bytes = token_body sequence bytes
body (KeepAlive index maximum) bytes = keep_alive_body index maximum
body Payload bytes = bytes
body Disconnect bytes = []

-- ---- read: the numbers of a body b, and the bytes that stand beside them; extra bytes are ignored

abbrev pub numbers : PacketType → List ℕ → Packet
numbers kind.ConnectionRequest b = ConnectionRequest (of_le (part b 13 8)) (of_le (part b 21 8))
numbers kind.ConnectionDenied b = ConnectionDenied
numbers kind.Challenge b = Challenge (of_le (part b 0 8))
numbers kind.Response b = Response (of_le (part b 0 8))
numbers kind.KeepAlive b = KeepAlive (of_le (part b 0 4)) (of_le (part b 4 4))
numbers kind.Payload b = Payload
numbers kind.Disconnect b = Disconnect

abbrev pub beside : PacketType → List ℕ → List ℕ
beside kind.ConnectionRequest b = part b 0 13 ++ part b 29 1048
beside kind.ConnectionDenied b = []
beside kind.Challenge b = part b 8 300
beside kind.Response b = part b 8 300
beside kind.KeepAlive b = []
beside kind.Payload b = b
beside kind.Disconnect b = []

-- a body shorter than its type's least is refused as 9
unfoldable pub read_body : PacketType → List ℕ → Result Packet ℕ
read_body kind b = pick (ltb (length b) (least kind)) (Err 9) (Ok (numbers kind b))
