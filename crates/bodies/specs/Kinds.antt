-- The types of packets (document 01, "Bytes on the wire": 0 request, 1 denied, 2 challenge, 3 response, 4 keep-alive, 5 payload,
-- 6 disconnect; only 4, 5 and 6 are windowed).
use Rattle.std.specs.Prelude.{ℕ, Bool, true, false, eqb, Result, Ok, Err}
use Rattle.serialize.specs.Choice.{pick}
use Rattle.bodies.specs.declared.PacketType.{PacketType}
use Rattle.bodies.specs.declared.PacketType.TheVariants.{ConnectionRequest, ConnectionDenied, Challenge, Response, KeepAlive, Payload, Disconnect}

abbrev pub number_of : PacketType → ℕ
number_of ConnectionRequest = 0
number_of ConnectionDenied = 1
number_of Challenge = 2
number_of Response = 3
number_of KeepAlive = 4
number_of Payload = 5
number_of Disconnect = 6

-- the type of a number; over 6 there is none, and that is refused as 2
unfoldable pub type_of : ℕ → Result PacketType ℕ
type_of n =
    pick (eqb n 0) (Ok ConnectionRequest)
    (pick (eqb n 1) (Ok ConnectionDenied)
    (pick (eqb n 2) (Ok Challenge)
    (pick (eqb n 3) (Ok Response)
    (pick (eqb n 4) (Ok KeepAlive)
    (pick (eqb n 5) (Ok Payload)
    (pick (eqb n 6) (Ok Disconnect)
    (Err 2)))))))

abbrev pub windowed : PacketType → Bool
windowed ConnectionRequest = false
windowed ConnectionDenied = false
windowed Challenge = false
windowed Response = false
windowed KeepAlive = true
windowed Payload = true
windowed Disconnect = true

-- a request goes in clear; every other packet is sealed
abbrev pub is_request : PacketType → Bool
is_request ConnectionRequest = true
is_request ConnectionDenied = false
is_request Challenge = false
is_request Response = false
is_request KeepAlive = false
is_request Payload = false
is_request Disconnect = false
