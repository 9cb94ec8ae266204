-- A request in clear (document 01, "Bytes on the wire": prefix 0, version 13, protocol u64, expiry u64, nonce 24, private data 1,024: 1,078
-- bytes, the rest ignored; "When the server says no", for a request: 10, 11, 12, open).
use Rattle.std.specs.Prelude.{ℕ, List, length, eqb, leb}
use Rattle.serialize.specs.Choice.{pick}
use Rattle.serialize.specs.Runs.{part, alike}
use Rattle.serialize.specs.Le.{of_le}
use Rattle.prefix.specs.Sealed.{version}
use Rattle.addresses.specs.declared.Address.{Address}
use Rattle.server.specs.declared.NetcodeServer.{NetcodeServer}
use Rattle.server.specs.declared.Stage.TheVariants.{Token}
use Rattle.server.specs.Asking.{private_token_ask}
use Rattle.turns.specs.declared.Turn.{Turn}
use Rattle.turns.specs.Outcomes.{refused, asking}

abbrev pub version_in : List ℕ → List ℕ
version_in d = part d 1 13

abbrev pub protocol_in : List ℕ → ℕ
protocol_in d = of_le (part d 14 8)

abbrev pub expiry_in : List ℕ → ℕ
expiry_in d = of_le (part d 22 8)

abbrev pub nonce_in : List ℕ → List ℕ
nonce_in d = part d 30 24

-- the last 16 of the private bytes, as two words
abbrev pub mac_low_in : List ℕ → ℕ
mac_low_in d = of_le (part d 1062 8)

abbrev pub mac_high_in : List ℕ → ℕ
mac_high_in d = of_le (part d 1070 8)

-- 10: version; 11: protocol; 12: at now's seconds >= expiry; 0 for none of them
unfoldable pub request_refusal : NetcodeServer → List ℕ → ℕ
request_refusal s d =
    pick (alike (version_in d) (part version 0 13))
    (pick (eqb (protocol_in d) s.set.protocol_id)
    (pick (leb (expiry_in d) s.current_time.secs) 12 0)
    11)
    10

-- else an ask to open the private token, under the connect key; so long is the output
unfoldable pub token_asked : NetcodeServer → Address → ℕ → List ℕ → Turn
token_asked s addr out d =
    asking s (Token addr (expiry_in d) (mac_low_in d) (mac_high_in d)) (length d) out
    (private_token_ask s.set.connect_key s.set.protocol_id (expiry_in d) (nonce_in d))

unfoldable pub request_read : NetcodeServer → Address → ℕ → List ℕ → Turn
request_read s addr out d = pick (eqb (request_refusal s d) 0) (token_asked s addr out d) (refused s (request_refusal s d))
