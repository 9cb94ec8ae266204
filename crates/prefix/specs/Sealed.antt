-- What goes to the cipher beside the text (document 01, "Bytes on the wire"; the standard, "Packets" and "Private connect token").
use Rattle.std.specs.Prelude.{ℕ, List, [], ◌∷◌, ◌++◌}
use Rattle.serialize.specs.Runs.{zeros}
use Rattle.serialize.specs.Le.{to_le}

-- `NETCODE 1.02` and a zero byte
abbrev pub version : List ℕ
version = 78 ∷ 69 ∷ 84 ∷ 67 ∷ 79 ∷ 68 ∷ 69 ∷ 32 ∷ 49 ∷ 46 ∷ 48 ∷ 50 ∷ 0 ∷ []

-- additional data of a packet, 22 bytes: version, protocol u64, prefix byte
unfoldable pub additional_data : ℕ → ℕ → List ℕ
additional_data prefix protocol = version ++ (to_le 8 protocol ++ (prefix ∷ []))

-- additional data of a private token, 29 bytes: version, protocol u64, expiry u64
unfoldable pub token_additional_data : ℕ → ℕ → List ℕ
token_additional_data protocol expiry = version ++ (to_le 8 protocol ++ to_le 8 expiry)

-- the nonce of a packet, 12 bytes: four zero bytes and the sequence u64
unfoldable pub packet_nonce : ℕ → List ℕ
packet_nonce sequence = zeros 4 ++ to_le 8 sequence
