-- The challenge token before sealing (document 01, "Bytes on the wire": client id u64, user data 256, zeros to 284; the tag makes 300).
use Rattle.std.specs.Prelude.{ℕ, ◌+◌, List, ◌++◌}
use Rattle.serialize.specs.Runs.{part, zeros}
use Rattle.serialize.specs.Le.{of_le, to_le}
use Rattle.bodies.specs.declared.challenge.ChallengeToken.{ChallengeToken}

abbrev pub token : ℕ → List ℕ → ChallengeToken
token id user = record { client_id = id; user_data = user }

-- 8 + 256 + 20 bytes
unfoldable pub token_clear : ChallengeToken → List ℕ
token_clear t = to_le 8 t.client_id ++ (t.user_data ++ zeros 20)

-- the token that stands at index at of l
unfoldable pub token_at : List ℕ → ℕ → ChallengeToken
token_at l at = token (of_le (part l at 8)) (part l (at + 8) 256)
