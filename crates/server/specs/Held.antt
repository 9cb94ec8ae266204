-- What a later step needs of a token (document 01, "How the host answers": the private token's yes brings its fields; the challenge's brings
-- id and user data), in 340 bytes: id 8, expiry 8, timeout 4, send key 32, receive key 32, user data 256.
use Rattle.std.specs.Prelude.{ℕ, List, ◌++◌}
use Rattle.serialize.specs.Runs.{part, splice}
use Rattle.serialize.specs.Le.{of_le, to_le}

unfoldable pub held_token : ℕ → ℕ → ℕ → List ℕ → List ℕ → List ℕ → List ℕ
held_token id expiry timeout send receive user = to_le 8 id ++ to_le 8 expiry ++ to_le 4 timeout ++ part send 0 32 ++ part receive 0 32 ++ part user 0 256

-- the id and the user data alone
unfoldable pub held_challenge : List ℕ → ℕ → List ℕ → List ℕ
held_challenge held id user = splice (splice held 0 (to_le 8 id)) 84 (part user 0 256)

abbrev pub held_id : List ℕ → ℕ
held_id held = of_le (part held 0 8)

abbrev pub held_expiry : List ℕ → ℕ
held_expiry held = of_le (part held 8 8)

abbrev pub held_timeout : List ℕ → ℕ
held_timeout held = of_le (part held 16 4)

abbrev pub held_send_key : List ℕ → List ℕ
held_send_key held = part held 20 32

abbrev pub held_receive_key : List ℕ → List ℕ
held_receive_key held = part held 52 32

abbrev pub held_user_data : List ℕ → List ℕ
held_user_data held = part held 84 256
