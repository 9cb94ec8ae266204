-- What the calls on challenge tokens leave.
use Rattle.std.specs.Prelude.{ℕ, Bool, List, length}
use Rattle.bodies.specs.Tokens.{token}
use Rattle.encode.specs.Generates.{generate_challenge}
use Rattle.decode.specs.declared.Challenged.{Challenged}
use Rattle.decode.specs.Challenges.{decode_challenge, answer_challenge}
use Rattle.calls.specs.Desk.{told_of, kept_on, challenged_desk, proof_opening_of}
use Rattle.calls.specs.Packets.{Handed, encoded_call, Placed, placed}

abbrev pub generate_call : List ℕ → ℕ → ℕ → List ℕ → ℕ → List ℕ → Handed
generate_call out at id user sequence key = encoded_call (generate_challenge out at (token id user) sequence key)

abbrev pub challenge_call : Challenged → Placed
challenge_call c = placed (challenged_desk c) (told_of c.ask)

abbrev pub decode_challenge_call : List ℕ → ℕ → ℕ → List ℕ → Placed
decode_challenge_call src at sequence key = challenge_call (decode_challenge (length src) at sequence key)

-- the desk, and the token's user data
abbrev pub token_call : Challenged → Placed
token_call c = placed (challenged_desk c) c.token.user_data

abbrev pub answer_challenge_call : List ℕ → List ℕ → Bool → Placed
answer_challenge_call desk src granted =
    token_call (answer_challenge (proof_opening_of (kept_on desk)) src granted)
