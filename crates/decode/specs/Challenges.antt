-- The challenge token to be opened and read (document 01, "Bytes on the wire": client id, user data, zeros to 284; the tag makes 300; no
-- additional data; "How the host answers").
use Rattle.std.specs.Prelude.{ℕ, ◌+◌, Bool, List, length, ltb, Option, Some, None}
use Rattle.serialize.specs.Choice.{pick}
use Rattle.serialize.specs.Runs.{zeros}
use Rattle.bodies.specs.declared.challenge.ChallengeToken.{ChallengeToken}
use Rattle.bodies.specs.Tokens.{token, token_at}
use Rattle.asks.specs.declared.Ask.{Ask}
use Rattle.asks.specs.declared.Work.TheVariants as work
use Rattle.decode.specs.declared.Proving.{Proving}
use Rattle.decode.specs.declared.Proving.TheVariants.{Refused, Asked, Proved}
use Rattle.decode.specs.declared.ProofOpening.{ProofOpening}
use Rattle.decode.specs.declared.Challenged.{Challenged}
use Rattle.asks.specs.Asks.{no_ask, token_ask, unlike}

abbrev pub challenged_as : Proving → Ask → Option ProofOpening → ChallengeToken → Challenged
challenged_as answer ask opening t = record { answer = answer; ask = ask; opening = opening; token = t }

-- an ask to open a token that is open
abbrev pub proof_as : ℕ → ℕ → ProofOpening
proof_as at len = record { at = at; len = len }

abbrev pub no_token : ChallengeToken
no_token = token 0 (zeros 256)

-- an answer without a token
abbrev pub unproved : ℕ → Option ProofOpening → Challenged
unproved n opening = challenged_as (Refused n) no_ask opening no_token

-- to be opened where it stands: 9 where there are fewer than 300 bytes
unfoldable pub decode_challenge : ℕ → ℕ → ℕ → List ℕ → Challenged
decode_challenge room at sequence key =
    pick (ltb room (at + 300)) (unproved 9 None)
    (challenged_as Asked (token_ask work.Open key sequence at (at + 300)) (Some (proof_as at room)) no_token)

-- the host's answer: 17 where none is open; 18, and it stays open, for a buffer of another length or a place that it does not have;
-- no is 8; yes gives the token
unfoldable pub answer_proof : ℕ → ℕ → List ℕ → Bool → Challenged
answer_proof at len src granted =
    pick (unlike at 300 len (length src)) (unproved 18 (Some (proof_as at len)))
    (pick granted (challenged_as Proved no_ask None (token_at src at)) (unproved 8 None))

abbrev pub answer_challenge : Option ProofOpening → List ℕ → Bool → Challenged
answer_challenge None src granted = unproved 17 None
answer_challenge (Some ask) src granted = answer_proof ask.at ask.len src granted
