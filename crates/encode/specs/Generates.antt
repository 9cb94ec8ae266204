-- A challenge token written, and to be sealed (document 01, "Bytes on the wire": client id, user data, zeros to 284; the tag makes
-- 300; no additional data).
use Rattle.std.specs.Prelude.{ℕ, ◌+◌, List, length, ltb}
use Rattle.serialize.specs.Choice.{pick}
use Rattle.serialize.specs.Runs.{splice}
use Rattle.bodies.specs.declared.challenge.ChallengeToken.{ChallengeToken}
use Rattle.bodies.specs.Tokens.{token_clear}
use Rattle.asks.specs.declared.Work.TheVariants.{Seal}
use Rattle.encode.specs.declared.Encoding.TheVariants.{Asked}
use Rattle.asks.specs.Asks.{token_ask}
use Rattle.encode.specs.Encodes.{Done, done, encoded_as, open_at, refused_by}

-- written at index at of a buffer, and to be sealed there with its tag: 14 where the 300 bytes do not fit
unfoldable pub generate_challenge : List ℕ → ℕ → ChallengeToken → ℕ → List ℕ → Done
generate_challenge out at t sequence key =
    pick (ltb (length out) (at + 300)) (done (refused_by 14) out)
    (done
    (encoded_as Asked (token_ask Seal key sequence at (at + 300)) (open_at (at + 300) (length out)))
    (splice out at (token_clear t)))
