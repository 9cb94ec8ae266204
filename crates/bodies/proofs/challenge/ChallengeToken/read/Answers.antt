-- The two fields stand where the definition reads them.
use mathlib.Core.Path.{◌≡◌, ap₂, ◌∙◌}
use Prim.Native.Nat.{◌+◌}
use native.Mathlib.Omega.{arith}
use lib.ListN.{length}
use Rattle.serialize.specs.Runs.{part, zeros}
use Rattle.serialize.proofs.Lists.{length_part, splice_whole}
use Rattle.bodies.specs.Tokens.{token, token_at}
use Rattle.bodies.proofs.challenge.ChallengeToken.read.Goals as goal

pub returns : goal.returns
unfolding token_at
returns c =
    let a = c.args in
    let k : length (part a.src.now (a.at + 8) 256) ≡ 256 = length_part a.src.now (a.at + 8) 256 (omega (arith, c.requires)) in
    ap₂ token c.read_u64-client_id.ensures (c.copy.ensures ∙ splice_whole (zeros 256) (part a.src.now (a.at + 8) 256) k)
