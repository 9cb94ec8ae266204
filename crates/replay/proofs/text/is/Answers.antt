-- What was read of the token is compared.
use Rattle.std.proofs.Common.{ℕ, ap, ◌∙◌}
use lib.ListN.{length-replicate}
use Rattle.serialize.proofs.Lists.{pointwise_alike}
use Rattle.serialize.specs.Runs.{alike}
use Rattle.tokens.specs.Text.{token_of}
use Rattle.tokens.proofs.Hex.{token_back}
use Rattle.replay.proofs.text.is.Goals as goal

pub returns : goal.returns
returns c =
    let a = c.args in
    let b = c.bytes-n in
    let w = token_of a.line.now a.which in
    c.eq.ensures ∙ pointwise_alike _ _ ∙ ap (alike a.got.now) (c.field.ensures ∙ token_back _ _ w 8192 _ (length-replicate {A = ℕ} 8192 0) b.ensures.0 b.ensures.1)
