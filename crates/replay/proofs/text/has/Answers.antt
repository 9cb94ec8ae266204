-- A part of what was read of the token is compared.
use Rattle.std.proofs.Common.{◌≡◌, ℕ, ◌+◌, List, length, ap, ◌∙◌, arith}
use lib.ListN.{length-replicate}
use Rattle.serialize.proofs.Lists.{pointwise_alike}
use Rattle.serialize.specs.Runs.{part, alike}
use Rattle.tokens.specs.Text.{token_of, bytes_of}
use Rattle.tokens.proofs.Hex.{token_back}
use Rattle.replay.proofs.text.has.Goals as goal

pub returns : goal.returns
returns c =
    let a = c.args in
    let b = c.bytes-n in
    let w = token_of a.line.now a.which in
    let n = length a.got.now in
    let z : a.from + 0 ≡ a.from = omega arith in
    let whole = c.field-whole.ensures ∙ token_back _ _ w 8192 _ (length-replicate {A = ℕ} 8192 0) b.ensures.0 b.ensures.1 in
    let there = ap (λ (t : List ℕ). part t (a.from + 0) n) whole ∙ ap (λ (k : ℕ). part (bytes_of 8192 w) k n) z in
    c.eq.ensures ∙ pointwise_alike _ _ ∙ ap (alike a.got.now) (c.field.ensures ∙ there)
