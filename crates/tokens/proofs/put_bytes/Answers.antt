-- As many as there are, and as fit.
use Rattle.std.proofs.Common.{ℕ, ap, ◌∙◌}
use Rattle.serialize.specs.Runs.{splice}
use Rattle.tokens.specs.Text.{unhex}
use Rattle.tokens.proofs.put_bytes.Goals as goal

pub returns : goal.returns
returns c =
    let a = c.args in
    let n = c.min-n.ensures in
    (n, c.fill.ensures ∙ ap (λ (k : ℕ). splice a.out.now a.at (unhex k a.word.now)) n)
