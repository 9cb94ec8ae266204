-- The word at the token's start.
use Rattle.std.proofs.Common.{◌≡◌, ℕ, ◌-◌, length, take, drop, ap, ◌∙◌, arith}
use Rattle.tokens.specs.Text.{word}
use Rattle.tokens.proofs.Spaced.{word_take}
use Rattle.tokens.proofs.token.Goals as goal

pub returns : goal.returns
returns c =
    let line = c.args.line.now in
    let start = c.word_start-start.result in
    let e : c.word_end-end.result - start ≡ length (word (drop start line)) = omega (arith, c.word_end-end.ensures.0) in
    ap (λ (k : ℕ). take k (drop start line)) e ∙ word_take (drop start line) ∙ ap word c.word_start-start.ensures.0
