-- The token's bytes, none where there is no place.
use Rattle.std.proofs.Common.{◌≡◌, ℕ, ◌-◌, ◌/◌, ◌≤◌, min, List, length, sym, ap, ◌∙◌, arith, length-take, rules}
use Rattle.serialize.specs.Runs.{splice}
use Rattle.serialize.proofs.Lists.{splice_none}
use Rattle.tokens.specs.Text.{token_of, unhex, bytes_of}
use Rattle.tokens.proofs.bytes.Goals as goal

pub returns-then-out-at : goal.returns-then-out-at
unfolding unhex
returns-then-out-at c =
    let a = c.args in
    let w = token_of a.line.now a.which in
    let z : min (length w / 2) (length a.out.now - a.at) ≡ 0 = omega arith in
    (sym z, sym (splice_none a.out.now a.at) ∙ ap (λ (k : ℕ). splice a.out.now a.at (unhex k w)) (sym z), search rules)

pub returns : goal.returns
returns c =
    let a = c.args in
    let room = length a.out.now - a.at in
    let e = c.token.ensures in
    let p = c.put_bytes in
    let r = p.ensures.0 ∙ ap (λ (w : List ℕ). min (length w / 2) room) e in
    let out = c.put_bytes.new.out in
    let fits : p.result ≤ length out = omega arith in
    (r, p.ensures.1 ∙ ap (λ (w : List ℕ). splice a.out.now a.at (bytes_of room w)) e, (fits, omega (arith, length-take p.result out)))
