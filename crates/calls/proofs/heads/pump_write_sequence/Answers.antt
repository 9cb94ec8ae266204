-- Eight bytes are room enough for any sequence.
use mathlib.Core.Path.{◌≡◌, ap, ◌∙◌}
use lib.ListN.{length}
use Prim.Native.Nat.{ℕ}
use native.Mathlib.Omega.{arith}
use borrow.Author.Rules.{rules}
use Rattle.prefix.proofs.Fewest.{fewest_le}
use Rattle.prefix.specs.Head.{fewest}
use Rattle.calls.specs.Heads.{written}
use Rattle.calls.proofs.heads.pump_write_sequence.Goals as goal

pub write_sequence-requires : goal.write_sequence-requires
write_sequence-requires c = let n : length c.args.out.now ≡ 8 = search rules in omega (arith, fewest_le c.args.sequence (search rules))

pub returns : goal.returns
returns c =
    let s = c.args in
    ap (λ (n : ℕ). written n c.write_sequence.new.out) c.write_sequence.ensures.0 ∙ ap (written (fewest s.sequence)) c.write_sequence.ensures.1
