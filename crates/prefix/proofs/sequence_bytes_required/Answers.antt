-- The bytes above the mask are zero: the walk ends at the topmost byte that is not.
use mathlib.Core.Path.{◌≡◌, sym, ap, subst, ◌∙◌}
use Prim.Native.Nat.{ℕ, suc, ◌+◌, ◌-◌, ◌/◌, ◌^◌, ◌<◌}
use native.Mathlib.Omega.{arith}
use lib.Bits.{bit_and}
use Rattle.prefix.proofs.Fewest.{fewest_walk, fewest_none}
use Rattle.prefix.proofs.Masks.{mask_at, mask_shift, mask_clear, mask_set}
use borrow.Author.Rules.{rules}
use Rattle.prefix.proofs.sequence_bytes_required.Goals as goal

pub returns-then-sequence-mask-ne0 : goal.returns-then-sequence-mask-ne0
returns-then-sequence-mask-ne0 c =
    let l = c.loop-i in
    let k = 7 - l.i in
    let e : 8 - l.i ≡ suc k = omega arith in
    let set = mask_set c.args.sequence k (λ z. c.if-sequence-mask-ne0.true (ap (bit_and c.args.sequence) (l.invariant.1 ∙ ap mask_at e) ∙ z)) in
    e ∙ fewest_walk c.args.sequence k (search rules) set (subst (λ (n : ℕ). c.args.sequence < 256 ^ n) e l.invariant.2)

pub loop-i-preserved : goal.loop-i-preserved
loop-i-preserved c =
    let l = c.loop-i in
    let v = c.args.sequence in
    let k = 7 - l.i in
    let e : 8 - l.i ≡ suc k = omega arith in
    let f : 8 - (l.i + 1) ≡ k = omega arith in
    let clear = mask_clear v k (subst (λ (n : ℕ). v < 256 ^ n) e l.invariant.2) (ap (bit_and v) (sym (l.invariant.1 ∙ ap mask_at e)) ∙ c.if-sequence-mask-ne0.false) in
    (search rules, ap (λ (n : ℕ). n / 256) (l.invariant.1 ∙ ap mask_at e) ∙ mask_shift k ∙ ap mask_at (sym f), subst (λ (n : ℕ). v < 256 ^ n) (sym f) clear)

pub returns : goal.returns
returns c =
    let l = c.loop-i in
    let z : 8 - l.i ≡ 0 = omega arith in
    fewest_none c.args.sequence (subst (λ (n : ℕ). c.args.sequence < 256 ^ n) z l.invariant.2)
