-- The part that was lent came back as the value, n times.
use mathlib.Core.Path.{◌≡◌, refl, sym, ap, ◌∙◌}
use mathlib.Core.List.{List, [], ◌∷◌, ◌++◌}
use Prim.Native.Nat.{ℕ, ◌+◌, ◌-◌, ◌≤◌, ◌<◌}
use native.Mathlib.Numerals.{add-one}
use native.Mathlib.Omega.{arith}
use lib.ListN.{length, take, set, replicate, length-replicate}
use lib.Seq.{take_all, take-suc-set}
use Rattle.std.proofs.lemmas.List.{replicate_more}
use Rattle.serialize.specs.Runs.{part}
use Rattle.serialize.proofs.Lists.{lent_part, length_part}
use Rattle.serialize.proofs.runs.fill.Goals as goal

pub loop-x-preserved : goal.loop-x-preserved
loop-x-preserved g c =
    let l = c.loop-x in
    let i = l.x-index in
    let v = c.args.value in
    let h : i < length l.x-items = omega (arith, l.auto.x-items, c.loop-x-test.true) in
    ap (λ (k : ℕ). take k (set l.x-items i v)) (add-one i)
    ∙ take-suc-set l.x-items i v h
    ∙ ap (λ (t : List g.row.T.Denot). t ++ (v ∷ [])) l.invariant
    ∙ replicate_more i v

pub returns : goal.returns
returns g c =
    let a = c.args in
    let l = c.loop-x in
    let i = l.x-index in
    let m : a.at + a.n - a.at ≡ a.n = omega arith in
    let k = ap (λ (j : ℕ). length (part a.dst.now a.at j)) m ∙ length_part a.dst.now a.at a.n c.requires in
    let n = l.auto.x-items ∙ k in
    let h : length l.x-items ≤ i = omega (arith, l.auto.x-items, c.loop-x-test.false) in
    let p = sym (take_all i l.x-items h) ∙ l.invariant in
    let q = sym (length-replicate i a.value) ∙ sym (ap length p) ∙ n in
    lent_part a.dst.now a.at (a.at + a.n) a.n l.x-items (replicate a.n a.value) refl (p ∙ ap (λ (j : ℕ). replicate j a.value) q) n
