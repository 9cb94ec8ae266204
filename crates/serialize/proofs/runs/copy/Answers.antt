-- A turn stores the part's next element after those that are written.
use mathlib.Core.Path.{◌≡◌, sym, ap, ◌∙◌}
use mathlib.Core.List.{List, [], ◌∷◌, ◌++◌}
use Prim.Native.Nat.{ℕ, ◌+◌, ◌≤◌, ◌<◌}
use native.Mathlib.Omega.{arith}
use lib.ListN.{length, drop, get_or, set, length-drop}
use lib.Seq.{get_or-drop}
use Rattle.std.proofs.lemmas.List.{take_more}
use Rattle.serialize.specs.Runs.{part, splice}
use Rattle.serialize.proofs.Lists.{length_part, splice_none, splice_snoc}
use Rattle.serialize.proofs.runs.copy.Goals as goal

pub loop-i-init : goal.loop-i-init
loop-i-init g c = (omega arith, sym (splice_none c.args.dst.now c.args.at))

pub loop-i-preserved : goal.loop-i-preserved
loop-i-preserved g c =
    let a = c.args in
    let d = a.dst.now in
    let xs = drop a.from a.src.now in
    let i = c.loop-i.i in
    let v = c.index-src-from.result in
    let s = part a.src.now a.from i in
    let h : i < a.n = c.loop-i-test.true in
    let f : a.from + i ≤ length a.src.now = omega (arith, c.requires.1, h) in
    let k : length s ≡ i = length_part a.src.now a.from i f in
    let room : a.at + length s < length d = omega (arith, c.requires.0, h, k) in
    let left : i < length xs = simp length-drop (omega (arith, c.requires.1, h)) in
    let next : v ≡ get_or xs i v = c.index-src-from.is ∙ sym (get_or-drop a.from a.src.now i v) in (
      omega (arith, h),
      ap (λ (t : List g.row.T.Denot). set t (a.at + i) v) c.loop-i.invariant.1
          ∙ ap (λ (j : ℕ). set (splice d a.at s) (a.at + j) v) (sym k)
          ∙ splice_snoc d a.at s v room
          ∙ ap (splice d a.at) (ap (λ (x : g.row.T.Denot). s ++ (x ∷ [])) next ∙ sym (take_more xs i v left)),
    )

pub returns : goal.returns
returns g c =
    let a = c.args in
    let l = c.loop-i in
    let e : l.i ≡ a.n = omega (arith, l.invariant.0, c.loop-i-test.false) in
    l.invariant.1 ∙ ap (λ (j : ℕ). splice a.dst.now a.at (part a.src.now a.from j)) e
