-- After i turns the bytes of the first i words are written.
use mathlib.Core.Path.{◌≡◌, refl, sym, ap, ◌∙◌}
use Prim.Native.Nat.{ℕ, ◌+◌, ◌*◌, ◌<◌}
use native.Mathlib.Omega.{arith}
use mathlib.Core.List.{List}
use lib.ListN.{length}
use lib.Seq.{take_all}
use Rattle.serialize.specs.Runs.{part, splice}
use Rattle.serialize.specs.Le.{to_le, bytes_of}
use Rattle.serialize.proofs.Lists.{length_part, get_or_part, splice_none}
use Rattle.serialize.proofs.Packed.{word_turn}
use borrow.Author.Rules.{rules}
use Rattle.serialize.proofs.words.unpack_words.Goals as goal

pub loop-i-init : goal.loop-i-init
unfolding bytes_of
loop-i-init c =
    let a = c.args in
    (search rules, sym (splice_none a.dst.now a.at), refl)

pub loop-i-preserved : goal.loop-i-preserved
loop-i-preserved c =
    let a = c.args in
    let l = c.loop-i in
    let w = c.write_u64 in
    let h : l.i < a.n = c.loop-i-test.true in
    let ws = part a.src.now a.from a.n in
    let n : length ws ≡ a.n = length_part a.src.now a.from a.n c.requires.1 in
    let v = sym (get_or_part a.src.now a.from a.n l.i h) in
    let u = w.ensures ∙ ap (λ (x : ℕ). splice l.dst (a.at + l.i * 8) (to_le 8 x)) v in
    let turn = word_turn a.dst.now l.dst _ a.at ws l.i l.invariant.1 u (omega arith) (omega (arith, c.requires)) in
    (search rules, turn, w.auto.dst ∙ l.invariant.2)

pub shape_of-dst : goal.shape_of-dst
shape_of-dst c = c.loop-i.invariant.2

pub returns : goal.returns
returns c =
    let a = c.args in
    let l = c.loop-i in
    let ws = part a.src.now a.from a.n in
    let n : length ws ≡ a.n = length_part a.src.now a.from a.n c.requires.1 in
    l.invariant.1 ∙ ap (λ (x : List ℕ). splice a.dst.now a.at (bytes_of x)) (take_all l.i ws (omega arith))
