-- Prefix byte, then the fewest bytes of the sequence.
use mathlib.Core.Path.{ap, ◌∙◌}
use Prim.Native.Nat.{ℕ, ◌+◌}
use lib.ListN.{length-set}
use Rattle.prefix.specs.Head.{fewest}
use Rattle.encode.proofs.Ways.{head_written}
use Rattle.encode.proofs.writing.write_head.Goals as goal

pub write_sequence-count-requires : goal.write_sequence-count-requires
write_sequence-count-requires c = simp (length-set, c.shown-seq.ensures) c.requires

pub shape_of-out : goal.shape_of-out
shape_of-out c = c.write_sequence-count.auto.out ∙ simp length-set

pub returns : goal.returns
returns c =
    let a = c.args in
    let e = c.shown-seq.ensures in
    (ap (λ (k : ℕ). 1 + k) (c.write_sequence-count.ensures.0 ∙ ap fewest e), head_written a.out.now _ a.kind a.sequence c.requires e c.to_u8.ensures c.encode_prefix.ensures c.write_sequence-count.ensures.1)
