-- The id, the address and the body are copied in turn and the mark stored, as the definition has them.
use mathlib.Core.Path.{refl, ◌∙◌}
use native.Mathlib.Omega.{arith}
use lib.ListN.{length-set}
use Rattle.serialize.specs.Runs.{part}
use Rattle.places.specs.Layout.{address_at, body_at, body_words, id_of}
use Rattle.records.proofs.Pieces.{record_written}
use Rattle.records.proofs.whole.move_record.Goals as goal

pub copy-requires : goal.copy-requires
copy-requires c = (simp length-set (omega arith), omega arith)

pub copy-requires-2 : goal.copy-requires-2
copy-requires-2 c = (omega (arith, simp length-set at c.copy.auto.dst), omega arith)

pub bounds-slots-i : goal.bounds-slots-i
bounds-slots-i c = omega (arith, c.copy-2.auto.dst, simp length-set at c.copy.auto.dst)

pub shape_of-slots : goal.shape_of-slots
shape_of-slots c = simp length-set (c.copy-2.auto.dst ∙ c.copy.auto.dst ∙ simp length-set)

pub returns : goal.returns
returns c =
    let a = c.args in (
      record_written
          a.slots.now
          c.copy.new.dst
          c.copy-2.new.dst
          a.n
          a.i
          (id_of a.pending.now a.m a.j)
          (part a.pending.now (address_at a.m a.j) 3)
          (part a.pending.now (body_at a.m a.j) body_words)
          c.copy.ensures
          c.copy-2.ensures,
      refl,
    )
