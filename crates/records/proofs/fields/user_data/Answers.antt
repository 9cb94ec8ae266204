-- The words are unpacked over the whole of a local array.
use native.Mathlib.Omega.{arith}
use Rattle.places.specs.Layout.{user_data_at}
use Rattle.records.proofs.Pieces.{unpacked}
use borrow.Author.Rules.{rules}
use Rattle.records.proofs.fields.user_data.Goals as goal

pub returns : goal.returns
returns c =
    let a = c.args in
    unpacked _ a.t.now (user_data_at a.n a.i) 32 c.unpack_words.ensures (search rules) (omega arith)
