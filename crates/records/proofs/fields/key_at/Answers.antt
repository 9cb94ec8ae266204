-- The words are unpacked over the whole of a local array.
use Rattle.records.proofs.Pieces.{unpacked}
use borrow.Author.Rules.{rules}
use Rattle.records.proofs.fields.key_at.Goals as goal

pub returns : goal.returns
returns c = unpacked _ c.args.t.now c.args.at 4 c.unpack_words.ensures (search rules) c.requires
