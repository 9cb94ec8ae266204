-- The words are unpacked over the whole of a local array.
use borrow.Author.Rules.{rules}
use Rattle.records.proofs.Pieces.{unpacked}
use Rattle.netcode.proofs.record.key_at.Goals as goal

pub returns : goal.returns
returns c = unpacked _ c.args.words.now c.args.at 4 c.unpack_words.ensures (search rules) (search rules)
