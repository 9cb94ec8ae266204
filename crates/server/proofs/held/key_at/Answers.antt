-- The bytes are copied over the whole of a local array.
use Rattle.server.proofs.Pieces.{copied}
use borrow.Author.Rules.{rules}
use Rattle.server.proofs.held.key_at.Goals as goal

pub returns : goal.returns
returns c = copied _ c.args.held.now c.args.at 32 c.copy.ensures (search rules) (search rules)
