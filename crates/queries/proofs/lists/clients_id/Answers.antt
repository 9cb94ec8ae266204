-- A place is asked for its id once the slots' test has passed.
use mathlib.Core.Path.{refl}
use borrow.Author.Rules.{rules}
use Rattle.queries.proofs.Ways.{is_shaped}
use Rattle.queries.proofs.lists.clients_id.Goals as goal

pub list_used-requires : goal.list_used-requires
list_used-requires c = λ free i h.
    let shape = is_shaped c.args.server c.args.slots.now _ refl free in
    search rules
