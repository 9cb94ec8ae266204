-- What is given goes by what the search found.
use mathlib.Core.Path.{sym, ap, ◌∙◌}
use native.Mathlib.Omega.{arith}
use Rattle.refusal.proofs.Laws.{passes, refuses_as}
use Rattle.addresses.specs.Addresses.{is_found, list_refusal}
use Rattle.addresses.proofs.Ways.{some_found, list_found, list_unfound}
use Rattle.addresses.proofs.list.list_refusal.Goals as goal

pub returns-then-is_some : goal.returns-then-is_some
returns-then-is_some c =
    let list = c.args.list.now in
    let found = c.is_some.ensures ∙ some_found c.find_malformed.result ∙ ap is_found c.find_malformed.ensures in
    refuses_as (list_refusal list) 19 (λ e. omega arith) (list_found list (sym found ∙ c.if-is_some.true))

pub returns-else-is_some : goal.returns-else-is_some
returns-else-is_some c =
    let list = c.args.list.now in
    let found = c.is_some.ensures ∙ some_found c.find_malformed.result ∙ ap is_found c.find_malformed.ensures in
    passes (list_refusal list) (list_unfound list (sym found ∙ c.if-is_some.false))
