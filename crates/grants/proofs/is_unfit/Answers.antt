-- The three tests of the definition, in its order.
use mathlib.Core.Path.{refl, ◌∙◌}
use borrow.Author.Tests.{lt-ltb}
use Rattle.addresses.specs.Addresses as addresses
use Rattle.grants.proofs.Tests.{list_uneven, list_long, list_told, err_told}
use Rattle.grants.proofs.is_unfit.Goals as goal

pub returns-then-list-ne0 : goal.returns-then-list-ne0
returns-then-list-ne0 c = list_uneven c.args.list.now c.if-list-ne0.true

pub returns-then-count_addresses-gt-NETCODE_MAX_SERVER_ADDRESSES : goal.returns-then-count_addresses-gt-NETCODE_MAX_SERVER_ADDRESSES
returns-then-count_addresses-gt-NETCODE_MAX_SERVER_ADDRESSES c =
    lt-ltb _ _ c.if-count_addresses-gt-NETCODE_MAX_SERVER_ADDRESSES.true
    ∙ list_long c.args.list.now c.if-list-ne0.false _ c.count_addresses.ensures c.if-count_addresses-gt-NETCODE_MAX_SERVER_ADDRESSES.true

pub returns-else-count_addresses-gt-NETCODE_MAX_SERVER_ADDRESSES : goal.returns-else-count_addresses-gt-NETCODE_MAX_SERVER_ADDRESSES
returns-else-count_addresses-gt-NETCODE_MAX_SERVER_ADDRESSES c =
    let l = c.args.list.now in
    c.is_err.ensures.value
    ∙ err_told (addresses.list_refusal l) _ c.list_refusal.ensures
    ∙ list_told l c.if-list-ne0.false _ c.count_addresses.ensures c.if-count_addresses-gt-NETCODE_MAX_SERVER_ADDRESSES.false _ refl
