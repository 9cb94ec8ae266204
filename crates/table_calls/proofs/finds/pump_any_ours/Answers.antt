-- Both lists' tests, and then whether one address is in both.
use mathlib.Core.Path.{ap, ◌∙◌}
use mathlib.Core.Bool.{not}
use mathlib.Core.List.{List}
use Prim.Native.Nat.{ℕ}
use lib.Dec.{eqb}
use Rattle.serialize.specs.Choice.{pick}
use Rattle.addresses.specs.Addresses.{list_refusal, any_ours}
use Rattle.table_calls.specs.Calls.{bit_of, ours_call}
use Rattle.table_calls.proofs.Laid.{bit_from, list_refused, list_taken}
use Rattle.table_calls.proofs.finds.pump_any_ours.Goals as goal

-- what follows the test of ours
abbrev after : List ℕ → List ℕ → ℕ
after list ours = pick (not (eqb (list_refusal list) 0)) 19 (bit_of (any_ours list ours))

pub returns-in-Err : goal.returns-in-Err
unfolding ours_call
returns-in-Err c =
    let ours = c.args.ours.now in
    list_refused ours _ c.list_refusal.ensures (after c.args.list.now ours) c.in-Err.refusal _ c.in-Err.is c.number.ensures

pub returns-in-Err-list_refusal : goal.returns-in-Err-list_refusal
unfolding ours_call
returns-in-Err-list_refusal c =
    let ours = c.args.ours.now in
    let list = c.args.list.now in
    list_refused list _ c.list_refusal-2.ensures (bit_of (any_ours list ours)) c.in-Err-list_refusal.refusal _ c.in-Err-list_refusal.is c.number-in-Err-list_refusal.ensures
    ∙ list_taken ours _ c.list_refusal.ensures (after list ours) c.in_default.field-0 c.in_default.is

pub returns : goal.returns
unfolding ours_call
returns c =
    let ours = c.args.ours.now in
    let list = c.args.list.now in
    c.from.ensures
    ∙ bit_from c.any_ours.result
    ∙ ap bit_of c.any_ours.ensures
    ∙ list_taken list _ c.list_refusal-2.ensures (bit_of (any_ours list ours)) c.in_default-list_refusal.field-0 c.in_default-list_refusal.is
    ∙ list_taken ours _ c.list_refusal.ensures (after list ours) c.in_default.field-0 c.in_default.is
