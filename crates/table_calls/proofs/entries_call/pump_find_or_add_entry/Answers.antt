-- The entries' test, the address's, and then what the entries answer and become.
use mathlib.Core.Path.{sym, subst, ◌∙◌}
use mathlib.Core.Bool.{not}
use mathlib.Core.List.{List}
use Prim.Native.Nat.{ℕ}
use lib.Dec.{eqb}
use Rattle.serialize.specs.Choice.{pick}
use Rattle.addresses.specs.declared.Address.{Address}
use Rattle.addresses.specs.Addresses.{of_bytes, refusal}
use Rattle.refusal.proofs.Laws.{passed}
use Rattle.entries.specs.Layout.{Shaped, count, entries_refusal}
use Rattle.entries.specs.Finds.{add_entry}
use Rattle.entries.proofs.Meaning.{taken_shaped}
use Rattle.table_calls.specs.Calls.{Told, told, entry_of, outcome_told, entry_call}
use Rattle.table_calls.proofs.Laid.{entries_refused, entries_taken, address_refused, address_taken, bit_from, laid_entry}
use Rattle.table_calls.proofs.entries_call.pump_find_or_add_entry.Goals as goal

-- what follows the entries' test
abbrev after : List ℕ → ℕ → ℕ → Address → List ℕ → Told
after t secs nanos a mac = pick (not (eqb (refusal a) 0)) (told 19 t) (outcome_told (add_entry t (count t) (entry_of secs nanos a mac)))

pub returns-in-Err : goal.returns-in-Err
unfolding entry_call
returns-in-Err c =
    let a = c.args in
    let t = c.args.table.now in
    entries_refused t _ c.entries_refusal.ensures (after t a.secs a.nanos (of_bytes a.kind a.bytes.now a.port) a.mac.now) c.in-Err.refusal _ c.in-Err.is c.number.ensures

pub returns-in-Err-refusal : goal.returns-in-Err-refusal
unfolding entry_call
returns-in-Err-refusal c =
    let a = c.args in
    let t = c.args.table.now in
    let b : Address = of_bytes a.kind a.bytes.now a.port in
    address_refused _ b c.new-address.ensures _ c.refusal.ensures t (outcome_told (add_entry t (count t) (entry_of a.secs a.nanos b a.mac.now))) c.in-Err-refusal.refusal _ c.in-Err-refusal.is c.number-in-Err-refusal.ensures
    ∙ entries_taken t _ c.entries_refusal.ensures (after t a.secs a.nanos b a.mac.now) c.in_default.field-0 c.in_default.is

pub find_or_add_connect_token_entry-requires : goal.find_or_add_connect_token_entry-requires
find_or_add_connect_token_entry-requires c =
    let t = c.args.table.now in
    subst (Shaped t) (sym c.count_entries-k.ensures) (taken_shaped t (sym (passed (entries_refusal t) _ c.entries_refusal.ensures c.in_default.field-0 c.in_default.is)))

pub returns : goal.returns
unfolding entry_call
returns c =
    let a = c.args in
    let t = c.args.table.now in
    let b : Address = of_bytes a.kind a.bytes.now a.port in
    let made = c.new-address.ensures in
    laid_entry t _ (count t) c.count_entries-k.ensures a.secs a.nanos _ b made a.mac.now _ _ c.find_or_add_connect_token_entry.ensures _ (c.from.ensures ∙ bit_from c.find_or_add_connect_token_entry.result)
    ∙ address_taken _ b made _ c.refusal.ensures t (outcome_told (add_entry t (count t) (entry_of a.secs a.nanos b a.mac.now))) c.in_default-refusal.field-0 c.in_default-refusal.is
    ∙ entries_taken t _ c.entries_refusal.ensures (after t a.secs a.nanos b a.mac.now) c.in_default.field-0 c.in_default.is
