-- The first that refuses decides.
use Rattle.std.proofs.Common.{rules}
use Rattle.server.specs.Ready.{entries_refusal, list_refusal, before, both_refusal}
use Rattle.server.proofs.Verdicts.{stops, goes_on}
use Rattle.server.proofs.ready.all_tables_refusal.Goals as goal

pub returns-in_err-both_tables_refusal : goal.returns-in_err-both_tables_refusal
returns-in_err-both_tables_refusal c =
    let a = c.args in
    stops (both_refusal a.set a.slots a.pending) (before (entries_refusal a.set a.entries) (list_refusal a.set a.addresses)) _ c.both_tables_refusal.ensures
    _ c.in_err-both_tables_refusal.was _ (search rules)

pub returns-in_err-entries_refusal : goal.returns-in_err-entries_refusal
returns-in_err-entries_refusal c =
    let a = c.args in
    goes_on (both_refusal a.set a.slots a.pending) (before (entries_refusal a.set a.entries) (list_refusal a.set a.addresses)) _ c.both_tables_refusal.ensures
    _ c.in_ok-both_tables_refusal.was _
    (stops (entries_refusal a.set a.entries) (list_refusal a.set a.addresses) _ c.entries_refusal.ensures _ c.in_err-entries_refusal.was _ (search rules))

pub returns : goal.returns
returns c =
    let a = c.args in
    goes_on (both_refusal a.set a.slots a.pending) (before (entries_refusal a.set a.entries) (list_refusal a.set a.addresses)) _ c.both_tables_refusal.ensures
    _ c.in_ok-both_tables_refusal.was _
    (goes_on (entries_refusal a.set a.entries) (list_refusal a.set a.addresses) _ c.entries_refusal.ensures _ c.in_ok-entries_refusal.was _ c.list_refusal.ensures)
