-- The test of the tables is what the test of the ask is given.
use Rattle.opens.proofs.Ways.{tables_tested}
use Rattle.opens.proofs.answer_refusal.Goals as goal

pub returns : goal.returns
returns c =
    let a = c.args in
    tables_tested a.server a.slots.now a.pending.now a.datagram a.out _ c.both_tables_refusal-tables.ensures _
    c.open_refusal.ensures
