-- The two tests are the definition's.
use Rattle.server.proofs.Verdicts.{answer_tested}
use Rattle.seals.proofs.seal_refusal.Goals as goal

pub returns : goal.returns
returns c = answer_tested _ _ 3 _ _ _ _ _ c.both_tables_refusal-tables.ensures c.answer_refusal.ensures
