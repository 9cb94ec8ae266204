-- The two ways out of an arrival, where the window lies.
use mathlib.Core.Path.{refl, sym, ◌∙◌}
use native.Mathlib.Omega.{arith}
use lib.ListN.{length-set}
use Rattle.refusal.proofs.Laws.{is_err_some, is_err_none}
use Rattle.replay_protection.specs.Ours.{width}
use Rattle.replay_protection.proofs.Stored.{kept_here, moved_here}
use Rattle.replay_protection.proofs.table.advance_at.Goals as goal

pub returns-then-is_err : goal.returns-then-is_err
returns-then-is_err c =
    kept_here width c.args.t.now c.args.at c.requires (omega arith) c.args.sequence c.index.ensures refl
    (is_err_some _ c.refusal_by.result c.refusal_by.ensures (sym c.is_err.ensures.value ∙ c.if-is_err.true))

pub bounds-t-place-2 : goal.bounds-t-place-2
bounds-t-place-2 c = simp length-set (omega arith)

pub returns : goal.returns
returns c =
    moved_here width c.args.t.now c.args.at c.requires (omega arith) c.args.sequence c.index.ensures refl
    (is_err_none _ c.refusal_by.result c.refusal_by.ensures (sym c.is_err.ensures.value ∙ c.if-is_err.false)) c.max.ensures
