-- Each way out is a case of the definition.
use mathlib.Core.Path.{sym, ◌∙◌}
use borrow.Author.Tests.{eq-eqb, ne_eqb}
use Rattle.serialize.specs.Choice.{pick}
use Rattle.refusal.proofs.Laws.{passed, refused_as, refused_some}
use Rattle.decode.specs.Decodes.{decode_at}
use Rattle.asks.proofs.Lent.{told}
use Rattle.decode.proofs.reading.decode_at.Goals as goal

pub returns-in-Err : goal.returns-in-Err
unfolding decode_at pick
returns-in-Err c =
    let e = refused_as _ _ c.guard_refusal.ensures _ c.in-Err.is in
    c.ended.ensures ∙ simp (e, ne_eqb _ 0 (λ z. refused_some _ _ c.guard_refusal.ensures _ c.in-Err.is (e ∙ z)))

pub returns-then-past : goal.returns-then-past
unfolding decode_at pick
returns-then-past c = c.ended-then-past.ensures ∙ simp (eq-eqb _ 0 (sym (passed _ _ c.guard_refusal.ensures tt c.in_default.is)), told c.past.ensures c.if-past.true)

pub returns : goal.returns
unfolding decode_at pick
returns c = simp (c.packet_ask.ensures, eq-eqb _ 0 (sym (passed _ _ c.guard_refusal.ensures tt c.in_default.is)), told c.past.ensures c.if-past.false)
