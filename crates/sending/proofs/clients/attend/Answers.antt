-- The tests, and then what the search found: the step, or nothing.
use mathlib.Core.Path.{◌≡◌, refl, sym, ap, ◌∙◌}
use Rattle.refusal.proofs.Laws.{passed, refused_as, refused_some}
use Rattle.turns.specs.declared.Turn.{Turn}
use Rattle.turns.specs.Outcomes.{refused}
use Rattle.sending.specs.Packets.{served}
use Rattle.sending.proofs.Ways.{ready_shaped, found_below, one_found, same_found}
use borrow.Author.Rules.{rules}
use Rattle.sending.proofs.clients.attend.Goals as goal

pub returns-in-Err : goal.returns-in-Err
returns-in-Err g c =
    let a = c.args in
    let e = refused_as _ _ c.ready_refusal.ensures _ c.in-Err.is in
    let n = refused_some _ _ c.ready_refusal.ensures _ c.in-Err.is in
    record {
      unready = λ k. ap (λ (t : Turn). served t a.slots.now a.out.now) (c.refused.ensures ∙ ap (refused a.server) e);
      missed = λ z f. absurd (n (e ∙ z));
      found = λ z i f. absurd (n (e ∙ z));
    }

pub find_by_id-requires : goal.find_by_id-requires
find_by_id-requires g c =
    let a = c.args in
    ready_shaped a.server a.slots.now _ (passed _ _ c.ready_refusal.ensures _ c.in_default.is) refl

pub step-requires : goal.step-requires
step-requires g c =
    let a = c.args in
    let z = ready_shaped a.server a.slots.now _ (passed _ _ c.ready_refusal.ensures _ c.in_default.is) refl in
    c.requires _ _ _ refl refl z (found_below a.slots.now a.server.set.slots a.client_id z _ c.find_by_id.ensures _ c.in-Some.is)

pub returns-in-Some : goal.returns-in-Some
returns-in-Some g c =
    let a = c.args in
    record {
      unready = λ n. absurd (n (sym (passed _ _ c.ready_refusal.ensures _ c.in_default.is)));
      missed = λ z f. absurd (one_found _ (c.find_by_id.ensures ∙ f) _ c.in-Some.is);
      found = λ z i f.
          let same : c.in-Some.i ≡ i = same_found _ _ c.in-Some.is _ (c.find_by_id.ensures ∙ f) in
          rw (sym same) (search rules);
    }

pub returns-in-None : goal.returns-in-None
returns-in-None g c =
    let a = c.args in
    record {
      unready = λ n. absurd (n (sym (passed _ _ c.ready_refusal.ensures _ c.in_default.is)));
      missed = λ z f. ap (λ (t : Turn). served t a.slots.now a.out.now) c.answered.ensures;
      found = λ z i f. absurd (one_found _ c.in-None.is i (c.find_by_id.ensures ∙ f));
    }
