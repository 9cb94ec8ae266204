-- Three words each and as many as at set-up is three times as many words.
use Rattle.std.proofs.Common.{◌≡◌, ◌*◌, arith}
use borrow.Author.Tests.{eq-eqb, ne_eqb}
use Rattle.serialize.specs.Choice.{pick}
use Rattle.refusal.specs.Verdicts.{verdict}
use Rattle.server.specs.Ready.{list_refusal}
use Rattle.server.proofs.ready.list_refusal.Goals as goal
use Rattle.server.proofs.ready.list_refusal.Goals.{then-addresses-ne0-via-then-addresses-ne0, then-addresses-ne0-via-else-addresses-ne0+then-addresses-set}

pub returns-then-addresses-ne0 : goal.returns-then-addresses-ne0
unfolding list_refusal pick verdict
returns-then-addresses-ne0 c =
    let a = c.args in
    elim c.then-addresses-ne0.branch [
      | then-addresses-ne0-via-then-addresses-ne0 w ↦ simp (ne_eqb a.addresses (a.set.addresses * 3) (λ e. w.if-addresses-ne0.true (omega (arith, e))))
      | then-addresses-ne0-via-else-addresses-ne0+then-addresses-set w ↦
          simp (ne_eqb a.addresses (a.set.addresses * 3) (λ e. w.if-addresses-set.true (omega (arith, e))))
    ]

pub returns : goal.returns
unfolding list_refusal pick verdict
returns c =
    let e : c.args.addresses ≡ c.args.set.addresses * 3 = omega (arith, c.if-addresses-ne0.false, c.if-addresses-set.false) in
    simp (eq-eqb _ _ e)
