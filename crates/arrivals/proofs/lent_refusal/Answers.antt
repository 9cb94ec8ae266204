-- By the output's length, and then by the address.
use mathlib.Core.Path.{refl, ap, ◌∙◌}
use native.Mathlib.Omega.{arith}
use Rattle.refusal.specs.Verdicts.{verdict}
use Rattle.refusal.proofs.Laws.{refuses_as}
use Rattle.arrivals.proofs.Ways.{lent_narrow, lent_wide}
use Rattle.arrivals.proofs.lent_refusal.Goals as goal

pub returns-then-out-lt-NETCODE_MAX_PACKET_BYTES : goal.returns-then-out-lt-NETCODE_MAX_PACKET_BYTES
returns-then-out-lt-NETCODE_MAX_PACKET_BYTES c =
    let a = c.args in
    refuses_as _ 14 (λ z. omega arith) (lent_narrow a.addr a.out c.if-out-lt-NETCODE_MAX_PACKET_BYTES.true)

pub returns : goal.returns
returns c =
    let a = c.args in
    c.refusal.ensures ∙ ap verdict (lent_wide a.addr a.out c.if-out-lt-NETCODE_MAX_PACKET_BYTES.false _ refl)
