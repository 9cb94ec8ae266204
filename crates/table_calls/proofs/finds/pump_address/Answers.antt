-- The address's test, and then its words.
use mathlib.Core.Path.{ap, ◌∙◌}
use mathlib.Core.List.{[], ◌∷◌}
use Prim.Native.Nat.{ℕ}
use Rattle.addresses.specs.declared.Address.{Address}
use Rattle.addresses.specs.Addresses.{of_bytes, words_of}
use Rattle.table_calls.specs.Calls.{told, address_call}
use Rattle.table_calls.proofs.Laid.{address_refused, address_taken}
use Rattle.table_calls.proofs.finds.pump_address.Goals as goal

pub returns-in-Err : goal.returns-in-Err
unfolding address_call
returns-in-Err c =
    let a = c.args in
    let b : Address = of_bytes a.kind a.bytes.now a.port in
    address_refused _ b c.new-addr.ensures _ c.refusal.ensures a.out.now (told 0 (words_of b)) c.in-Err.refusal _ c.in-Err.is c.number.ensures

pub returns : goal.returns
unfolding address_call
returns c =
    let a = c.args in
    let b : Address = of_bytes a.kind a.bytes.now a.port in
    let made = c.new-addr.ensures in
    ap (λ (w : ℕ). told 0 (w ∷ c.new-addr.result.low ∷ c.new-addr.result.high ∷ [])) c.first_word.ensures
    ∙ ap (λ (x : Address). told 0 (words_of x)) made
    ∙ address_taken _ b made _ c.refusal.ensures a.out.now (told 0 (words_of b)) c.in_default.field-0 c.in_default.is
