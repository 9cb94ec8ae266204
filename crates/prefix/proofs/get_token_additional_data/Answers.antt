-- Version, protocol and expiry fill the 29 bytes: both sides are the same list, element for element.
use mathlib.Core.Path.{ap, ◌∙◌}
use Prim.Native.Nat.{ℕ}
use mathlib.Core.List.{List}
use Rattle.serialize.specs.Runs.{splice}
use Rattle.serialize.specs.Le.{to_le}
use Rattle.prefix.specs.Sealed.{token_additional_data}
use Rattle.prefix.proofs.get_token_additional_data.Goals as goal

pub returns : goal.returns
unfolding splice to_le token_additional_data
returns c =
    let a = c.args in
    c.write_u64-2.ensures
    ∙ ap (λ (t : List ℕ). splice t 21 (to_le 8 a.expire_timestamp)) (c.write_u64.ensures ∙ ap (λ (t : List ℕ). splice t 13 (to_le 8 a.protocol_id)) c.copy.ensures)
