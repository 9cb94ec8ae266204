-- Version, protocol and prefix fill the 22 bytes: both sides are the same list, element for element.
use mathlib.Core.Path.{ap, ◌∙◌}
use Prim.Native.Nat.{ℕ}
use mathlib.Core.List.{List}
use lib.ListN.{set}
use Rattle.serialize.specs.Runs.{splice}
use Rattle.serialize.specs.Le.{to_le}
use Rattle.prefix.specs.Sealed.{additional_data}
use Rattle.prefix.proofs.get_additional_data.Goals as goal

pub returns : goal.returns
unfolding splice to_le additional_data
returns c =
    let a = c.args in
    ap (λ (t : List ℕ). set t 21 a.prefix) (c.write_u64.ensures ∙ ap (λ (t : List ℕ). splice t 13 (to_le 8 a.protocol_id)) c.copy.ensures)
