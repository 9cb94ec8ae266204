-- The two fields of what the prefix byte says.
use mathlib.Core.Path.{ap}
use mathlib.Core.List.{[], ◌∷◌}
use Rattle.prefix.specs.declared.Prefix.{Prefix}
use Rattle.calls.proofs.heads.pump_decode_prefix.Goals as goal

pub returns : goal.returns
returns c = ap (λ (p : Prefix). p.kind ∷ p.count ∷ []) c.decode_prefix-prefix.ensures
