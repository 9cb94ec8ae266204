-- The id is written, and then the user data.
use mathlib.Core.Path.{ap, ◌∙◌}
use Prim.Native.Nat.{ℕ}
use mathlib.Core.List.{List}
use Rattle.serialize.specs.Runs.{part, splice}
use Rattle.server.specs.Held.{held_challenge}
use Rattle.server.proofs.held.hold_challenge.Goals as goal

pub returns : goal.returns
unfolding held_challenge
returns c = c.copy.ensures ∙ ap (λ (t : List ℕ). splice t 84 (part c.args.user_data.now 0 256)) c.write_u64.ensures
