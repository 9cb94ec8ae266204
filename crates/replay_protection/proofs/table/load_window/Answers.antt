-- The highest is read, and the places are copied over the whole of a local array.
use mathlib.Core.Path.{◌≡◌, ap, ◌∙◌}
use Prim.Native.Nat.{ℕ, ◌+◌}
use native.Mathlib.Omega.{arith}
use mathlib.Core.List.{List}
use lib.ListN.{length, get_or}
use Rattle.serialize.specs.Runs.{part}
use Rattle.serialize.proofs.Lists.{length_part, splice_whole}
use Rattle.replay_protection.specs.Replay.{window}
use Rattle.replay_protection.specs.Stored.{window_at}
use Rattle.replay_protection.specs.Ours.{width, protection}
use Rattle.replay_protection.proofs.table.load_window.Goals as goal

pub returns : goal.returns
unfolding window_at
returns c =
    let t = c.args.t.now in
    let at = c.args.at in
    let k : length (part t (at + 1) width) ≡ width = length_part t (at + 1) width (omega (arith, c.requires)) in
    ap (λ (r : List ℕ). protection (window (get_or t at 0) r)) (c.copy.ensures ∙ splice_whole _ _ k)
