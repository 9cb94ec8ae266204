-- The highest and the place of the sequence decide.
use mathlib.Core.Path.{ap, ◌∙◌}
use Prim.Native.Nat.{ℕ}
use lib.ListN.{get_or}
use Rattle.refusal.specs.Verdicts.{verdict}
use Rattle.replay_protection.specs.Replay.{refusal_by}
use Rattle.replay_protection.specs.Ours.{width, window_of}
use Rattle.replay_protection.proofs.ReplayProtection.refusal.Goals as goal

pub returns : goal.returns
returns c =
    let win = window_of c.args.self in
    let s = c.args.sequence in
    c.refusal_by.ensures ∙ ap (λ (i : ℕ). verdict (refusal_by width win.most (get_or win.ring i 0) s)) c.index.ensures
