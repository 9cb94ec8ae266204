-- A fresh window is what the definition says, by computing.
use mathlib.Core.Path.{refl}
use Rattle.replay_protection.specs.Replay.{fresh}
use Rattle.replay_protection.proofs.ReplayProtection.new.Goals as goal

pub returns : goal.returns
unfolding fresh
returns c = refl
