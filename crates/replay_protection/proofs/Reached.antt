-- The code's windows are those of the theorems: each call takes the window of some arrivals to that of one more, by its promise.
-- `Post` is the function's `ensures`, of its arguments a, its result x and its slices at exit e.
use mathlib.Core.Path.{◌≡◌, ap, ◌∙◌}
use mathlib.Core.List.{List, [], ◌∷◌}
use Prim.Native.Nat.{ℕ, ◌+◌, ◌≤◌}
use lib.ListN.{length}
use Rattle.replay_protection.specs.Replay.{Window, arrive}
use Rattle.replay_protection.specs.Arrivals.{run}
use Rattle.replay_protection.specs.Stored.{window_at}
use Rattle.replay_protection.specs.Ours.{width, window_of}
use Rattle.replay_protection.proofs.Stored.{arrived_loads}
use Rattle.replay_protection.proofs.ReplayProtection.new.Reads as new
use Rattle.replay_protection.proofs.ReplayProtection.advance_sequence.Reads as advance-sequence
use Rattle.replay_protection.proofs.ReplayProtection.advance_in_place.Reads as advance-in-place
use Rattle.replay_protection.proofs.table.advance_at.Reads as advance-at

pub new_reaches : (κs : _) (a : _) (x : _) (e : _) → new.Post κs a x e → window_of x ≡ run width []
unfolding run
new_reaches κs a x e p = ap window_of p

-- a window and a sequence
pub advance_sequence_reaches : (before : List ℕ) (κs : _) (a : _) (x : _) (e : _) → advance-sequence.Post κs a x e
    → window_of a.0 ≡ run width before → window_of x ≡ run width (a.1.0 ∷ before)
unfolding run
advance_sequence_reaches before κs a x e p h = ap window_of p ∙ ap (λ (win : Window). arrive width win a.1.0) h

-- the same where the window lies: what it was is read before, and what it is at the exit
pub advance_in_place_reaches : (before : List ℕ) (κs : _) (a : _) (x : _) (e : _) → advance-in-place.Post κs a x e
    → window_of a.0.now ≡ run width before → window_of e.0.now ≡ run width (a.1.0 ∷ before)
unfolding run
advance_in_place_reaches before κs a x e p h = ap window_of p ∙ ap (λ (win : Window). arrive width win a.1.0) h

-- a table, an index and a sequence
pub advance_at_reaches : (before : List ℕ) (κs : _) (a : _) (x : _) (e : _) → advance-at.Post κs a x e
    → a.1.0 + 1 + width ≤ length a.0.now → window_at width a.0.now a.1.0 ≡ run width before
    → window_at width e.0.now a.1.0 ≡ run width (a.1.1.0 ∷ before)
unfolding run
advance_at_reaches before κs a x e p fits h =
    ap (λ (t : List ℕ). window_at width t a.1.0) p
    ∙ arrived_loads width a.0.now a.1.0 a.1.1.0 fits
    ∙ ap (λ (win : Window). arrive width win a.1.1.0) h
