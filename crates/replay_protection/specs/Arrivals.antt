-- What a fresh window becomes by a list of arrivals, and what it accepted of them (document 01, "The window" and demand 3). In
-- such a list the newest arrival comes first.
use Rattle.std.specs.Prelude.{ℕ, ◌+◌, ◌^◌, ◌≤◌, ◌<◌, max, ◌≡◌, ◌⊎◌}
use mathlib.Core.List.{List, [], ◌∷◌, ◌++◌, Memᴰ as Member}
use Rattle.serialize.specs.Choice.{pick}
use Rattle.replay_protection.specs.Replay.{Window, fresh, accepts, arrive}

-- the window of width w after the arrivals
unfoldable pub run : ℕ → List ℕ → Window
run w [] = fresh w
run w (s ∷ before) = arrive w (run w before) s

-- those that were accepted, each by the window reached so far
unfoldable pub accepted : ℕ → List ℕ → List ℕ
accepted w [] = []
accepted w (s ∷ before) = pick (accepts w (run w before) s) (s ∷ accepted w before) (accepted w before)

-- the highest of some sequences, and 0 where there are none
unfoldable pub highest : List ℕ → ℕ
highest [] = 0
highest (s ∷ before) = max (highest before) s

-- s is new: not among the accepted, and less than w behind their highest
abbrev pub New : ℕ → List ℕ → ℕ → Type 0
New w acc s = (Member s acc → ⊥) × (highest acc < s + w)

-- s is past: accepted before, or s plus w is at most the highest
abbrev pub Past : ℕ → List ℕ → ℕ → Type 0
Past w acc s = Member s acc ⊎ (s + w ≤ highest acc)

-- s is below 2^64 - w, and arrives at least once while less than w behind the highest accepted by then
pub record InTime (w : ℕ) (arrivals : List ℕ) (s : ℕ) : Type 0 where
  pub later : List ℕ
  pub before : List ℕ
  pub split : arrivals ≡ later ++ s ∷ before
  pub near : highest (accepted w before) < s + w
  pub below : s + w < 2 ^ 64
