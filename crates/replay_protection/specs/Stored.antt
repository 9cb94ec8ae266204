-- A window of width w in a table of words: its highest at index at, then its w places. The layout is ours: document 01, "What must
-- change shape", asks for a lent table of places and leaves open how a place is laid out.
use Rattle.std.specs.Prelude.{ℕ, ◌+◌, List, ◌∷◌, get_or}
use Rattle.serialize.specs.Runs.{part, splice}
use Rattle.replay_protection.specs.Replay.{Window, window}

unfoldable pub window_at : ℕ → List ℕ → ℕ → Window
window_at w t at = window (get_or t at 0) (part t (at + 1) w)

unfoldable pub put_window : List ℕ → ℕ → Window → List ℕ
put_window t at win = splice t at (win.most ∷ win.ring)
