-- The replay window over any width w: what it refuses and what it becomes (document 01, "The window"; the standard, "Replay
-- protection"). The test is the Rust's, of any words; what it means for a window that grew from a fresh one, "accepted before, or
-- its sum with w is at most the highest", is proved in proofs/Exactly.antt.
use Rattle.std.specs.Prelude.{ℕ, ◌+◌, ◌%◌, ◌^◌, max, Bool, not, ◌&&◌, ◌||◌, List, get_or, set, replicate, eqb, leb}
use Rattle.serialize.specs.Choice.{pick}

-- the mark of a place that holds no sequence, 2^64 - 1: no sequence that is accepted reaches it
abbrev pub EMPTY : ℕ
EMPTY = 0xffff_ffff_ffff_ffff

-- a window: the highest sequence accepted, and w places; the place of a sequence is its remainder by w
pub record Window : Type 0 where
  pub most : ℕ
  pub ring : List ℕ

abbrev pub window : ℕ → List ℕ → Window
window most ring = record { most = most; ring = ring }

-- a fresh window has accepted nothing and its highest is 0
unfoldable pub fresh : ℕ → Window
fresh w = window 0 (replicate w EMPTY)

-- what the place of s holds
abbrev pub placed : ℕ → Window → ℕ → ℕ
placed w win s = get_or win.ring (s % w) 0

-- s plus w is at most the highest
unfoldable pub behind : ℕ → ℕ → ℕ → Bool
behind w most s = leb (s + w) most

-- a place that holds a sequence has s or a later one
unfoldable pub repeated : ℕ → ℕ → Bool
repeated held s = not (eqb held EMPTY) && leb s held

-- the window's test: one or the other (order 6 will give them two numbers)
unfoldable pub spent : ℕ → ℕ → ℕ → ℕ → Bool
spent w most held s = behind w most s || repeated held s

-- the number that s is refused by, in the order of document 01's table: 5 from 2^64 - w on, 6 by the test; 0 where it is accepted
unfoldable pub refusal_by : ℕ → ℕ → ℕ → ℕ → ℕ
refusal_by w most held s = pick (leb (2 ^ 64) (s + w)) 5 (pick (spent w most held s) 6 0)

-- the test, the number and the acceptance, of a window: its highest and the place of s decide
abbrev pub refuses : ℕ → Window → ℕ → Bool
refuses w win s = spent w win.most (placed w win s) s

abbrev pub refusal : ℕ → Window → ℕ → ℕ
refusal w win s = refusal_by w win.most (placed w win s) s

abbrev pub accepts : ℕ → Window → ℕ → Bool
accepts w win s = eqb (refusal w win s) 0

-- the window with s accepted
unfoldable pub advance : ℕ → Window → ℕ → Window
advance w win s = window (max win.most s) (set win.ring (s % w) s)

-- the window after s arrived: advancing by one that would get 5 or 6 changes nothing
unfoldable pub arrive : ℕ → Window → ℕ → Window
arrive w win s = pick (accepts w win s) (advance w win s) win
