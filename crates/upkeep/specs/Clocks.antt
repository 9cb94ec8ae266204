-- The clock (document 01, "How a connection lives": `update` adds, then drops pending where seconds > expiry; "When the server says no": 16
-- comes first, 23 follows it, 20 where the clock would pass its range).
use Rattle.std.specs.Prelude.{ℕ, zero, suc, ◌&&◌, List, [], ◌∷◌, ◌++◌, length, get_or, eqb, ltb, Result, Ok, Err}
use Rattle.serialize.specs.Choice.{pick}
use Rattle.serialize.specs.Runs.{splice}
use Rattle.times.specs.declared.Time.{Time}
use Rattle.times.specs.Times.{added}
use Rattle.places.specs.Layout.{used_at, word_of, expiry_at}
use Rattle.server.specs.declared.NetcodeServer.{NetcodeServer}
use Rattle.server.specs.declared.Step.{Step}
use Rattle.server.specs.declared.Answer.TheVariants.{Nothing}
use Rattle.server.specs.State.{with_clock, step, refused}
use Rattle.server.specs.Ready.{call_refusal, pending_refusal}

-- the mark that place i keeps: 0 where it is used and the seconds are past its expiry
unfoldable pub mark_left : List ℕ → ℕ → ℕ → ℕ → ℕ
mark_left t n secs i = pick (used_at t i && ltb (word_of t (expiry_at n i)) secs) 0 (get_or t i 0)

-- those of the first k places
unfoldable pub marks_left : List ℕ → ℕ → ℕ → ℕ → List ℕ
marks_left t n secs zero = []
marks_left t n secs (suc k) = marks_left t n secs k ++ (mark_left t n secs k ∷ [])

-- a table of n places without those that have expired: its marks are new, and nothing else
abbrev pub dropped : List ℕ → ℕ → ℕ → List ℕ
dropped t n secs = splice t 0 (marks_left t n secs n)

-- what a call that is lent the pending table comes to, and what it leaves there
pub record Outcome : Type 0 where
  pub result : Step
  pub pending : List ℕ

abbrev pub done : Step → List ℕ → Outcome
done result pending = record { result = result; pending = pending }

-- the clock as it was moved on, or 20
unfoldable pub by_clock : NetcodeServer → List ℕ → Result Time ℕ → Outcome
by_clock s pending (Ok c) = done (step (with_clock s c) Nothing) (dropped pending s.set.pending c.secs)
by_clock s pending (Err n) = done (refused s n) pending

abbrev pub update_refusal : NetcodeServer → List ℕ → ℕ
update_refusal s pending = call_refusal s.ask (pending_refusal s.set (length pending))

unfoldable pub updated : NetcodeServer → List ℕ → Time → Outcome
updated s pending duration =
    pick (eqb (update_refusal s pending) 0) (by_clock s pending (added s.current_time duration)) (done (refused s (update_refusal s pending)) pending)
