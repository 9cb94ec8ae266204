-- `update_client` and `disconnect` (document 01, "How a connection lives", `update_client`: timeout over 0 and received + timeout < now: disconnect;
-- otherwise sent + 250 ms <= now: keep-alive; sums are exact. "When the server says no": 16, 23; an unknown id is nothing).
use Rattle.std.specs.Prelude.{ℕ, ◌%◌, ◌^◌, ◌≡◌, ◌<◌, Bool, ◌&&◌, List, [], length, eqb, ltb, Option, Some, None}
use Rattle.std.specs.Borrow.{MutBor}
use Rattle.serialize.specs.Choice.{pick}
use Rattle.times.specs.declared.Time.{Time}
use Rattle.times.specs.Times.{past, due}
use Rattle.places.specs.Layout.{Shaped, word_of, received_at, sent_at, timeout_at}
use Rattle.places.specs.Finds.{find_id}
use Rattle.records.specs.Records.{time_at}
use Rattle.server.specs.declared.NetcodeServer.{NetcodeServer}
use Rattle.server.specs.declared.Answer.TheVariants.{Nothing}
use Rattle.turns.specs.declared.Turn.{Turn}
use Rattle.turns.specs.Outcomes.{answered, refused}
use Rattle.turns.specs.Packets.{keep_alive, Spoken}
use Rattle.sending.specs.Packets.{ready_refusal, sending, Served, served, ending}

-- ---- when

-- a timeout over 0: of the 32 bits of an i32 those from 2^31 on are below 0
unfoldable pub over_zero : ℕ → Bool
over_zero timeout = ltb 0 timeout && ltb timeout (2 ^ 31)

-- timeout over 0 and received + timeout < now
unfoldable pub overdue_at : ℕ → Time → Time → Bool
overdue_at timeout received now = over_zero timeout && past received timeout now

-- the timeout of slot i, its 32 bits; whether slot i is overdue; whether its next packet is due
abbrev pub timeout_of : NetcodeServer → List ℕ → ℕ → ℕ
timeout_of s slots i = word_of slots (timeout_at s.set.slots i) % 4294967296

abbrev pub overdue : NetcodeServer → List ℕ → ℕ → Bool
overdue s slots i = overdue_at (timeout_of s slots i) (time_at slots (received_at s.set.slots i)) s.current_time

abbrev pub silent : NetcodeServer → List ℕ → ℕ → Bool
silent s slots i = due (time_at slots (sent_at s.set.slots i)) s.current_time

-- ---- what

-- the slots as they were
abbrev pub keeping : List ℕ → Spoken → Served
keeping slots x = served x.turn slots x.out

-- nothing to do
abbrev pub idly : NetcodeServer → List ℕ → List ℕ → Served
idly s slots out = served (answered s Nothing) slots out

unfoldable pub slot_updated : NetcodeServer → ℕ → List ℕ → ℕ → List ℕ → Served
slot_updated s id slots i out =
    pick (overdue s slots i) (ending s id slots i out)
    (pick (silent s slots i) (keeping slots (sending s slots i (keep_alive s.max_clients i) [] out))
    (idly s slots out))

-- by the lowest slot with the id
unfoldable pub updated_at : NetcodeServer → ℕ → List ℕ → List ℕ → Option ℕ → Served
updated_at s id slots out (Some i) = slot_updated s id slots i out
updated_at s id slots out None = idly s slots out

unfoldable pub ended_at : NetcodeServer → ℕ → List ℕ → List ℕ → Option ℕ → Served
ended_at s id slots out (Some i) = ending s id slots i out
ended_at s id slots out None = idly s slots out

-- ---- the calls

unfoldable pub client_updated : NetcodeServer → List ℕ → ℕ → List ℕ → Served
client_updated s slots id out =
    pick (eqb (ready_refusal s (length slots)) 0) (updated_at s id slots out (find_id slots s.set.slots id))
    (served (refused s (ready_refusal s (length slots))) slots out)

unfoldable pub disconnected : NetcodeServer → List ℕ → ℕ → List ℕ → Served
disconnected s slots id out =
    pick (eqb (ready_refusal s (length slots)) 0) (ended_at s id slots out (find_id slots s.set.slots id))
    (served (refused s (ready_refusal s (length slots))) slots out)

-- either of the two, of a slot and as a whole: sent away, or updated
abbrev pub slot_attended : NetcodeServer → ℕ → List ℕ → ℕ → Bool → List ℕ → Served
slot_attended s id slots i away out = pick away (ending s id slots i out) (slot_updated s id slots i out)

abbrev pub attended : NetcodeServer → List ℕ → ℕ → Bool → List ℕ → Served
attended s slots id away out = pick away (disconnected s slots id out) (client_updated s slots id out)

-- ---- a step that a call takes of the lowest slot with the id. `pre` says when it may be taken, `post` what it may come to, of the slots and the
-- output that it is lent.

abbrev pub Askable : (NetcodeServer → ℕ → MutBor (List ℕ) → ℕ → MutBor (List ℕ) → Type 0) → NetcodeServer → ℕ → List ℕ → List ℕ → Type 0
Askable pre s id slots out =
    (i : ℕ) (t o : MutBor (List ℕ)) → t.now ≡ slots → o.now ≡ out → Shaped slots s.set.slots → i < s.set.slots → pre s id t i o

-- the step of slot i came to r, and left slots and output so
pub record Stepped (post : NetcodeServer → ℕ → MutBor (List ℕ) → ℕ → MutBor (List ℕ) → Turn → MutBor (List ℕ) → MutBor (List ℕ) → Type 0)
    (s : NetcodeServer) (id : ℕ) (slots : List ℕ) (i : ℕ) (out : List ℕ) (r : Turn) (slots' out' : List ℕ) : Type 0 where
  pub lent_slots : MutBor (List ℕ)
  pub lent_out : MutBor (List ℕ)
  pub left_slots : MutBor (List ℕ)
  pub left_out : MutBor (List ℕ)
  pub slots_before : lent_slots.now ≡ slots
  pub out_before : lent_out.now ≡ out
  pub slots_after : left_slots.now ≡ slots'
  pub out_after : left_out.now ≡ out'
  pub met : post s id lent_slots i lent_out r left_slots left_out

-- 16, 23; nothing for an unknown id; else the step
pub record Attends (post : NetcodeServer → ℕ → MutBor (List ℕ) → ℕ → MutBor (List ℕ) → Turn → MutBor (List ℕ) → MutBor (List ℕ) → Type 0)
    (s : NetcodeServer) (id : ℕ) (slots out : List ℕ) (r : Turn) (slots' out' : List ℕ) : Type 0 where
  pub unready : (ready_refusal s (length slots) ≡ 0 → ⊥) → served r slots' out' ≡ served (refused s (ready_refusal s (length slots))) slots out
  pub missed : ready_refusal s (length slots) ≡ 0 → find_id slots s.set.slots id ≡ None → served r slots' out' ≡ idly s slots out
  pub found : ready_refusal s (length slots) ≡ 0 → (i : ℕ) → find_id slots s.set.slots id ≡ Some i → Stepped post s id slots i out r slots' out'
