-- A client's update and its sending away end its record exactly where they should, and the answer to the ask that they leave takes nothing back:
-- each way through their definitions, over any record and any tables.
use Rattle.std.specs.Prelude.{Option, Some, None}
use mathlib.Core.Path.{◌≡◌, refl, sym, ap, ◌∙◌}
use mathlib.Core.Bool.{Bool, true, false}
use mathlib.Core.Logic.{◌↔◌}
use Prim.Native.Nat.{ℕ}
use mathlib.Core.List.{List}
use lib.ListN.{length}
use borrow.Author.Tests.{eq-eqb}
use Rattle.serialize.specs.Choice.{pick}
use Rattle.serialize.proofs.Choice.{by_test}
use Rattle.addresses.specs.declared.Address.{Address}
use Rattle.places.specs.Layout.{used_at, address_of}
use Rattle.places.specs.Finds.{find_id}
use Rattle.places.proofs.Ways.{empty_unused}
use Rattle.places.proofs.Searches.{id_found, true_false}
use Rattle.records.specs.Records.{emptied}
use Rattle.records.proofs.Invariants.{emptied_mark}
use Rattle.server.specs.declared.NetcodeServer.{NetcodeServer}
use Rattle.server.specs.declared.Goal.{Goal}
use Rattle.server.specs.declared.Goal.TheVariants.{Sending, Ending}
use Rattle.server.specs.declared.Stage.TheVariants.{Seal}
use Rattle.server.specs.declared.Answer.TheVariants.{Refused, PacketToSend, ClientDisconnected}
use Rattle.turns.specs.Outcomes.{closed, State, came, leaves}
use Rattle.seals.specs.Waits.{sent_under}
use Rattle.seals.specs.Seals.{unsealed, sends, sealed, by_stage, seal_refusal, seals}
use Rattle.sending.specs.Packets.{ready_refusal, Served, ending_under}
use Rattle.sending.specs.Clients.{overdue, slot_updated, updated_at, ended_at, client_updated, disconnected}
use Rattle.effects.proofs.Seen.{pick_all}
use Rattle.effects.proofs.Serving.{ready_shaped}

-- ---- choices that are settled

pick_true : {A : Type 0} (x y : A) (b : Bool) → b ≡ true → pick b x y ≡ x
unfolding pick
pick_true x y b e = simp e

pick_false : {A : Type 0} (x y : A) (b : Bool) → b ≡ false → pick b x y ≡ y
unfolding pick
pick_false x y b e = simp e

-- ---- what a call leaves of the slots

-- slot i is empty, unless the answer is 14
abbrev Empties : List ℕ → ℕ → Served → Type 0
Empties slots i x = (x.turn.answer ≡ Refused 14 → ⊥) → x.slots ≡ emptied slots i

module _ (s : NetcodeServer) (id : ℕ) (slots : List ℕ) (i : ℕ) (addr : Address) (key : List ℕ) (sequence : ℕ) (out : List ℕ) where
  ending_empties : Empties slots i (ending_under s id slots i addr key sequence out)
  unfolding ending_under
  ending_empties = pick_all (Empties slots i) _ (λ _ _. refl) (λ _. pick_all (Empties slots i) _ (λ _ short. absurd (short refl)) (λ _ _. refl))

-- ---- the calls

module _ (s : NetcodeServer) (slots : List ℕ) (id : ℕ) (out : List ℕ) (ready : ready_refusal s (length slots) ≡ 0) where
  -- by what the id finds
  update_by : (x : Option ℕ) → find_id slots s.set.slots id ≡ x → client_updated s slots id out ≡ updated_at s id slots out x
  unfolding client_updated
  update_by x e = pick_true _ _ _ (eq-eqb (ready_refusal s (length slots)) 0 ready) ∙ ap (updated_at s id slots out) e

  disconnect_by : (x : Option ℕ) → find_id slots s.set.slots id ≡ x → disconnected s slots id out ≡ ended_at s id slots out x
  unfolding disconnected
  disconnect_by x e = pick_true _ _ _ (eq-eqb (ready_refusal s (length slots)) 0 ready) ∙ ap (ended_at s id slots out) e

  module _ (i : ℕ) (found : find_id slots s.set.slots id ≡ Some i) where
    -- a client sent away: its slot is empty, unless the output is too short
    pub disconnect_empties : ((disconnected s slots id out).turn.answer ≡ Refused 14 → ⊥) → (disconnected s slots id out).slots ≡ emptied slots i
    unfolding ended_at
    disconnect_empties = rw (disconnect_by (Some i) found) (ending_empties s id slots i _ _ _ out)

    -- an update of a client that is overdue: the same
    pub overdue_empties : overdue s slots i ≡ true → ((client_updated s slots id out).turn.answer ≡ Refused 14 → ⊥)
        → (client_updated s slots id out).slots ≡ emptied slots i
    unfolding updated_at slot_updated
    overdue_empties late = rw (update_by (Some i) found ∙ pick_true _ _ _ late) (ending_empties s id slots i _ _ _ out)

    -- of one that is not: the slots are as they were, a keep-alive or not
    pub not_overdue_keeps : overdue s slots i ≡ false → (client_updated s slots id out).slots ≡ slots
    unfolding updated_at slot_updated
    not_overdue_keeps early =
        ap (λ (x : Served). x.slots) (update_by (Some i) found ∙ pick_false _ _ _ early)
        ∙ pick_all (λ (x : Served). x.slots ≡ slots) _ (λ _. refl) (λ _. refl)

    -- AN UPDATE ENDS A RECORD EXACTLY WHERE IT IS OVERDUE (document 01, `update_client`: timeout over 0 and received + timeout < now)
    pub update_ends_exactly : ((client_updated s slots id out).turn.answer ≡ Refused 14 → ⊥)
        → (used_at (client_updated s slots id out).slots i ≡ false) ↔ (overdue s slots i ≡ true)
    update_ends_exactly room =
        let n = s.set.slots in
        let shape = (ready_shaped s slots ready).1 in
        let f = (id_found slots n shape id i).0 found in (
          λ gone.
              by_test (overdue s slots i)
              (λ late. late)
              (λ early. absurd (true_false f.here.0 (ap (λ (l : List ℕ). used_at l i) (sym (not_overdue_keeps early)) ∙ gone))),
          λ late. ap (λ (l : List ℕ). used_at l i) (overdue_empties late room) ∙ empty_unused (emptied slots i) i (emptied_mark slots n i shape f.below),
        )

-- ---- the answer to the ask that these calls leave

module _ (t : State) (held : List ℕ) (out sequence end : ℕ) (taken : seal_refusal t out ≡ 0) where
  -- by the goal: a yes and a no
  answer_by : (g : Goal) → t.server.ask.stage ≡ Seal g sequence end
      → (seals t true held out ≡ sealed t held out sequence end g) × (seals t false held out ≡ leaves t (unsealed t.server g))
  unfolding seals by_stage pick
  answer_by g on = (simp (eq-eqb (seal_refusal t out) 0 taken, on), simp (eq-eqb (seal_refusal t out) 0 taken, on))

  -- AN ENDING IS FINAL: whatever the host answers, both tables are as the call left them, where the slot is empty. The answer tells id and address,
  -- after a yes with the packet's end, after a no with 24 and no packet (document 01, "When the server says no": no packet comes).
  pub ending_is_final : (id : ℕ) (addr : Address) → t.server.ask.stage ≡ Seal (Ending id addr) sequence end
      → (seals t true held out ≡ leaves t (closed t.server (ClientDisconnected id addr end None)))
      × (seals t false held out ≡ leaves t (closed t.server (ClientDisconnected id addr 0 (Some 24))))
  unfolding sealed unsealed
  ending_is_final id addr on = answer_by (Ending id addr) on

  -- a payload or a keep-alive: a yes raises the slot's counter past the sequence, sets its sent time to now and gives the packet for the slot's
  -- address; a no changes nothing but that the ask is closed, and is 24
  pub sent_exactly : (i : ℕ) → t.server.ask.stage ≡ Seal (Sending i) sequence end
      → (seals t true held out
      ≡ came (closed t.server (PacketToSend (address_of t.slots t.server.set.slots i) end))
      (sent_under t.slots t.server.set.slots i sequence t.server.current_time) t.pending)
      × (seals t false held out ≡ leaves t (closed t.server (Refused 24)))
  unfolding sealed unsealed sends
  sent_exactly i on = answer_by (Sending i) on
