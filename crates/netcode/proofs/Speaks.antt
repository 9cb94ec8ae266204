-- The short ways of a sent payload and of a client that nothing is due for: each comes to what the general way comes to.
use Rattle.std.specs.Prelude.{Option, Some, None}
use mathlib.Core.Path.{◌≡◌, refl, sym, ap, ap₂, subst, ◌∙◌}
use mathlib.Core.Bool.{Bool, false, not}
use Prim.Native.Nat.{ℕ, ◌+◌, ◌-◌, ◌%◌, ◌^◌, ◌≤◌, ◌<◌}
use native.Mathlib.Omega.{arith}
use mathlib.Core.List.{List, [], ◌∷◌}
use lib.ListN.{length, get_or, set}
use borrow.Author.Tests.{eq-eqb, ne_eqb, lt-leb, le-ltb}
use Rattle.serialize.specs.Choice.{pick}
use Rattle.prefix.specs.Head.{fewest}
use Rattle.bodies.specs.declared.PacketType.TheVariants as kind
use Rattle.bodies.specs.declared.Packet.TheVariants.{Payload}
use Rattle.encode.specs.Encodes.{need}
use Rattle.times.specs.declared.Time.{Time}
use Rattle.times.specs.Times.{time, past, due}
use Rattle.addresses.specs.declared.Address.{Address}
use Rattle.places.specs.Layout.{Shaped, word_of, sequence_at, send_key_at, received_at, sent_at, timeout_at, address_of}
use Rattle.places.specs.Finds.{find_id}
use Rattle.records.specs.Records.{bytes_at, time_at, put_time}
use Rattle.server.specs.declared.SetUp.{SetUp}
use Rattle.server.specs.declared.Ask.{Ask}
use Rattle.server.specs.declared.Goal.TheVariants.{Sending}
use Rattle.server.specs.declared.Stage.{Stage}
use Rattle.server.specs.declared.Stage.TheVariants.{Idle, Seal}
use Rattle.server.specs.declared.Answer.TheVariants as said
use Rattle.server.specs.State.{server_of, with_ask, counted, opened}
use Rattle.server.specs.Asking.{asked, no_ask}
use Rattle.server.specs.Ready.{slots_refusal, both_refusal, kind_of, goal_misfits, overrun, seal_misfits, misfits, unfit, answer_refusal}
use Rattle.server.proofs.Inversions.{slots_shaped, both_shaped, idle_passes}
use Rattle.turns.specs.Outcomes.{asking, closed, answered, state, came}
use Rattle.turns.specs.Packets.{seal_ask_with, seal_out_with, Sealing, sealing}
use Rattle.seals.specs.Seals.{sends, seal_refusal, seals}
use Rattle.seals.proofs.Ways.{sending_sealed, host_grants, seals_answers}
use Rattle.sending.specs.Packets.{ready_refusal, generated}
use Rattle.sending.specs.Clients.{overdue_at, client_updated, idly}
use Rattle.sending.proofs.Ways.{packet_sized, sending_asks, payload_passes, found_below, generate_found, never_at_0, never_below_0, overdue_by_past, slot_rests, attend_found, attend_missed}
use Rattle.netcode.specs.Laid.{set_up_in, goal_in, stage_in, record_in, stage_words, goal_words, record_words}
use Rattle.netcode.specs.Told.{answer_words, ask_bytes, Desk, desk}
use Rattle.netcode.specs.Calls.{yes?, turn_on, moved, moved_as, Spoke, spoke, spoke_as, attended, attended_as}
use Rattle.netcode.specs.Quick.{step_words, no_step}
use Rattle.netcode.specs.Speaking.{counter_in, Room, Sendable, Sends, payload_sent, SealsSent, Sent, slot_sent, Noted, noted, sent_noted, Rests, Quiet, nothing_due}

-- ---- the step in the record's words

module _ (w : List ℕ) where
  pub stage_idle : get_or w 11 0 ≡ 0 → stage_in w ≡ Idle
  unfolding stage_in pick
  stage_idle h = simp (eq-eqb (get_or w 11 0) 0 h)

  pub stage_sending : get_or w 11 0 ≡ 8 → stage_in w ≡ Seal (Sending (get_or w 23 0)) (get_or w 25 0) (get_or w 26 0)
  unfolding stage_in goal_in pick
  stage_sending h = simp h

  sending_laid : (i sequence end out : ℕ)
      → step_words w 8 0 out (0 ∷ i ∷ 0 ∷ sequence ∷ end ∷ 0 ∷ 0 ∷ 0 ∷ 0 ∷ 0 ∷ 0 ∷ 0 ∷ [])
      ≡ record_words w (with_ask (record_in w) (opened (Seal (Sending i) sequence end) 0 out))
  unfolding step_words record_words with_ask record_in stage_words goal_words
  sending_laid i sequence end out = refl

  quiet_laid : (datagram out : ℕ) → step_words w 0 datagram out no_step ≡ record_words w (with_ask (record_in w) (opened Idle datagram out))
  unfolding step_words record_words with_ask record_in stage_words goal_words
  quiet_laid datagram out = refl

  -- the record with the step that it has
  idle_again : get_or w 11 0 ≡ 0 → with_ask (record_in w) (opened Idle (get_or w 12 0) (get_or w 13 0)) ≡ record_in w
  unfolding with_ask record_in
  idle_again h =
      ap (λ (x : Stage). server_of (set_up_in w) (get_or w 6 0) (time (get_or w 7 0) (get_or w 8 0)) (counted (get_or w 9 0) (get_or w 10 0)) (opened x (get_or w 12 0) (get_or w 13 0)))
      (sym (stage_idle h))

-- ---- slots that fit

module _ (w : List ℕ) (slots : List ℕ) where
  pub fitting_shaped : slots_refusal (set_up_in w) (length slots) ≡ 0 → Shaped slots (get_or w 0 0)
  unfolding set_up_in
  fitting_shaped h = slots_shaped (set_up_in w) slots h

  ready : get_or w 11 0 ≡ 0 → slots_refusal (set_up_in w) (length slots) ≡ 0 → ready_refusal (record_in w) (length slots) ≡ 0
  unfolding record_in
  ready none fits = idle_passes (record_in w).ask (slots_refusal (set_up_in w) (length slots)) (stage_idle w none) ∙ fits

-- ---- a payload that can be sent

-- x is slot i's counter as it was read, b what was tested against the output
module _ (slots : List ℕ) (n i payload out x : ℕ) (read : x ≡ counter_in slots n i) where
  pub room_found : (x ≡ 2 ^ 64 - 1 → ⊥) → (f : ℕ) → f ≡ fewest x → 1 + f + payload + 16 ≤ out → Room slots n i payload out
  room_found more f e h =
      let s = packet_sized kind.Payload payload (counter_in slots n i) refl in
      let g : f ≡ fewest (counter_in slots n i) = e ∙ ap fewest read in
      record { more = λ z. more (read ∙ z); room = omega arith }

  -- what is needed under the counter as it was read
  pub need_read : need kind.Payload payload (counter_in slots n i) ≤ out → need kind.Payload payload x ≤ out
  need_read h = subst (λ (y : ℕ). need kind.Payload payload y ≤ out) (sym read) h

module _ (w : List ℕ) (id payload : ℕ) (slots : List ℕ) (out : ℕ) where
  pub nothing_sends : Sends w id payload slots out None
  unfolding Sends
  nothing_sends = tt

  pub can_send : get_or w 11 0 ≡ 0 → slots_refusal (set_up_in w) (length slots) ≡ 0 → payload ≤ 1300
      → (f : Option ℕ) → f ≡ find_id slots (get_or w 0 0) id → (i : ℕ) → f ≡ Some i → Room slots (get_or w 0 0) i payload out
      → Sends w id payload slots out (Some i)
  unfolding Sends
  can_send none fits small f searched i e room =
      let shape = fitting_shaped w slots fits in
      record {
        none = none;
        fits = fits;
        small = small;
        found = sym searched ∙ e;
        shape = shape;
        place = found_below slots (get_or w 0 0) id shape f searched i e;
        room = room;
      }

  pub sends_at : (r : Option ℕ) → Sends w id payload slots out r → (i : ℕ) → r ≡ Some i → Sendable w id payload slots out i
  unfolding Sends
  sends_at r h i e = subst (λ (x : Option ℕ). Sends w id payload slots out x) e h

module _ (w slots payload out : List ℕ) (i : ℕ) where
  abbrev counter : ℕ
  counter = counter_in slots (get_or w 0 0) i

  abbrev key : List ℕ
  key = bytes_at slots (send_key_at (get_or w 0 0) i) 4

  abbrev to_seal : List ℕ → ℕ → Sealing
  to_seal k x = sealing (seal_ask_with Payload (length payload) (get_or w 5 0) k x) (seal_out_with out Payload payload x)

  -- what the ask says of its end is the packet's need
  pub payload_generated : (id : ℕ) → Sendable w id (length payload) slots (length out) i
      → payload_sent w slots i payload out ≡ generated (record_in w) slots id payload out
  unfolding record_in set_up_in seal_ask_with asked
  payload_generated id h =
      generate_found (record_in w) slots id payload out 0
      (payload_passes (record_in w) (length slots) (length payload) (ready_refusal (record_in w) (length slots)) refl (ready w slots h.none h.fits) h.small)
      refl (find_id slots (get_or w 0 0) id) refl i h.found (payload_sent w slots i payload out)
      (sending_asks (record_in w) i Payload payload out kind.Payload refl counter (need kind.Payload (length payload) counter) h.room.more refl
      key counter refl h.room.room key refl (to_seal key counter).ask (to_seal key counter).out refl
      (payload_sent w slots i payload out).turn refl)

  module _ (answer ask : List ℕ) where
    abbrev laid : ℕ → Sealing → Spoke
    laid x s =
        spoke (turn_on (desk w answer ask) (asking (record_in w) (Seal (Sending i) x s.ask.end) 0 (length out) s.ask)) s.out

    sealed_so : laid counter (to_seal key counter) ≡ spoke_as (desk w answer ask) (payload_sent w slots i payload out)
    unfolding seal_ask_with asked
    sealed_so = refl

    -- the counter and the key as they were read, the packet written, and the step laid
    pub payload_told : (x : ℕ) → x ≡ counter → (k : List ℕ) → k ≡ key → (q : Ask) (out' : List ℕ) → sealing q out' ≡ to_seal k x
        → (d : Desk)
        → d ≡ desk (step_words w 8 0 (length out) (0 ∷ i ∷ 0 ∷ x ∷ q.end ∷ 0 ∷ 0 ∷ 0 ∷ 0 ∷ 0 ∷ 0 ∷ 0 ∷ [])) (answer_words answer said.Ask q) (ask_bytes ask q)
        → spoke d out' ≡ spoke_as (desk w answer ask) (payload_sent w slots i payload out)
    payload_told x ex k ek q out' e d told =
        ap (λ (y : Desk). spoke y out') told
        ∙ ap (λ (l : List ℕ). spoke (desk l (answer_words answer said.Ask q) (ask_bytes ask q)) out') (sending_laid w i x q.end (length out))
        ∙ ap (laid x) e
        ∙ ap₂ (λ (l : List ℕ) (y : ℕ). laid y (to_seal l y)) ek ex
        ∙ sealed_so

    -- the call
    pub payload_spoken : (id : ℕ) → Sendable w id (length payload) slots (length out) i → (d : Desk) (out' : List ℕ)
        → spoke d out' ≡ spoke_as (desk w answer ask) (payload_sent w slots i payload out)
        → spoke d out' ≡ spoke_as (desk w answer ask) (generated (record_in w) slots id payload out)
    payload_spoken id h d out' e = e ∙ ap (spoke_as (desk w answer ask)) (payload_generated id h)

-- ---- a packet of a slot that was sealed

-- an ask for a slot that there is, with a counter that can be raised and a packet that the output holds
answer_passes : (fixed : SetUp) (i x end datagram out room tables : ℕ) → tables ≡ 0 → room ≡ out → i < fixed.slots → (x ≡ 2 ^ 64 - 1 → ⊥) → end ≤ room
    → answer_refusal (opened (Seal (Sending i) x end) datagram out) tables 3 fixed datagram room ≡ 0
unfolding answer_refusal unfit kind_of misfits seal_misfits goal_misfits overrun pick
answer_passes fixed i x end datagram out room tables t same place more fits =
    simp (eq-eqb tables 0 t, eq-eqb datagram datagram refl, eq-eqb room out same, lt-leb fixed.slots i place, ne_eqb x (2 ^ 64 - 1) more, le-ltb room end fits)

pub step_seals : (w : List ℕ) (granted : ℕ) → (granted ≡ 0 → ⊥) → get_or w 11 0 ≡ 8 → SealsSent w granted
step_seals w granted n e = record { said = ap not (ne_eqb granted 0 n); step = e }

module _ (w slots pending : List ℕ) (granted out : ℕ) (h : Sent w granted slots pending out) where
  -- with any stage that is the words'
  pub sent_passes : seal_refusal (state (record_in w) slots pending) out ≡ 0
  unfolding record_in set_up_in
  sent_passes =
      ap (λ (x : Stage). answer_refusal (opened x (get_or w 12 0) (get_or w 13 0)) (both_refusal (set_up_in w) (length slots) (length pending)) 3 (set_up_in w) (get_or w 12 0) out)
      (stage_sending w h.seals.step)
      ∙ answer_passes (set_up_in w) (get_or w 23 0) (get_or w 25 0) (get_or w 26 0) (get_or w 12 0) (get_or w 13 0) out
      (both_refusal (set_up_in w) (length slots) (length pending)) h.fits h.same h.place (λ e. omega (arith, h.more)) h.room

  pub sent_shaped : Shaped slots (get_or w 0 0)
  unfolding set_up_in
  sent_shaped = (both_shaped (set_up_in w) slots pending h.fits).0

  pub sent_seals : (held : List ℕ)
      → came (closed (record_in w) (said.PacketToSend (address_of slots (get_or w 0 0) (get_or w 23 0)) (get_or w 26 0))) (slot_sent w slots) pending
      ≡ seals (state (record_in w) slots pending) (yes? granted) held out
  unfolding record_in set_up_in sends
  sent_seals held =
      let r = closed (record_in w) (said.PacketToSend (address_of slots (get_or w 0 0) (get_or w 23 0)) (get_or w 26 0)) in
      seals_answers (record_in w) slots pending (yes? granted) held out (seal_refusal (state (record_in w) slots pending) out) refl sent_passes r (slot_sent w slots) pending
      (host_grants (record_in w) slots pending (yes? granted) held out (Sending (get_or w 23 0)) (get_or w 25 0) (get_or w 26 0) (stage_sending w h.seals.step) h.seals.said r (slot_sent w slots) pending
      (sending_sealed (record_in w) slots pending held (get_or w 25 0) (get_or w 26 0) out (Sending (get_or w 23 0)) (get_or w 23 0) refl r (slot_sent w slots) refl))

  -- the call
  pub sent_moved : (held answer ask : List ℕ) (d : Desk) (slots' : List ℕ) → noted d slots' ≡ sent_noted (desk w answer ask) slots
      → moved d slots' pending ≡ moved_as (desk w answer ask) (seals (state (record_in w) slots pending) (yes? granted) held out)
  sent_moved held answer ask d slots' e =
      ap (λ (x : Noted). moved x.desk x.slots pending) e ∙ ap (moved_as (desk w answer ask)) (sent_seals held)

-- the counter and then the sent time
pub slot_noted : (w slots u v : List ℕ) → u ≡ set slots (sequence_at (get_or w 0 0) (get_or w 23 0)) (get_or w 25 0 + 1)
    → v ≡ put_time u (sent_at (get_or w 0 0) (get_or w 23 0)) (time (get_or w 7 0) (get_or w 8 0)) → v ≡ slot_sent w slots
slot_noted w slots u v e f = f ∙ ap (λ (l : List ℕ). put_time l (sent_at (get_or w 0 0) (get_or w 23 0)) (time (get_or w 7 0) (get_or w 8 0))) e

-- the address as it was read before the change, the slots changed, and the step laid
pub sent_told : (w slots answer ask : List ℕ) (addr : Address) → addr ≡ address_of slots (get_or w 0 0) (get_or w 23 0)
    → (slots' : List ℕ) → slots' ≡ slot_sent w slots → (d : Desk)
    → d ≡ desk (step_words w 0 0 0 no_step) (answer_words answer (said.PacketToSend addr (get_or w 26 0)) no_ask) (ask_bytes ask no_ask)
    → noted d slots' ≡ sent_noted (desk w answer ask) slots
sent_told w slots answer ask addr there slots' changed d told =
    ap₂ noted
    (told
    ∙ ap₂ (λ (l : List ℕ) (a : Address). desk l (answer_words answer (said.PacketToSend a (get_or w 26 0)) no_ask) (ask_bytes ask no_ask)) (quiet_laid w 0 0) there)
    changed

-- ---- a client that nothing is due for

-- t is the sent time as it was read, b whether the next packet is due, w the timeout
module _ (slots : List ℕ) (n i : ℕ) (clock t : Time) (et : t ≡ time_at slots (sent_at n i)) (b : Bool) (eb : b ≡ due t clock) (f : b ≡ false) (w : ℕ) (ew : w ≡ word_of slots (timeout_at n i) % 4294967296) where
  abbrev timeout : ℕ
  timeout = word_of slots (timeout_at n i) % 4294967296

  abbrev received : Time
  received = time_at slots (received_at n i)

  rests_early : false ≡ overdue_at timeout received clock → Rests slots n i clock
  rests_early h = record { alive = sym h; early = ap (λ (x : Time). due x clock) (sym et) ∙ sym eb ∙ f }

  pub rests_at_0 : w ≡ 0 → Rests slots n i clock
  rests_at_0 e = rests_early (never_at_0 timeout w ew received clock e)

  pub rests_below_0 : 2 ^ 31 ≤ w → Rests slots n i clock
  rests_below_0 h = rests_early (never_below_0 timeout w ew received clock h)

  pub rests_on_time : (w ≡ 0 → ⊥) → w < 2 ^ 31 → (r : Time) → r ≡ received → (p : Bool) → p ≡ past r w clock → p ≡ false → Rests slots n i clock
  rests_on_time z h r er p ep g = rests_early (overdue_by_past timeout w ew received clock z h r er false (sym g ∙ ep))

module _ (w : List ℕ) (id : ℕ) (slots : List ℕ) (none : get_or w 11 0 ≡ 0) (fits : slots_refusal (set_up_in w) (length slots) ≡ 0) (f : Option ℕ) (searched : f ≡ find_id slots (get_or w 0 0) id) where
  resting : (i : ℕ) → f ≡ Some i → Rests slots (get_or w 0 0) i (time (get_or w 7 0) (get_or w 8 0)) → (out : List ℕ)
      → idly (record_in w) slots out ≡ client_updated (record_in w) slots id out
  unfolding record_in set_up_in pick
  resting i e h out =
      attend_found (record_in w) slots id out 0 (sym (ready w slots none fits)) refl f searched i e (idly (record_in w) slots out) false
      (slot_rests (record_in w) id slots i out false (sym h.alive) refl false (sym h.early) refl (answered (record_in w) said.Nothing) refl)

  absent : f ≡ None → (out : List ℕ) → idly (record_in w) slots out ≡ client_updated (record_in w) slots id out
  unfolding record_in set_up_in pick
  absent e out = attend_missed (record_in w) slots id out 0 (sym (ready w slots none fits)) refl f searched e (answered (record_in w) said.Nothing) refl false

  pub quiet_found : (i : ℕ) → f ≡ Some i → Rests slots (get_or w 0 0) i (time (get_or w 7 0) (get_or w 8 0)) → Quiet w id slots
  quiet_found i e h = record { none = none; nothing = λ out. sym (resting i e h out) }

  pub quiet_missed : f ≡ None → Quiet w id slots
  quiet_missed e = record { none = none; nothing = λ out. sym (absent e out) }

-- the step laid that was there
pub rest_told : (w answer ask : List ℕ) → get_or w 11 0 ≡ 0 → (d : Desk)
    → d ≡ desk (step_words w 0 (get_or w 12 0) (get_or w 13 0) no_step) (answer_words answer said.Nothing no_ask) (ask_bytes ask no_ask)
    → d ≡ nothing_due (desk w answer ask)
rest_told w answer ask none d told =
    told
    ∙ ap (λ (l : List ℕ). desk l (answer_words answer said.Nothing no_ask) (ask_bytes ask no_ask))
    (quiet_laid w (get_or w 12 0) (get_or w 13 0) ∙ ap (record_words w) (idle_again w none))

-- the call
pub quiet_attended : (w : List ℕ) (id : ℕ) (slots out : List ℕ) → Quiet w id slots → (answer ask : List ℕ) (d : Desk) → d ≡ nothing_due (desk w answer ask)
    → attended d slots out ≡ attended_as (desk w answer ask) (client_updated (record_in w) slots id out)
quiet_attended w id slots out h answer ask d e =
    ap (λ (x : Desk). attended x slots out) e ∙ ap (attended_as (desk w answer ask)) (sym (h.nothing out))
