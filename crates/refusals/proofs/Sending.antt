-- Sending is refused exactly where document 01's table says, and then leaves everything: a line of the table decides the definition's tests up to
-- its own, and the tests, taken one by one, come to a line, to a slot that ends with 15, to an ask or to nothing.
use Rattle.std.specs.Prelude.{Option, Some, None}
use mathlib.Core.Path.{◌≡◌, refl, sym, ap, subst, ◌∙◌}
use mathlib.Core.Logic.{◌↔◌}
use mathlib.Core.Bool.{true, false}
use Prim.Native.Nat.{ℕ, ◌-◌, ◌^◌, ◌≤◌, ◌<◌}
use native.Mathlib.Omega.{arith}
use mathlib.Core.List.{List, []}
use lib.ListN.{length}
use lib.Dec.{eqb, ltb}
use borrow.Author.Tests.{eq-eqb, ne_eqb, lt-ltb, le-ltb, eqb-true, eqb-false, ltb-true, ltb-false}
use Rattle.serialize.specs.Choice.{pick}
use Rattle.serialize.proofs.Choice.{by_test}
use Rattle.bodies.specs.declared.Packet.{Packet}
use Rattle.bodies.specs.declared.Packet.TheVariants.{Payload, Disconnect}
use Rattle.bodies.specs.Bodies as bodies
use Rattle.addresses.specs.declared.Address.{Address}
use Rattle.encode.specs.Encodes.{need}
use Rattle.places.specs.Layout.{address_of}
use Rattle.places.specs.Finds.{find_id}
use Rattle.records.specs.Records.{emptied}
use Rattle.server.specs.declared.NetcodeServer.{NetcodeServer}
use Rattle.server.specs.declared.Answer.{Answer}
use Rattle.server.specs.declared.Answer.TheVariants.{Refused, Ask, Nothing, ClientDisconnected}
use Rattle.server.specs.declared.Stage.TheVariants.{Idle}
use Rattle.server.specs.Ready.{before, slots_refusal, kind_of}
use Rattle.server.proofs.Inversions.{idle_only, idle_is_0, idle_passes, open_refused}
use Rattle.turns.specs.Outcomes.{answered, refused}
use Rattle.turns.specs.Packets.{keep_alive, Spoken, spoken}
use Rattle.sending.specs.Packets.{counter_of, ready_refusal, sending_under, sending, limit_refusal, payload_refusal, by_client, generated, Served, served, ending_under, ending}
use Rattle.sending.specs.Clients.{overdue, silent, keeping, idly, slot_updated, updated_at, ended_at, client_updated, disconnected}
use Rattle.refusals.proofs.Answers.{same_refusal, not_asked, not_nothing, length_23}
use Rattle.refusals.specs.Sending.{Ready, Client, Spent, Short, PayloadSays, payload_16, payload_23, payload_21, payload_22, payload_15, payload_14, UpdateSays, update_16, update_23, update_15, update_14_ends, update_14_keeps, DisconnectSays, disconnect_16, disconnect_23, disconnect_14, DisconnectSpent, UpdateSpent}

-- ---- the ways of an answer: a line of the table, a slot that ends with 15, an ask, nothing. Each is told from the others by the answer.

data Way (Says : ℕ → Type 0) (Ends : ℕ → Address → Type 0) (r : Answer) : Type 0 where
  line : (n : ℕ) → Says n → r ≡ Refused n → Way Says Ends r
  ends : (c : ℕ) (a : Address) → Ends c a → r ≡ ClientDisconnected c a 0 (Some 15) → Way Says Ends r
  asks : r ≡ Ask → Way Says Ends r
  rests : r ≡ Nothing → Way Says Ends r

module _ {Says : ℕ → Type 0} {Ends : ℕ → Address → Type 0} {r : Answer} where
  refused_by_lem : (n : ℕ) → Way Says Ends r → r ≡ Refused n → Says n
  refused_by_lem n (line m x e) h = subst Says (same_refusal (sym e ∙ h)) x
  refused_by_lem n (ends c a x e) h = let z : ◌≡◌ {A = ℕ} 0 1 = cc in absurd (omega arith)
  refused_by_lem n (asks e) h = absurd (not_asked (sym e ∙ h))
  refused_by_lem n (rests e) h = absurd (not_nothing (sym e ∙ h))

  ended_by : (c : ℕ) (a : Address) → Way Says Ends r → r ≡ ClientDisconnected c a 0 (Some 15) → Ends c a
  ended_by c a (line m x e) h = let z : ◌≡◌ {A = ℕ} 0 1 = cc in absurd (omega arith)
  ended_by c a (ends d b x e) h = let i : d ≡ c = cc in let j : b ≡ a = cc in subst (Ends c) j (subst (λ (y : ℕ). Ends y b) i x)
  ended_by c a (asks e) h = let z : ◌≡◌ {A = ℕ} 0 1 = cc in absurd (omega arith)
  ended_by c a (rests e) h = let z : ◌≡◌ {A = ℕ} 0 1 = cc in absurd (omega arith)

-- the answer of a call that gives the output, or the slots too
abbrev says : Spoken → Answer
says x = x.turn.answer

abbrev tells : Served → Answer
tells x = x.turn.answer

-- ---- 16, 23

module _ (s : NetcodeServer) (slots : List ℕ) where
  abbrev lent : ℕ
  lent = slots_refusal s.set (length slots)

  ready_16 : (s.ask.stage ≡ Idle → ⊥) → ready_refusal s (length slots) ≡ 16
  ready_16 f = open_refused s.ask lent f

  ready_23 : s.ask.stage ≡ Idle → (lent ≡ 0 → ⊥) → ready_refusal s (length slots) ≡ 23
  ready_23 e f = idle_passes s.ask lent e ∙ length_23 (length slots) s.set.slots 1024 f

  ready_0 : Ready s slots → ready_refusal s (length slots) ≡ 0
  ready_0 k = idle_passes s.ask lent k.idle ∙ k.tables

  by_ready : {A : Type 0} → ((s.ask.stage ≡ Idle → ⊥) → A) → (s.ask.stage ≡ Idle → (lent ≡ 0 → ⊥) → A) → (Ready s slots → A) → A
  by_ready f g h =
      let stage = s.ask.stage in
      by_test (eqb (kind_of stage) 0)
      (λ e.
      let k : s.ask.stage ≡ Idle = idle_only stage (eqb-true (kind_of stage) 0 e) in
      by_test (eqb lent 0)
      (λ z. h (record { idle = k; tables = eqb-true lent 0 z }))
      (λ z. g k (eqb-false lent 0 z)))
      (λ e. f (λ i. eqb-false (kind_of stage) 0 e (idle_is_0 stage i)))

-- the slot with the id, or none
by_found_lem : {A : Type 0} (x : Option ℕ) → ((i : ℕ) → x ≡ Some i → A) → (x ≡ None → A) → A
by_found_lem (Some i) f g = f i refl
by_found_lem None f g = g refl

-- ---- 15, 14

module _ (s : NetcodeServer) (slots : List ℕ) (i : ℕ) where
  abbrev count : ℕ
  count = counter_of s slots i

  spent_test : Spent s slots i → eqb count (2 ^ 64 - 1) ≡ true
  spent_test k = eq-eqb count (2 ^ 64 - 1) k.last

  unspent_test : (Spent s slots i → ⊥) → eqb count (2 ^ 64 - 1) ≡ false
  unspent_test f = ne_eqb count (2 ^ 64 - 1) (λ e. f (record { last = e }))

  module _ (packet : Packet) (bytes out : List ℕ) where
    abbrev whole : ℕ
    whole = need (bodies.kind_of packet) (length bytes) count

    abbrev Shorter : Type 0
    Shorter = Short s slots i (bodies.kind_of packet) (length bytes) (length out)

    by_counter : {A : Type 0} → (Spent s slots i → A) → (Shorter → A) → ((Spent s slots i → ⊥) → whole ≤ length out → A) → A
    by_counter f g h =
        by_test (eqb count (2 ^ 64 - 1))
        (λ e. f (record { last = eqb-true count (2 ^ 64 - 1) e }))
        (λ e.
        let z : Spent s slots i → ⊥ = λ k. eqb-false count (2 ^ 64 - 1) e k.last in
        by_test (ltb (length out) whole)
        (λ l. g (record { unspent = z; short = ltb-true (length out) whole l }))
        (λ l. h z (ltb-false (length out) whole l)))

    -- a packet that its slot goes on after

    sending_15 : Spent s slots i → sending s slots i packet bytes out ≡ spoken (refused s 15) out
    unfolding sending_under pick
    sending_15 k = simp (spent_test k)

    sending_14 : Shorter → sending s slots i packet bytes out ≡ spoken (refused s 14) out
    unfolding sending_under pick
    sending_14 k = simp (unspent_test k.unspent, lt-ltb (length out) whole k.short)

    sending_asks : (Spent s slots i → ⊥) → whole ≤ length out → (sending s slots i packet bytes out).turn.answer ≡ Ask
    unfolding sending_under pick
    sending_asks f h = simp (unspent_test f, le-ltb (length out) whole h)

  -- the packet that ends its slot

  module _ (id : ℕ) (out : List ℕ) where
    ending_15 : Spent s slots i
        → ending s id slots i out ≡ served (answered s (ClientDisconnected id (address_of slots s.set.slots i) 0 (Some 15))) (emptied slots i) out
    unfolding ending_under pick
    ending_15 k = simp (spent_test k)

    ending_14 : Short s slots i (bodies.kind_of Disconnect) 0 (length out) → ending s id slots i out ≡ served (refused s 14) slots out
    unfolding ending_under pick
    ending_14 k = simp (unspent_test k.unspent, lt-ltb (length out) (whole Disconnect [] out) k.short)

    ending_asks : (Spent s slots i → ⊥) → whole Disconnect [] out ≤ length out → (ending s id slots i out).turn.answer ≡ Ask
    unfolding ending_under pick
    ending_asks f h = simp (unspent_test f, le-ltb (length out) (whole Disconnect [] out) h)

-- ---- generate_payload_packet

module _ (s : NetcodeServer) (slots : List ℕ) (id : ℕ) (payload out : List ℕ) where
  abbrev sent : Spoken
  sent = generated s slots id payload out

  payload_stops : (n : ℕ) → payload_refusal s (length slots) (length payload) ≡ n → 0 < n → sent ≡ spoken (refused s n) out
  unfolding generated pick
  payload_stops n e h = let z : n ≡ 0 → ⊥ = λ k. omega arith in simp (e, ne_eqb n 0 z)

  payload_unready : (n : ℕ) → ready_refusal s (length slots) ≡ n → 0 < n → payload_refusal s (length slots) (length payload) ≡ n
  unfolding before pick
  payload_unready n e h = let z : n ≡ 0 → ⊥ = λ k. omega arith in simp (e, ne_eqb n 0 z)

  payload_long : Ready s slots → 1300 < length payload → payload_refusal s (length slots) (length payload) ≡ 21
  unfolding before limit_refusal pick
  payload_long k h = simp (ready_0 s slots k, lt-ltb 1300 (length payload) h)

  payload_within : Ready s slots → length payload ≤ 1300 → payload_refusal s (length slots) (length payload) ≡ 0
  unfolding before limit_refusal pick
  payload_within k h = simp (ready_0 s slots k, le-ltb 1300 (length payload) h)

  payload_passes : Ready s slots → length payload ≤ 1300 → sent ≡ by_client s slots payload out (find_id slots s.set.slots id)
  unfolding generated pick
  payload_passes k h = simp (eq-eqb (payload_refusal s (length slots) (length payload)) 0 (payload_within k h))

  to_client : length payload ≤ 1300 → (i : ℕ) → Client s slots id i → sent ≡ sending s slots i Payload payload out
  unfolding by_client
  to_client h i k = payload_passes k.ready h ∙ ap (by_client s slots payload out) k.found

  payload_given : (n : ℕ) → PayloadSays s slots id payload out n → sent ≡ spoken (refused s n) out
  unfolding by_client
  payload_given n (payload_16 f) = payload_stops 16 (payload_unready 16 (ready_16 s slots f) (omega arith)) (omega arith)
  payload_given n (payload_23 e f) = payload_stops 23 (payload_unready 23 (ready_23 s slots e f) (omega arith)) (omega arith)
  payload_given n (payload_21 k h) = payload_stops 21 (payload_long k h) (omega arith)
  payload_given n (payload_22 k h e) = payload_passes k h ∙ ap (by_client s slots payload out) e
  payload_given n (payload_15 h i k x) = to_client h i k ∙ sending_15 s slots i Payload payload out x
  payload_given n (payload_14 h i k x) = to_client h i k ∙ sending_14 s slots i Payload payload out x

  abbrev PayloadWay : Type 0
  PayloadWay = Way (PayloadSays s slots id payload out) (λ c a. ⊥) sent.turn.answer

  payload_line : (n : ℕ) → PayloadSays s slots id payload out n → PayloadWay
  payload_line n x = line n x (ap says (payload_given n x))

  payload_found : length payload ≤ 1300 → (i : ℕ) → Client s slots id i → PayloadWay
  payload_found h i k =
      by_counter s slots i Payload payload out
      (λ x. payload_line 15 (payload_15 h i k x))
      (λ x. payload_line 14 (payload_14 h i k x))
      (λ f l. asks (ap says (to_client h i k) ∙ sending_asks s slots i Payload payload out f l))

  payload_way : PayloadWay
  payload_way =
      by_ready s slots
      (λ f. payload_line 16 (payload_16 f))
      (λ e f. payload_line 23 (payload_23 e f))
      (λ k.
      by_test (ltb 1300 (length payload))
      (λ l. payload_line 21 (payload_21 k (ltb-true 1300 (length payload) l)))
      (λ l.
      let h : length payload ≤ 1300 = ltb-false 1300 (length payload) l in
      by_found_lem (find_id slots s.set.slots id)
      (λ i e. payload_found h i (record { ready = k; found = e }))
      (λ e. payload_line 22 (payload_22 k h e))))

  -- the call refuses by n exactly when the table says n
  pub payload_exactly : (n : ℕ) → ((generated s slots id payload out).turn.answer ≡ Refused n) ↔ PayloadSays s slots id payload out n
  payload_exactly n = (refused_by_lem n payload_way, λ x. ap says (payload_given n x))

  -- and then leaves everything
  pub payload_leaves : (n : ℕ) → (generated s slots id payload out).turn.answer ≡ Refused n → generated s slots id payload out ≡ spoken (refused s n) out
  payload_leaves n e = payload_given n (refused_by_lem n payload_way e)

-- ---- update_client and disconnect

module _ (s : NetcodeServer) (slots : List ℕ) (id : ℕ) (out : List ℕ) where
  -- 16 and 23 come before what else the call comes to

  abbrev tested : Served → Served
  tested x = pick (eqb (ready_refusal s (length slots)) 0) x (served (refused s (ready_refusal s (length slots))) slots out)

  tested_stops : (x : Served) (n : ℕ) → ready_refusal s (length slots) ≡ n → 0 < n → tested x ≡ served (refused s n) slots out
  unfolding pick
  tested_stops x n e h = let z : n ≡ 0 → ⊥ = λ k. omega arith in simp (e, ne_eqb n 0 z)

  tested_passes : (x : Served) → Ready s slots → tested x ≡ x
  unfolding pick
  tested_passes x k = simp (eq-eqb (ready_refusal s (length slots)) 0 (ready_0 s slots k))

  -- a slot that ends with 15

  abbrev here : (i : ℕ) → Client s slots id i → Spent s slots i → DisconnectSpent s slots id id (address_of slots s.set.slots i)
  here i k x = record { place = i; client = k; spent = x; same_id = refl; same_address = refl }

  report : (x : Served) (c : ℕ) (a : Address) (e : DisconnectSpent s slots id c a) → x ≡ ending s id slots e.place out
      → x ≡ served (answered s (ClientDisconnected c a 0 (Some 15))) (emptied slots e.place) out
  report x c a e h = h ∙ ending_15 s slots e.place id out e.spent ∙ sym (rw (e.same_id, e.same_address))

  -- ---- update_client

  abbrev updated : Served
  updated = client_updated s slots id out

  update_stops : (n : ℕ) → ready_refusal s (length slots) ≡ n → 0 < n → updated ≡ served (refused s n) slots out
  unfolding client_updated
  update_stops n e h = tested_stops (updated_at s id slots out (find_id slots s.set.slots id)) n e h

  update_passes : Ready s slots → updated ≡ updated_at s id slots out (find_id slots s.set.slots id)
  unfolding client_updated
  update_passes k = tested_passes (updated_at s id slots out (find_id slots s.set.slots id)) k

  -- an unknown id is nothing
  pub update_client_unknown : Ready s slots → find_id slots s.set.slots id ≡ None → client_updated s slots id out ≡ served (answered s Nothing) slots out
  unfolding updated_at
  update_client_unknown k e = update_passes k ∙ ap (updated_at s id slots out) e

  update_at : (i : ℕ) → Client s slots id i → updated ≡ slot_updated s id slots i out
  unfolding updated_at
  update_at i k = update_passes k.ready ∙ ap (updated_at s id slots out) k.found

  update_ends : (i : ℕ) → Client s slots id i → overdue s slots i ≡ true → updated ≡ ending s id slots i out
  unfolding slot_updated pick
  update_ends i k e = update_at i k ∙ simp e

  update_keeps : (i : ℕ) → Client s slots id i → overdue s slots i ≡ false → silent s slots i ≡ true
      → updated ≡ keeping slots (sending s slots i (keep_alive s.max_clients i) [] out)
  unfolding slot_updated pick
  update_keeps i k e f = update_at i k ∙ simp (e, f)

  update_rests : (i : ℕ) → Client s slots id i → overdue s slots i ≡ false → silent s slots i ≡ false → updated ≡ idly s slots out
  unfolding slot_updated pick
  update_rests i k e f = update_at i k ∙ simp (e, f)

  update_given : (n : ℕ) → UpdateSays s slots id out n → updated ≡ served (refused s n) slots out
  update_given n (update_16 f) = update_stops 16 (ready_16 s slots f) (omega arith)
  update_given n (update_23 e f) = update_stops 23 (ready_23 s slots e f) (omega arith)
  update_given n (update_15 i k e f x) = update_keeps i k e f ∙ ap (keeping slots) (sending_15 s slots i (keep_alive s.max_clients i) [] out x)
  update_given n (update_14_ends i k e x) = update_ends i k e ∙ ending_14 s slots i id out x
  update_given n (update_14_keeps i k e f x) = update_keeps i k e f ∙ ap (keeping slots) (sending_14 s slots i (keep_alive s.max_clients i) [] out x)

  -- a slot that ends with 15 is empty, and record and output are as they were
  pub update_client_spent_leaves : (c : ℕ) (a : Address) (e : UpdateSpent s slots id c a)
      → client_updated s slots id out ≡ served (answered s (ClientDisconnected c a 0 (Some 15))) (emptied slots e.ends.place) out
  update_client_spent_leaves c a e = report updated c a e.ends (update_ends e.ends.place e.ends.client e.late)

  abbrev UpdateWay : Type 0
  UpdateWay = Way (UpdateSays s slots id out) (UpdateSpent s slots id) updated.turn.answer

  update_line : (n : ℕ) → UpdateSays s slots id out n → UpdateWay
  update_line n x = line n x (ap tells (update_given n x))

  update_late : (i : ℕ) → Client s slots id i → overdue s slots i ≡ true → UpdateWay
  update_late i k e =
      by_counter s slots i Disconnect [] out
      (λ x.
      let a : Address = address_of slots s.set.slots i in
      let y : UpdateSpent s slots id id a = record { ends = here i k x; late = e } in
      ends id a y (ap tells (update_client_spent_leaves id a y)))
      (λ x. update_line 14 (update_14_ends i k e x))
      (λ f l. asks (ap tells (update_ends i k e) ∙ ending_asks s slots i id out f l))

  update_timely : (i : ℕ) → Client s slots id i → overdue s slots i ≡ false → UpdateWay
  update_timely i k e =
      let packet : Packet = keep_alive s.max_clients i in
      by_test (silent s slots i)
      (λ f.
      by_counter s slots i packet [] out
      (λ x. update_line 15 (update_15 i k e f x))
      (λ x. update_line 14 (update_14_keeps i k e f x))
      (λ g l. asks (ap tells (update_keeps i k e f) ∙ sending_asks s slots i packet [] out g l)))
      (λ f. rests (ap tells (update_rests i k e f)))

  update_way : UpdateWay
  update_way =
      by_ready s slots
      (λ f. update_line 16 (update_16 f))
      (λ e f. update_line 23 (update_23 e f))
      (λ k.
      by_found_lem (find_id slots s.set.slots id)
      (λ i e.
      let c : Client s slots id i = record { ready = k; found = e } in
      by_test (overdue s slots i) (λ o. update_late i c o) (λ o. update_timely i c o))
      (λ e. rests (ap tells (update_client_unknown k e))))

  -- the call refuses by n exactly when the table says n
  pub update_client_exactly : (n : ℕ) → ((client_updated s slots id out).turn.answer ≡ Refused n) ↔ UpdateSays s slots id out n
  update_client_exactly n = (refused_by_lem n update_way, λ x. ap tells (update_given n x))

  -- and then leaves everything
  pub update_client_leaves : (n : ℕ) → (client_updated s slots id out).turn.answer ≡ Refused n → client_updated s slots id out ≡ served (refused s n) slots out
  update_client_leaves n e = update_given n (refused_by_lem n update_way e)

  -- it ends a slot with 15 exactly where that slot is overdue and its counter spent
  pub update_client_spent : (c : ℕ) (a : Address) → ((client_updated s slots id out).turn.answer ≡ ClientDisconnected c a 0 (Some 15)) ↔ UpdateSpent s slots id c a
  update_client_spent c a = (ended_by c a update_way, λ e. ap tells (update_client_spent_leaves c a e))

  -- ---- disconnect

  abbrev shut : Served
  shut = disconnected s slots id out

  disconnect_stops : (n : ℕ) → ready_refusal s (length slots) ≡ n → 0 < n → shut ≡ served (refused s n) slots out
  unfolding disconnected
  disconnect_stops n e h = tested_stops (ended_at s id slots out (find_id slots s.set.slots id)) n e h

  disconnect_passes : Ready s slots → shut ≡ ended_at s id slots out (find_id slots s.set.slots id)
  unfolding disconnected
  disconnect_passes k = tested_passes (ended_at s id slots out (find_id slots s.set.slots id)) k

  -- an unknown id is nothing
  pub disconnect_unknown : Ready s slots → find_id slots s.set.slots id ≡ None → disconnected s slots id out ≡ served (answered s Nothing) slots out
  unfolding ended_at
  disconnect_unknown k e = disconnect_passes k ∙ ap (ended_at s id slots out) e

  disconnect_ends : (i : ℕ) → Client s slots id i → shut ≡ ending s id slots i out
  unfolding ended_at
  disconnect_ends i k = disconnect_passes k.ready ∙ ap (ended_at s id slots out) k.found

  disconnect_given : (n : ℕ) → DisconnectSays s slots id out n → shut ≡ served (refused s n) slots out
  disconnect_given n (disconnect_16 f) = disconnect_stops 16 (ready_16 s slots f) (omega arith)
  disconnect_given n (disconnect_23 e f) = disconnect_stops 23 (ready_23 s slots e f) (omega arith)
  disconnect_given n (disconnect_14 i k x) = disconnect_ends i k ∙ ending_14 s slots i id out x

  -- a slot that ends with 15 is empty, and record and output are as they were
  pub disconnect_spent_leaves : (c : ℕ) (a : Address) (e : DisconnectSpent s slots id c a)
      → disconnected s slots id out ≡ served (answered s (ClientDisconnected c a 0 (Some 15))) (emptied slots e.place) out
  disconnect_spent_leaves c a e = report shut c a e (disconnect_ends e.place e.client)

  abbrev DisconnectWay : Type 0
  DisconnectWay = Way (DisconnectSays s slots id out) (DisconnectSpent s slots id) shut.turn.answer

  disconnect_line : (n : ℕ) → DisconnectSays s slots id out n → DisconnectWay
  disconnect_line n x = line n x (ap tells (disconnect_given n x))

  disconnect_found : (i : ℕ) → Client s slots id i → DisconnectWay
  disconnect_found i k =
      by_counter s slots i Disconnect [] out
      (λ x.
      let a : Address = address_of slots s.set.slots i in
      ends id a (here i k x) (ap tells (disconnect_spent_leaves id a (here i k x))))
      (λ x. disconnect_line 14 (disconnect_14 i k x))
      (λ f l. asks (ap tells (disconnect_ends i k) ∙ ending_asks s slots i id out f l))

  disconnect_way : DisconnectWay
  disconnect_way =
      by_ready s slots
      (λ f. disconnect_line 16 (disconnect_16 f))
      (λ e f. disconnect_line 23 (disconnect_23 e f))
      (λ k.
      by_found_lem (find_id slots s.set.slots id)
      (λ i e. disconnect_found i (record { ready = k; found = e }))
      (λ e. rests (ap tells (disconnect_unknown k e))))

  -- the call refuses by n exactly when the table says n
  pub disconnect_exactly : (n : ℕ) → ((disconnected s slots id out).turn.answer ≡ Refused n) ↔ DisconnectSays s slots id out n
  disconnect_exactly n = (refused_by_lem n disconnect_way, λ x. ap tells (disconnect_given n x))

  -- and then leaves everything
  pub disconnect_leaves : (n : ℕ) → (disconnected s slots id out).turn.answer ≡ Refused n → disconnected s slots id out ≡ served (refused s n) slots out
  disconnect_leaves n e = disconnect_given n (refused_by_lem n disconnect_way e)

  -- it ends a slot with 15 exactly where that slot's counter is spent
  pub disconnect_spent : (c : ℕ) (a : Address) → ((disconnected s slots id out).turn.answer ≡ ClientDisconnected c a 0 (Some 15)) ↔ DisconnectSpent s slots id c a
  disconnect_spent c a = (ended_by c a disconnect_way, λ e. ap tells (disconnect_spent_leaves c a e))
