-- An answer to an ask to open a packet or a challenge is refused exactly where document 01's table says: the shared tests decide the first
-- numbers and a no is 8; after a yes only a short body is refused, by 9, and a response whose counter is spent, by 15.
use Rattle.std.specs.Prelude.{Option, Some, None, Result, Ok, Err}
use mathlib.Core.Path.{◌≡◌, refl, sym, ap, subst, ◌∙◌}
use mathlib.Core.Logic.{◌↔◌}
use mathlib.Core.Bool.{Bool, true, false, ◌||◌}
use Prim.Native.Nat.{ℕ, ◌+◌, ◌-◌, ◌^◌, ◌≤◌, ◌<◌}
use native.Mathlib.Omega.{arith}
use mathlib.Core.List.{List}
use lib.ListN.{length}
use lib.Dec.{eqb, ltb, leb}
use borrow.Author.Tests.{eq-eqb, ne_eqb, lt-ltb, eqb-true, ltb-true, ltb-false}
use Rattle.serialize.specs.Choice.{pick}
use Rattle.serialize.specs.Runs.{part}
use Rattle.serialize.proofs.Choice.{by_test}
use Rattle.serialize.proofs.Lists.{length_part}
use Rattle.bodies.specs.declared.PacketType.{PacketType}
use Rattle.bodies.specs.declared.Packet.{Packet}
use Rattle.bodies.specs.declared.Packet.TheVariants as packet
use Rattle.bodies.specs.Bodies.{least, numbers, read_body}
use Rattle.bodies.specs.Tokens.{token_at}
use Rattle.places.specs.Layout.{address_of}
use Rattle.places.specs.Finds.{find_id, find_free}
use Rattle.places.proofs.Searches.{true_false}
use Rattle.records.specs.Records.{emptied}
use Rattle.server.specs.declared.NetcodeServer.{NetcodeServer}
use Rattle.server.specs.declared.Answer.TheVariants.{Refused, Ask}
use Rattle.server.specs.declared.Stage.{Stage}
use Rattle.server.specs.declared.Stage.TheVariants as stage
use Rattle.server.specs.Ready.{kind_of, room_of, misplaced, misfits}
use Rattle.turns.specs.Outcomes.{State, leaves, refuses, closed, Written, written, from_slot, from_pending}
use Rattle.turns.specs.Packets.{Prepared, prepared, holding, denied}
use Rattle.opens.specs.Heard.{accepted, slot_says, slot_body, challenge_asked, pending_says, pending_body, body_in, slot_heard, pending_heard}
use Rattle.opens.specs.Responses.{send_key_of, counter_of, connecting, by_free, by_id, responded}
use Rattle.opens.specs.Opens.{packet_opened, from_response, opened, open_answer_refusal, opens}
use Rattle.refusals.specs.Answering.{OpenFit, both_of, ResponseSpent, own, global, OpenSays, opens_17, opens_23, opens_18, opens_8, opens_9, opens_15, OpenLeaves, nothing, closed_8, slot_9, pending_9, emptied_15}
use Rattle.refusals.proofs.Answers.{same_refusal, not_asked, not_nothing, both_23, open_17, open_tables, open_0, open_18, by_open}

-- ---- a whole body is not refused

slot_taken : (s : NetcodeServer) (t : List ℕ) (n i start end : ℕ) (p : Packet) (m : ℕ) → (slot_says s t n i start end p).turn.answer ≡ Refused m → ⊥
unfolding slot_says
slot_taken s t n i start end (packet.ConnectionRequest a b) m e = let z : ◌≡◌ {A = ℕ} 0 1 = cc in omega arith
slot_taken s t n i start end packet.ConnectionDenied m e = let z : ◌≡◌ {A = ℕ} 0 1 = cc in omega arith
slot_taken s t n i start end (packet.Challenge a) m e = let z : ◌≡◌ {A = ℕ} 0 1 = cc in omega arith
slot_taken s t n i start end (packet.Response a) m e = let z : ◌≡◌ {A = ℕ} 0 1 = cc in omega arith
slot_taken s t n i start end (packet.KeepAlive a b) m e = let z : ◌≡◌ {A = ℕ} 0 1 = cc in omega arith
slot_taken s t n i start end packet.Payload m e = let z : ◌≡◌ {A = ℕ} 0 1 = cc in omega arith
slot_taken s t n i start end packet.Disconnect m e = let z : ◌≡◌ {A = ℕ} 0 1 = cc in omega arith

pending_taken : (s : NetcodeServer) (j start datagram out : ℕ) (p : Packet) (m : ℕ) → (pending_says s j start datagram out p).answer ≡ Refused m → ⊥
unfolding pending_says challenge_asked
pending_taken s j start datagram out (packet.ConnectionRequest a b) m e = let z : ◌≡◌ {A = ℕ} 0 1 = cc in omega arith
pending_taken s j start datagram out packet.ConnectionDenied m e = let z : ◌≡◌ {A = ℕ} 0 1 = cc in omega arith
pending_taken s j start datagram out (packet.Challenge a) m e = let z : ◌≡◌ {A = ℕ} 0 1 = cc in omega arith
pending_taken s j start datagram out (packet.Response a) m e = let z : ◌≡◌ {A = ℕ} 0 1 = cc in omega arith
pending_taken s j start datagram out (packet.KeepAlive a b) m e = let z : ◌≡◌ {A = ℕ} 0 1 = cc in omega arith
pending_taken s j start datagram out packet.Payload m e = let z : ◌≡◌ {A = ℕ} 0 1 = cc in omega arith
pending_taken s j start datagram out packet.Disconnect m e = let z : ◌≡◌ {A = ℕ} 0 1 = cc in omega arith

-- ---- the body is what stands between the sequence and the tag

tag_inside : (place places room at n : ℕ) → misplaced place places room at n ≡ false → at + n ≤ room
unfolding misplaced
tag_inside place places room at n e = by (leb places place) (ltb room (at + n)) refl e
  where
    by : (a b : Bool) → ltb room (at + n) ≡ b → a || b ≡ false → at + n ≤ room
    by false false f g = ltb-false room (at + n) f
    by false true f g = absurd (true_false refl g)
    by true b f g = absurd (true_false refl g)

module _ (kind : PacketType) (start : ℕ) (d : List ℕ) (inside : start + 16 ≤ length d) where
  body_length_lem : length (part d start (length d - 16 - start)) ≡ length d - 16 - start
  body_length_lem = length_part d start (length d - 16 - start) (omega arith)

  body_short : length d - 16 - start < least kind → body_in kind start d ≡ Err 9
  unfolding read_body pick
  body_short h = simp (lt-ltb (length (part d start (length d - 16 - start))) (least kind) (rw body_length_lem h))

  body_whole : ltb (length d - 16 - start) (least kind) ≡ false → body_in kind start d ≡ Ok (numbers kind (part d start (length d - 16 - start)))
  unfolding read_body pick
  body_whole h = simp (ap (λ (x : ℕ). ltb x (least kind)) body_length_lem ∙ h)

module _ (t : State) (granted : Bool) (held out d : List ℕ) where
  -- refused by a number, which leaves what its line says; held bytes and output as they were
  record Told (n : ℕ) (w : Written) : Type 0 where
    answer : w.outcome.answer ≡ Refused n
    left : OpenLeaves t n w.outcome.state
    held_same : w.held ≡ held
    out_same : w.out ≡ out

  abbrev q : ℕ
  q = open_answer_refusal t (length d) (length out)

  abbrev Fits : Type 0
  Fits = OpenFit t 1 (both_of t) (length d) (length out)

  stopped : (n : ℕ) → (n ≡ 0 → ⊥) → q ≡ n → opens t granted held out d ≡ written (refuses t n) held out
  unfolding opens pick
  stopped n z e = simp (e, ne_eqb n 0 z)

  stops : (n : ℕ) → 17 ≤ n → n ≤ 23 → q ≡ n → Told n (opens t granted held out d)
  stops n a b e = subst (Told n) (sym (stopped n (λ z. omega arith) e)) (record { answer = refl; left = nothing n a b; held_same = refl; out_same = refl })

  at_no : Fits → granted ≡ false → opens t granted held out d ≡ written (leaves t (closed t.server (Refused 8))) held out
  unfolding opens pick
  at_no f g = simp (eq-eqb q 0 (open_0 t (both_of t) 1 (length d) (length out) f), g)

  at_yes : Fits → granted ≡ true → (x : Stage) → t.server.ask.stage ≡ x → opens t granted held out d ≡ opened t held out d x
  unfolding opens pick
  at_yes f g x e = simp (eq-eqb q 0 (open_0 t (both_of t) 1 (length d) (length out) f), g) (ap (opened t held out d) e)

  -- ---- a packet

  at_packet : Fits → granted ≡ true → (connected : Bool) (place : ℕ) (kind : PacketType) (sequence start : ℕ)
      → t.server.ask.stage ≡ stage.Packet connected place kind sequence start
      → opens t granted held out d ≡ written (packet_opened t connected place kind sequence start (length out) d) held out
  unfolding opened
  at_packet f g connected place kind sequence start e = at_yes f g (stage.Packet connected place kind sequence start) e

  inside : Fits → (connected : Bool) (place : ℕ) (kind : PacketType) (sequence start : ℕ)
      → t.server.ask.stage ≡ stage.Packet connected place kind sequence start → start + 16 ≤ length d
  unfolding misfits
  inside f connected place kind sequence start e =
      tag_inside place (room_of connected t.server.set.slots t.server.set.pending) (length d) start 16
      (sym (ap (λ (x : Stage). misfits x t.server.set.slots t.server.set.pending (length d) (length out)) e) ∙ f.fit.fits)

  short : (connected : Bool) (place : ℕ) (kind : PacketType) (sequence start : ℕ) → t.server.ask.stage ≡ stage.Packet connected place kind sequence start
      → body_in kind start d ≡ Err 9 → Told 9 (written (packet_opened t connected place kind sequence start (length out) d) held out)
  unfolding packet_opened slot_heard pending_heard slot_body pending_body pick
  short true i kind sequence start s e =
      let n = t.server.set.slots in
      subst (λ (b : Result Packet ℕ). Told 9 (written (from_slot t (slot_body t.server (accepted t.slots n i kind sequence) n i start (length d - 16) b)) held out)) (sym e)
      (record { answer = refl; left = slot_9 i kind sequence start s; held_same = refl; out_same = refl })
  short false j kind sequence start s e =
      let m = t.server.set.pending in
      subst (λ (b : Result Packet ℕ). Told 9 (written (from_pending t (pending_body t.server (accepted t.pending m j kind sequence) m j start (length d) (length out) b)) held out)) (sym e)
      (record { answer = refl; left = pending_9 j kind sequence start s; held_same = refl; out_same = refl })

  whole : (connected : Bool) (place : ℕ) (kind : PacketType) (sequence start : ℕ) (p : Packet) → body_in kind start d ≡ Ok p
      → (n : ℕ) → (packet_opened t connected place kind sequence start (length out) d).answer ≡ Refused n → ⊥
  unfolding packet_opened slot_heard pending_heard slot_body pending_body pick
  whole true i kind sequence start p e n =
      let m = t.server.set.slots in
      subst (λ (b : Result Packet ℕ). (slot_body t.server (accepted t.slots m i kind sequence) m i start (length d - 16) b).turn.answer ≡ Refused n → ⊥) (sym e)
      (slot_taken t.server _ m i start (length d - 16) p n)
  whole false j kind sequence start p e n =
      let m = t.server.set.pending in
      subst (λ (b : Result Packet ℕ). (pending_body t.server (accepted t.pending m j kind sequence) m j start (length d) (length out) b).turn.answer ≡ Refused n → ⊥) (sym e)
      (pending_taken t.server j start (length d) (length out) p n)

  -- ---- a challenge

  at_challenge : Fits → granted ≡ true → (j start : ℕ) → t.server.ask.stage ≡ stage.Challenge j start
      → opens t granted held out d ≡ from_response t j (responded t.server t.slots t.pending held out j start d)
  unfolding opened
  at_challenge f g j start e = at_yes f g (stage.Challenge j start) e

  module _ (j start : ℕ) where
    abbrev response : Prepared
    response = responded t.server t.slots t.pending held out j start d

    abbrev rest : List ℕ
    rest = emptied t.pending j

    abbrev has_id : Option ℕ
    has_id = find_id t.slots t.server.set.slots (token_at d start).client_id

    abbrev free : Option ℕ
    free = find_free t.slots t.server.set.slots

    to_id : (x : Option ℕ) → has_id ≡ x → response ≡ by_id t.server (length d) t.slots rest held out j (token_at d start) x
    unfolding responded
    to_id x e = ap (by_id t.server (length d) t.slots rest held out j (token_at d start)) e

    to_free : has_id ≡ None → (x : Option ℕ) → free ≡ x → response ≡ by_free t.server (length d) rest held out j (token_at d start) x
    unfolding by_id
    to_free e x f = to_id None e ∙ ap (by_free t.server (length d) rest held out j (token_at d start)) f

    to_slot : has_id ≡ None → (i : ℕ) → free ≡ Some i
        → response ≡ connecting t.server (length d) held out j i (send_key_of t.server rest j) (counter_of t.server rest j) (token_at d start)
    unfolding by_free
    to_slot e i f = to_free e (Some i) f

    to_denied : has_id ≡ None → free ≡ None
        → response ≡ holding held (denied t.server (length d) out (send_key_of t.server rest j) (address_of rest t.server.set.pending j))
    unfolding by_free
    to_denied e f = to_free e None f

    -- 15 where the counter is spent
    spent : has_id ≡ None → ResponseSpent t j → response ≡ prepared (closed t.server (Refused 15)) held out
    unfolding connecting denied pick
    spent e (own i f c) = to_slot e i f ∙ simp (eq-eqb (counter_of t.server rest j) (2 ^ 64 - 1) c)
    spent e (global f c) = to_denied e f ∙ simp (eq-eqb t.server.counters.global_sequence (2 ^ 64 - 1) c)

    spent_told : t.server.ask.stage ≡ stage.Challenge j start → has_id ≡ None → ResponseSpent t j → Told 15 (from_response t j response)
    spent_told s e r =
        subst (λ (x : Prepared). Told 15 (from_response t j x)) (sym (spent e r)) (record { answer = refl; left = emptied_15 j start s; held_same = refl; out_same = refl })

    -- and else it is not refused
    data Response : Type 0 where
      spends : has_id ≡ None → ResponseSpent t j → Response
      goes : ((n : ℕ) → response.turn.answer ≡ Refused n → ⊥) → Response

    free_goes : has_id ≡ None → (x : Option ℕ) → free ≡ x → Response
    unfolding connecting denied pick
    free_goes e (Some i) f =
        by_test (eqb (counter_of t.server rest j) (2 ^ 64 - 1))
        (λ c. spends e (own i f (eqb-true (counter_of t.server rest j) (2 ^ 64 - 1) c)))
        (λ c. goes (λ n h.
        let x : response.turn.answer ≡ Ask = ap (λ (y : Prepared). y.turn.answer) (to_slot e i f) ∙ simp c in
        not_asked (sym x ∙ h)))
    free_goes e None f =
        by_test (eqb t.server.counters.global_sequence (2 ^ 64 - 1))
        (λ c. spends e (global f (eqb-true t.server.counters.global_sequence (2 ^ 64 - 1) c)))
        (λ c. goes (λ n h.
        let x : response.turn.answer ≡ Ask = ap (λ (y : Prepared). y.turn.answer) (to_denied e f) ∙ simp c in
        not_asked (sym x ∙ h)))

    id_goes : (x : Option ℕ) → has_id ≡ x → Response
    unfolding by_id
    id_goes (Some k) e =
        goes (λ n h. not_nothing (sym (ap (λ (y : Prepared). y.turn.answer) (to_id (Some k) e)) ∙ h))
    id_goes None e = free_goes e free refl

  -- ---- a line of the table gives its number

  given : (n : ℕ) → OpenSays t granted out d n → Told n (opens t granted held out d)
  given n (opens_17 e) = stops 17 (omega arith) (omega arith) (open_17 t (both_of t) 1 (length d) (length out) e)
  given n (opens_23 o z) =
      stops 23 (omega arith) (omega arith)
      (open_tables t (both_of t) 1 (length d) (length out) o z ∙ both_23 t.server.set (length t.slots) (length t.pending) z)
  given n (opens_18 o e f) = stops 18 (omega arith) (omega arith) (open_18 t (both_of t) 1 (length d) (length out) o e f)
  given n (opens_8 f g) = subst (Told 8) (sym (at_no f g)) (record { answer = refl; left = closed_8; held_same = refl; out_same = refl })
  given n (opens_9 f g connected place kind sequence start s h) =
      subst (Told 9) (sym (at_packet f g connected place kind sequence start s))
      (short connected place kind sequence start s (body_short kind start d (inside f connected place kind sequence start s) h))
  given n (opens_15 f g j start s e r) = subst (Told 15) (sym (at_challenge f g j start s)) (spent_told j start s e r)

  -- ---- every answer meets a line, or is not refused

  data Verdict : Type 0 where
    line : (n : ℕ) → OpenSays t granted out d n → Verdict
    none : ((n : ℕ) → (opens t granted held out d).outcome.answer ≡ Refused n → ⊥) → Verdict

  by_response : Fits → granted ≡ true → (j start : ℕ) → t.server.ask.stage ≡ stage.Challenge j start → Response j start → Verdict
  by_response f g j start s (spends e r) = line 15 (opens_15 f g j start s e r)
  by_response f g j start s (goes x) = none (λ n h. x n (sym (ap (λ (w : Written). w.outcome.answer) (at_challenge f g j start s)) ∙ h))

  by_stage_lem : Fits → granted ≡ true → (x : Stage) → t.server.ask.stage ≡ x → kind_of x ≡ 1 → Verdict
  unfolding kind_of
  by_stage_lem f g stage.Idle s k = absurd (omega arith)
  by_stage_lem f g (stage.Packet connected place kind sequence start) s k =
      let l = inside f connected place kind sequence start s in
      by_test (ltb (length d - 16 - start) (least kind))
      (λ b. line 9 (opens_9 f g connected place kind sequence start s (ltb-true (length d - 16 - start) (least kind) b)))
      (λ b. none (λ n h.
      whole connected place kind sequence start _ (body_whole kind start d l b) n
      (sym (ap (λ (w : Written). w.outcome.answer) (at_packet f g connected place kind sequence start s)) ∙ h)))
  by_stage_lem f g (stage.Token a b c e) s k = absurd (omega arith)
  by_stage_lem f g (stage.Challenge j start) s k =
      by_response f g j start s (id_goes j start (find_id t.slots t.server.set.slots (token_at d start).client_id) refl)
  by_stage_lem f g (stage.Seal a b c) s k = absurd (omega arith)

  verdict : Verdict
  verdict =
      by_open t (both_of t) 1 (length d) (length out)
      (λ e. line 17 (opens_17 e))
      (λ o z. line 23 (opens_23 o z))
      (λ o e f. line 18 (opens_18 o e f))
      (λ f. by_test granted (λ g. by_stage_lem f g t.server.ask.stage refl f.fit.wanted) (λ g. line 8 (opens_8 f g)))

  settle : (n : ℕ) → Verdict → (opens t granted held out d).outcome.answer ≡ Refused n → OpenSays t granted out d n
  settle n (line m s) e = subst (OpenSays t granted out d) (same_refusal (sym (given m s).answer ∙ e)) s
  settle n (none f) e = absurd (f n e)

-- the answer refuses by n exactly when the table says n
pub opens_exactly : (t : State) (granted : Bool) (held out d : List ℕ) (n : ℕ)
    → ((opens t granted held out d).outcome.answer ≡ Refused n) ↔ OpenSays t granted out d n
opens_exactly t granted held out d n = (settle t granted held out d n (verdict t granted held out d), λ s. (given t granted held out d n s).answer)

-- and it then leaves what the number's line says, with held bytes and output as they were
pub opens_leave : (t : State) (granted : Bool) (held out d : List ℕ) (n : ℕ) → (opens t granted held out d).outcome.answer ≡ Refused n
    → OpenLeaves t n (opens t granted held out d).outcome.state × ((opens t granted held out d).held ≡ held) × ((opens t granted held out d).out ≡ out)
opens_leave t granted held out d n e =
    let k = given t granted held out d n (settle t granted held out d n (verdict t granted held out d) e) in
    (k.left, k.held_same, k.out_same)
