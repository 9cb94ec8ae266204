-- No datagram alters a slot of another address: every write of a call is at the place that its ask is about, that place has the sender's address
-- or was free, and the ask stays about it through the exchange. No call for a client alters the slot of another: that place is the one its id finds.
use Rattle.std.specs.Prelude.{Option, Some, None, Result, Ok, Err}
use mathlib.Core.Path.{◌≡◌, refl, sym, ap, ◌∙◌}
use mathlib.Core.Bool.{Bool, true, false}
use Prim.Native.Nat.{ℕ, ◌+◌, ◌-◌, ◌≤◌, ◌<◌}
use native.Mathlib.Omega.{arith}
use mathlib.Core.List.{List, [], ◌∷◌}
use lib.ListN.{length, set}
use lib.Dec.{eqb, ltb, leb}
use borrow.Author.Tests.{eqb-true, leb-false}
use Rattle.serialize.specs.Choice.{pick}
use Rattle.serialize.specs.Runs.{splice}
use Rattle.serialize.specs.Le.{words}
use Rattle.times.specs.declared.Time.{Time}
use Rattle.addresses.specs.declared.Address.{Address}
use Rattle.addresses.specs.Addresses.{words_of}
use Rattle.bodies.specs.declared.PacketType.{PacketType}
use Rattle.bodies.specs.declared.Packet.{Packet}
use Rattle.bodies.specs.declared.Packet.TheVariants as packet
use Rattle.bodies.specs.declared.challenge.ChallengeToken.{ChallengeToken}
use Rattle.bodies.specs.Tokens.{token_at}
use Rattle.places.specs.Layout.{Shaped, used_at, body_at}
use Rattle.places.specs.Columns as columns
use Rattle.places.specs.Columns.{field_of, Elsewhere}
use Rattle.places.specs.Finds.{find_address, find_id, find_free}
use Rattle.places.proofs.Frame.{shaped_kept, elsewhere_refl, elsewhere_trans, elsewhere_put, elsewhere_store}
use Rattle.places.proofs.Ways.{empty_unused}
use Rattle.places.proofs.Searches.{address_found, free_found, true_false}
use Rattle.records.specs.Records.{emptied, moved, put_time}
use Rattle.records.proofs.Kept.{emptied_elsewhere, time_elsewhere}
use Rattle.records.proofs.ReadBack.{moved_elsewhere}
use Rattle.decode.specs.declared.Start.{Start}
use Rattle.decode.specs.Decodes.{type_at, start_at}
use Rattle.server.specs.declared.NetcodeServer.{NetcodeServer}
use Rattle.server.specs.declared.Stage.{Stage}
use Rattle.server.specs.declared.Stage.TheVariants as stage
use Rattle.server.specs.declared.Goal.{Goal}
use Rattle.server.specs.declared.Goal.TheVariants as goal
use Rattle.server.specs.State.{with_ask, with_counters}
use Rattle.server.specs.Held.{held_user_data}
use Rattle.server.specs.Ready.{room_of, misplaced, misfits, goal_misfits, seal_misfits, both_refusal, all_refusal, call_refusal, answer_refusal, before}
use Rattle.server.proofs.Inversions.{neither, call_free, open_refused, both_shaped, all_shaped, answer_fits}
use Rattle.turns.specs.declared.Turn.{Turn}
use Rattle.turns.specs.Outcomes.{State, state, Outcome, refuses, Written, open_refusal}
use Rattle.turns.specs.Packets.{Spoken, Prepared, denied}
use Rattle.arrivals.specs.declared.Sender.{Sender}
use Rattle.arrivals.specs.declared.Sender.TheVariants.{Connected, Pending, Unknown}
use Rattle.arrivals.specs.Requests.{token_asked, request_read}
use Rattle.arrivals.specs.Arrivals.{lent_refusal, arrival_refusal, open_asked, sealed_at, by_start, sealed_from, request_from, sender_in, kind_arrives, by_kind, arrives}
use Rattle.arrivals.proofs.Ways.{slot_found}
use Rattle.opens.specs.Heard.{accepted, touched, slot_says, slot_body, challenge_asked, pending_says, pending_body, body_in, slot_heard, pending_heard}
use Rattle.opens.specs.Responses.{connecting, by_free, by_id, responded}
use Rattle.opens.specs.Opens.{packet_opened, opened, open_answer_refusal, opens}
use Rattle.grants.specs.declared.PrivateConnectToken.{PrivateConnectToken}
use Rattle.grants.specs.Tokens.{Met, challenge_sent, challenged, welcomed, Admitted, by_entry, considered}
use Rattle.grants.specs.Grants.{Granted, grant_refusal, fields_refusal, granted_at, grants}
use Rattle.seals.specs.Waits.{sent_under, connected}
use Rattle.seals.specs.Seals.{unsealed, packet_asked, connects, sends, sealed, by_stage, seal_refusal, seals}
use Rattle.views.proofs.Stores.{words_32, arrived_else, used_alike}
use Rattle.effects.specs.Calls.{Reply, Opens, Grants, Seals, Service, client_of, served, replied, answered}
use Rattle.effects.specs.Spares.{Kept, GoalSpares, PacketSpares, AskSpares, Spares}
use Rattle.effects.proofs.Seen.{pick_all, both_false}
use Rattle.effects.proofs.Opening.{place_below}
use Rattle.effects.proofs.Serving.{Finds, Leaves, same, asks, ends, ends_asking, service_leaves, finds_below}

-- ---- what a write at place i leaves of the others

elsewhere_time : (t : List ℕ) (n i : ℕ) → Shaped t n → i < n → (o : ℕ) → o + 2 ≤ 305 → (v : Time) → Elsewhere n i t (put_time t (body_at n i + o) v)
elsewhere_time t n i s h o w v = time_elsewhere t n i s h o (omega arith) v

elsewhere_accepted : (t : List ℕ) (n i : ℕ) → Shaped t n → i < n → (kind : PacketType) (sequence : ℕ) → Elsewhere n i t (accepted t n i kind sequence)
unfolding accepted
elsewhere_accepted t n i s h kind sequence =
    pick_all (λ (u : List ℕ). Elsewhere n i t u) _ (λ _. arrived_else t n i s h sequence) (λ _. elsewhere_refl n i t)

elsewhere_confirmed : (t : List ℕ) (n i : ℕ) → Shaped t n → i < n → Elsewhere n i t (set t (body_at n i + 0) 1)
elsewhere_confirmed t n i s h = elsewhere_store t n i s h columns.confirmed (omega arith) 0 (body_at n i + 0) 1 (omega arith) (omega arith)

-- a good packet, at its slot alone
elsewhere_says : (s : NetcodeServer) (t : List ℕ) (n i : ℕ) → Shaped t n → i < n → (start end : ℕ) (p : Packet) → Elsewhere n i t (slot_says s t n i start end p).table
unfolding slot_says
elsewhere_says s t n i shape h start end (packet.ConnectionRequest a b) = elsewhere_refl n i t
elsewhere_says s t n i shape h start end packet.ConnectionDenied = elsewhere_refl n i t
elsewhere_says s t n i shape h start end (packet.Challenge a) = elsewhere_refl n i t
elsewhere_says s t n i shape h start end (packet.Response a) = elsewhere_refl n i t
elsewhere_says s t n i shape h start end (packet.KeepAlive a b) = elsewhere_confirmed t n i shape h
elsewhere_says s t n i shape h start end packet.Payload = elsewhere_confirmed t n i shape h
elsewhere_says s t n i shape h start end packet.Disconnect = emptied_elsewhere t n i shape h

elsewhere_body : (s : NetcodeServer) (t : List ℕ) (n i : ℕ) → Shaped t n → i < n → (start end : ℕ) (b : Result Packet ℕ) → Elsewhere n i t (slot_body s t n i start end b).table
unfolding slot_body
elsewhere_body s t n i shape h start end (Ok p) =
    let e = elsewhere_time t n i shape h 9 (omega arith) s.current_time in
    elsewhere_trans e (elsewhere_says s (touched s t n i) n i (shaped_kept e.long shape) h start end p)
elsewhere_body s t n i shape h start end (Err r) = elsewhere_refl n i t

elsewhere_heard : (s : NetcodeServer) (t : List ℕ) (i : ℕ) → Shaped t s.set.slots → i < s.set.slots → (kind : PacketType) (sequence start : ℕ) (d : List ℕ)
    → Elsewhere s.set.slots i t (slot_heard s t i kind sequence start d).table
unfolding slot_heard
elsewhere_heard s t i shape h kind sequence start d =
    let n = s.set.slots in
    let e = elsewhere_accepted t n i shape h kind sequence in
    elsewhere_trans e (elsewhere_body s (accepted t n i kind sequence) n i (shaped_kept e.long shape) h start (length d - 16) (body_in kind start d))

elsewhere_sent : (t : List ℕ) (n i : ℕ) → Shaped t n → i < n → (sequence : ℕ) (v : Time) → Elsewhere n i t (sent_under t n i sequence v)
elsewhere_sent t n i shape h sequence v =
    let e = elsewhere_store t n i shape h columns.sequence (omega arith) 0 (body_at n i + 14) (sequence + 1) (omega arith) (omega arith) in
    elsewhere_trans e (elsewhere_time (set t (body_at n i + 14) (sequence + 1)) n i (shaped_kept e.long shape) h 11 (omega arith) v)

-- a record that moves in, at its slot alone
elsewhere_connected : (t : List ℕ) (n i : ℕ) (p : List ℕ) (m j : ℕ) → Shaped t n → i < n → Shaped p m → j < m → (held : List ℕ) (sequence : ℕ) (v : Time)
    → Elsewhere n i t (connected t n i p m j held sequence v)
elsewhere_connected t n i p m j shape h from there held sequence v =
    let e = moved_elsewhere t n i p m j shape h from there in
    let s = shaped_kept e.long shape in
    let t1 = moved t n i p m j in
    let w = words 32 (held_user_data held) in
    let f = elsewhere_put t1 n i s h columns.user_data (omega arith) (body_at n i + 16) refl w (words_32 (held_user_data held)) in
    elsewhere_trans e (elsewhere_trans f (elsewhere_sent (splice t1 (body_at n i + 16) w) n i (shaped_kept f.long s) h sequence v))

-- ---- a slot spared

module _ (base : List ℕ) (n k : ℕ) (inside : k < n) (used : used_at base k ≡ true) where
  abbrev S : State → Type 0
  S = Spares base n k

  -- what a write elsewhere leaves
  kept_on : (t u : List ℕ) (m i : ℕ) → m ≡ n → Elsewhere m i t u → (i ≡ k → ⊥) → Kept base t n k → Kept base u n k
  kept_on t u m i e w d b g in_place =
      let x : Elsewhere n i t u = rw e at w in
      x.same k inside d g in_place ∙ b g in_place

  still_used : (t : List ℕ) → Kept base t n k → used_at t k ≡ true
  still_used t b = used_alike n k base t (b columns.mark (omega arith)) ∙ used

  -- the slots as they were, and an ask that is not about slot k
  record Turns (t : State) (s : NetcodeServer) : Type 0 where
    set : s.set ≡ t.server.set
    ask : AskSpares k s.ask.stage

  turned : (t : State) → S t → (s : NetcodeServer) (pending : List ℕ) → Turns t s → S (state s t.slots pending)
  turned t b s pending r = record { places = ap (λ (x : _). x.slots) r.set ∙ b.places; kept = b.kept; ask = r.ask }

  -- ---- a datagram from another address

  module _ (t : State) (spared : S t) (idle : t.server.ask.stage ≡ stage.Idle) (addr : Address)
      (far : field_of t.slots n k columns.addr ≡ words_of addr → ⊥)
      (slots : Shaped t.slots t.server.set.slots) (out : ℕ) (d : List ℕ) where
    -- the slot that the address finds is another
    other_slot : (i : ℕ) → sender_in t addr ≡ Connected i → (i < t.server.set.slots) × (i ≡ k → ⊥)
    other_slot i e =
        let f = (address_found t.slots t.server.set.slots slots addr i).0
        (slot_found (find_address t.slots t.server.set.slots addr) (find_address t.pending t.server.set.pending addr) i e) in
        (f.below, λ x. far (ap (λ (m : ℕ). field_of t.slots m k columns.addr) (sym spared.places) ∙ ap (λ (q : ℕ). field_of t.slots t.server.set.slots q columns.addr) (sym x) ∙ f.here.1))

    same_record : Turns t t.server
    same_record = record { set = refl; ask = spared.ask }

    start_spares : (table : List ℕ) (m : ℕ) (connected : Bool) (i : ℕ) (kind : PacketType) → PacketSpares k connected i → (x : Result Start ℕ)
        → Turns t (by_start t.server table m connected i kind out d x).server
    unfolding by_start sealed_at open_asked with_ask
    start_spares table m connected i kind p (Err number) = same_record
    start_spares table m connected i kind p (Ok from) =
        pick_all (λ (r : Turn). Turns t r.server) _
        (λ _. pick_all (λ (r : Turn). Turns t r.server) _ (λ _. same_record) (λ _. record { set = refl; ask = p }))
        (λ _. same_record)

    sealed_spares : (kind : PacketType) (x : Sender) → sender_in t addr ≡ x → Turns t (sealed_from t out kind d x).server
    unfolding sealed_from
    sealed_spares kind (Connected i) e = start_spares t.slots t.server.set.slots true i kind (other_slot i e).1 (start_at d)
    sealed_spares kind (Pending j) e = start_spares t.pending t.server.set.pending false j kind (omega arith) (start_at d)
    sealed_spares kind Unknown e = same_record

    read_spares : Turns t (request_read t.server addr out d).server
    unfolding request_read token_asked with_ask
    read_spares = pick_all (λ (r : Turn). Turns t r.server) _ (λ _. record { set = refl; ask = omega arith }) (λ _. same_record)

    request_spares : (x : Sender) → sender_in t addr ≡ x → S (request_from t addr out d x).state
    unfolding request_from
    request_spares (Connected i) e =
        let o = other_slot i e in
        let m = t.server.set.slots in
        record {
          places = spared.places;
          kept = kept_on t.slots (request_from t addr out d (Connected i)).state.slots m i spared.places (elsewhere_time t.slots m i slots o.0 9 (omega arith) t.server.current_time) o.1 spared.kept;
          ask = spared.ask;
        }
    request_spares (Pending j) e = turned t spared (request_read t.server addr out d).server _ read_spares
    request_spares Unknown e = turned t spared (request_read t.server addr out d).server t.pending read_spares

    kind_spares : (x : Result PacketType ℕ) → S (by_kind t addr out d x).state
    unfolding by_kind kind_arrives
    kind_spares (Err number) = spared
    kind_spares (Ok kind) =
        pick_all (λ (o : Outcome). S o.state) _
        (λ _. pick_all (λ (o : Outcome). S o.state) _ (λ _. spared) (λ _. request_spares (sender_in t addr) refl))
        (λ _. turned t spared (sealed_from t out kind d (sender_in t addr)).server t.pending (sealed_spares kind (sender_in t addr) refl))

  arrives_spares : (t : State) → S t → t.server.ask.stage ≡ stage.Idle → (addr : Address) → (field_of t.slots n k columns.addr ≡ words_of addr → ⊥) → (out : ℕ) (d : List ℕ)
      → S (arrives t addr out d).state
  unfolding arrives arrival_refusal
  arrives_spares t spared idle addr far out d =
      pick_all (λ (o : Outcome). S o.state) (eqb (arrival_refusal t addr out) 0)
      (λ e.
      let both = both_refusal t.server.set (length t.slots) (length t.pending) in
      let f = neither (call_refusal t.server.ask both) (lent_refusal addr out) (eqb-true (arrival_refusal t addr out) 0 e) in
      let b = both_shaped t.server.set t.slots t.pending (call_free t.server.ask both f.0).1 in
      kind_spares t spared idle addr far b.0 out d (type_at d))
      (λ _. spared)

  -- ---- the answers: an ask that is not about slot k

  asked_of : (x y : Stage) → x ≡ y → AskSpares k x → AskSpares k y
  asked_of x y e a = rw e at a

  module _ (t : State) (spared : S t) (slots : Shaped t.slots t.server.set.slots) (pending : Shaped t.pending t.server.set.pending) where
    -- a packet
    heard_spares : (i : ℕ) → (i ≡ k → ⊥) → i < t.server.set.slots → (kind : PacketType) (sequence start : ℕ) (d : List ℕ) (s : NetcodeServer) → Turns t s
        → S (state s (slot_heard t.server t.slots i kind sequence start d).table t.pending)
    heard_spares i away h kind sequence start d s r = record {
      places = ap (λ (x : _). x.slots) r.set ∙ spared.places;
      kept = kept_on t.slots (slot_heard t.server t.slots i kind sequence start d).table t.server.set.slots i spared.places
          (elsewhere_heard t.server t.slots i slots h kind sequence start d) away spared.kept;
      ask = r.ask;
    }

    says_over : (u : List ℕ) (m i start end : ℕ) (p : Packet) → Turns t (slot_says t.server u m i start end p).turn.server
    unfolding slot_says with_ask
    says_over u m i start end (packet.ConnectionRequest a b) = record { set = refl; ask = omega arith }
    says_over u m i start end packet.ConnectionDenied = record { set = refl; ask = omega arith }
    says_over u m i start end (packet.Challenge a) = record { set = refl; ask = omega arith }
    says_over u m i start end (packet.Response a) = record { set = refl; ask = omega arith }
    says_over u m i start end (packet.KeepAlive a b) = record { set = refl; ask = omega arith }
    says_over u m i start end packet.Payload = record { set = refl; ask = omega arith }
    says_over u m i start end packet.Disconnect = record { set = refl; ask = omega arith }

    body_over : (u : List ℕ) (m i start end : ℕ) (b : Result Packet ℕ) → Turns t (slot_body t.server u m i start end b).turn.server
    unfolding slot_body with_ask
    body_over u m i start end (Ok p) = says_over _ m i start end p
    body_over u m i start end (Err r) = record { set = refl; ask = omega arith }

    pending_over : (j start datagram out : ℕ) (p : Packet) → Turns t (pending_says t.server j start datagram out p).server
    unfolding pending_says challenge_asked with_ask
    pending_over j start datagram out (packet.ConnectionRequest a b) = record { set = refl; ask = omega arith }
    pending_over j start datagram out packet.ConnectionDenied = record { set = refl; ask = omega arith }
    pending_over j start datagram out (packet.Challenge a) = record { set = refl; ask = omega arith }
    pending_over j start datagram out (packet.Response a) = record { set = refl; ask = omega arith }
    pending_over j start datagram out (packet.KeepAlive a b) = record { set = refl; ask = omega arith }
    pending_over j start datagram out packet.Payload = record { set = refl; ask = omega arith }
    pending_over j start datagram out packet.Disconnect = record { set = refl; ask = omega arith }

    pending_body_over : (u : List ℕ) (m j start datagram out : ℕ) (b : Result Packet ℕ) → Turns t (pending_body t.server u m j start datagram out b).turn.server
    unfolding pending_body with_ask
    pending_body_over u m j start datagram out (Ok p) = pending_over j start datagram out p
    pending_body_over u m j start datagram out (Err r) = record { set = refl; ask = omega arith }

    packet_spares : (connected : Bool) (place : ℕ) (kind : PacketType) (sequence start : ℕ) (out d : List ℕ) → PacketSpares k connected place
        → misplaced place (room_of connected t.server.set.slots t.server.set.pending) (length d) start 16 ≡ false
        → S (packet_opened t connected place kind sequence start (length out) d).state
    unfolding packet_opened pick room_of slot_heard pending_heard
    packet_spares true place kind sequence start out d away fit =
        heard_spares place away (place_below place t.server.set.slots (length d) start 16 fit) kind sequence start d _ (body_over _ _ place start _ (body_in kind start d))
    packet_spares false place kind sequence start out d away fit =
        turned t spared _ _ (pending_body_over _ _ place start (length d) (length out) (body_in kind start d))

    -- a challenge: the slot that is to take the record is free, so it is not slot k
    denied_spares : (datagram : ℕ) (out key : List ℕ) (a : Address) → Turns t (denied t.server datagram out key a).turn.server
    unfolding denied with_ask
    denied_spares datagram out key a =
        pick_all (λ (x : Spoken). Turns t x.turn.server) _ (λ _. record { set = refl; ask = omega arith }) (λ _. record { set = refl; ask = omega arith })

    free_other : (i : ℕ) → find_free t.slots t.server.set.slots ≡ Some i → i ≡ k → ⊥
    free_other i e x =
        let f = (free_found t.slots t.server.set.slots i).0 e in
        true_false (ap (used_at t.slots) x ∙ still_used t.slots spared.kept) (empty_unused t.slots i f.here)

    connecting_spares : (datagram : ℕ) (held out : List ℕ) (j i : ℕ) → (i ≡ k → ⊥) → (key : List ℕ) (sequence : ℕ) (token : ChallengeToken)
        → Turns t (connecting t.server datagram held out j i key sequence token).turn.server
    unfolding connecting with_ask
    connecting_spares datagram held out j i away key sequence token =
        pick_all (λ (x : Prepared). Turns t x.turn.server) _ (λ _. record { set = refl; ask = omega arith }) (λ _. record { set = refl; ask = away })

    free_spares : (datagram : ℕ) (p held out : List ℕ) (j : ℕ) (token : ChallengeToken) (x : Option ℕ) → find_free t.slots t.server.set.slots ≡ x
        → Turns t (by_free t.server datagram p held out j token x).turn.server
    unfolding by_free
    free_spares datagram p held out j token (Some i) e = connecting_spares datagram held out j i (free_other i e) _ _ token
    free_spares datagram p held out j token None e = denied_spares datagram out _ _

    id_spares : (datagram : ℕ) (p held out : List ℕ) (j : ℕ) (token : ChallengeToken) (x : Option ℕ) → Turns t (by_id t.server datagram t.slots p held out j token x).turn.server
    unfolding by_id with_ask
    id_spares datagram p held out j token (Some q) = record { set = refl; ask = omega arith }
    id_spares datagram p held out j token None = free_spares datagram p held out j token (find_free t.slots t.server.set.slots) refl

    opened_spares : (held out d : List ℕ) (x : Stage) → AskSpares k x → misfits x t.server.set.slots t.server.set.pending (length d) (length out) ≡ false
        → S (opened t held out d x).outcome.state
    unfolding opened misfits responded
    opened_spares held out d stage.Idle a fit = spared
    opened_spares held out d (stage.Packet connected place kind sequence start) a fit = packet_spares connected place kind sequence start out d a fit
    opened_spares held out d (stage.Token b c e f) a fit = spared
    opened_spares held out d (stage.Challenge j start) a fit = turned t spared _ _ (id_spares (length d) _ held out j (token_at d start) (find_id t.slots t.server.set.slots (token_at d start).client_id))
    opened_spares held out d (stage.Seal b c e) a fit = spared

    -- a private token: no slot is written at all
    challenged_spares : (datagram : ℕ) (addr : Address) (expiry : ℕ) (p : PrivateConnectToken) (held out : List ℕ) → Turns t (challenged t.server datagram addr expiry p held out).turn.server
    unfolding challenged challenge_sent with_ask with_counters
    challenged_spares datagram addr expiry p held out =
        pick_all (λ (x : Prepared). Turns t x.turn.server) _
        (λ _. record { set = refl; ask = omega arith })
        (λ _. pick_all (λ (x : Prepared). Turns t x.turn.server) _ (λ _. record { set = refl; ask = omega arith }) (λ _. record { set = refl; ask = omega arith }))

    considered_spares : (datagram : ℕ) (addr : Address) (expiry low high : ℕ) (p : PrivateConnectToken) (entries held out : List ℕ)
        → Turns t (considered t.server datagram addr expiry low high p t.slots t.pending entries held out).met.turn.server
    unfolding considered by_entry welcomed with_ask
    considered_spares datagram addr expiry low high p entries held out =
        pick_all (λ (x : Admitted). Turns t x.met.turn.server) _
        (λ _. record { set = refl; ask = omega arith })
        (λ _. pick_all (λ (x : Admitted). Turns t x.met.turn.server) _
        (λ _. pick_all (λ (x : Met). Turns t x.turn.server) _ (λ _. denied_spares datagram out _ addr) (λ _. challenged_spares datagram addr expiry p held out))
        (λ _. record { set = refl; ask = omega arith }))

    granted_spares : (p : PrivateConnectToken) (list entries public held out : List ℕ) (datagram : ℕ) (x : Stage) → S (granted_at t p list entries public held out datagram x).outcome.state
    unfolding granted_at with_ask
    granted_spares p list entries public held out datagram stage.Idle = spared
    granted_spares p list entries public held out datagram (stage.Packet a b c e f) = spared
    granted_spares p list entries public held out datagram (stage.Token addr expiry low high) =
        pick_all (λ (x : Granted). S x.outcome.state) _
        (λ _. turned t spared _ t.pending (record { set = refl; ask = omega arith }))
        (λ _. turned t spared _ _ (considered_spares datagram addr expiry low high p entries held out))
    granted_spares p list entries public held out datagram (stage.Challenge a b) = spared
    granted_spares p list entries public held out datagram (stage.Seal a b c) = spared

    -- a seal
    goal_spares : (held : List ℕ) (out sequence end : ℕ) (g : Goal) → GoalSpares k g → goal_misfits g t.server.set.slots t.server.set.pending ≡ false
        → S (sealed t held out sequence end g).state
    unfolding sealed packet_asked connects sends with_ask with_counters goal_misfits
    goal_spares held out sequence end (goal.Denied a) away fit = turned t spared _ t.pending (record { set = refl; ask = omega arith })
    goal_spares held out sequence end (goal.ChallengeToken a) away fit = turned t spared _ t.pending (record { set = refl; ask = omega arith })
    goal_spares held out sequence end (goal.ChallengePacket a) away fit = turned t spared _ _ (record { set = refl; ask = omega arith })
    goal_spares held out sequence end (goal.Connecting j i) away fit =
        let b = both_false (leb t.server.set.pending j) (leb t.server.set.slots i) fit in
        let m = t.server.set.slots in
        record {
          places = spared.places;
          kept = kept_on t.slots (connects t held j i sequence end).state.slots m i spared.places
              (elsewhere_connected t.slots m i t.pending t.server.set.pending j slots (leb-false m i b.1) pending (leb-false t.server.set.pending j b.0) held sequence t.server.current_time)
              away spared.kept;
          ask = omega arith;
        }
    goal_spares held out sequence end (goal.Sending i) away fit =
        let m = t.server.set.slots in
        record {
          places = spared.places;
          kept = kept_on t.slots (sends t.server t.slots i sequence end).table m i spared.places
              (elsewhere_sent t.slots m i slots (leb-false m i fit) sequence t.server.current_time) away spared.kept;
          ask = omega arith;
        }
    goal_spares held out sequence end (goal.Ending id a) away fit = turned t spared _ t.pending (record { set = refl; ask = omega arith })

    ungoal_spares : (g : Goal) → Turns t (unsealed t.server g).server
    unfolding unsealed with_ask
    ungoal_spares (goal.Denied a) = record { set = refl; ask = omega arith }
    ungoal_spares (goal.ChallengeToken a) = record { set = refl; ask = omega arith }
    ungoal_spares (goal.ChallengePacket a) = record { set = refl; ask = omega arith }
    ungoal_spares (goal.Connecting j i) = record { set = refl; ask = omega arith }
    ungoal_spares (goal.Sending i) = record { set = refl; ask = omega arith }
    ungoal_spares (goal.Ending id a) = record { set = refl; ask = omega arith }

    stage_spares : (granted : Bool) (held : List ℕ) (out : ℕ) (x : Stage) → AskSpares k x
        → misfits x t.server.set.slots t.server.set.pending t.server.ask.datagram out ≡ false → S (by_stage t granted held out x).state
    unfolding by_stage misfits seal_misfits pick
    stage_spares granted held out stage.Idle a fit = spared
    stage_spares granted held out (stage.Packet b c d e f) a fit = spared
    stage_spares granted held out (stage.Token b c d e) a fit = spared
    stage_spares granted held out (stage.Challenge b c) a fit = spared
    stage_spares true held out (stage.Seal g sequence end) a fit =
        goal_spares held out sequence end g a (both_false (goal_misfits g t.server.set.slots t.server.set.pending) _ fit).0
    stage_spares false held out (stage.Seal g sequence end) a fit = turned t spared _ t.pending (ungoal_spares g)

  -- ---- any answer

  replied_spares : (t : State) → S t → (r : Reply) → S (replied t r)
  unfolding replied opens grants seals grant_refusal open_refusal with_ask
  replied_spares t spared (Opens granted held out d) =
      let both = both_refusal t.server.set (length t.slots) (length t.pending) in
      pick_all (λ (w : Written). S w.outcome.state) _
      (λ e.
      let f = neither (answer_refusal t.server.ask both 1 t.server.set (length d) (length out)) (pick (ltb (length out) 1400) 18 0) (eqb-true (open_answer_refusal t (length d) (length out)) 0 e) in
      let a = answer_fits t.server.ask both 1 t.server.set (length d) (length out) f.0 in
      let s = both_shaped t.server.set t.slots t.pending a.tabled in
      pick_all (λ (w : Written). S w.outcome.state) granted
      (λ _. opened_spares t spared s.0 s.1 held out d t.server.ask.stage spared.ask a.fitting)
      (λ _. turned t spared _ t.pending (record { set = refl; ask = omega arith })))
      (λ _. spared)
  replied_spares t spared (Grants given p list entries public held out datagram) =
      let all = all_refusal t.server.set (length t.slots) (length t.pending) (length entries) (length public) in
      pick_all (λ (w : Granted). S w.outcome.state) _
      (λ e.
      let f = neither (open_refusal t.server all 2 datagram (length out)) (fields_refusal given list) (eqb-true (grant_refusal t (length entries) (length public) datagram (length out) given list) 0 e) in
      let g = neither (answer_refusal t.server.ask all 2 t.server.set datagram (length out)) (pick (ltb (length out) 1400) 18 0) f.0 in
      let a = answer_fits t.server.ask all 2 t.server.set datagram (length out) g.0 in
      let s = all_shaped t.server.set t.slots t.pending entries public a.tabled in
      pick_all (λ (w : Granted). S w.outcome.state) given
      (λ _. granted_spares t spared s.0 s.1 p list entries public held out datagram t.server.ask.stage)
      (λ _. turned t spared _ t.pending (record { set = refl; ask = omega arith })))
      (λ _. spared)
  replied_spares t spared (Seals granted held out) =
      let both = both_refusal t.server.set (length t.slots) (length t.pending) in
      pick_all (λ (w : Outcome). S w.state) _
      (λ e.
      let a = answer_fits t.server.ask both 3 t.server.set t.server.ask.datagram out (eqb-true (seal_refusal t out) 0 e) in
      let s = both_shaped t.server.set t.slots t.pending a.tabled in
      stage_spares t spared s.0 s.1 granted held out t.server.ask.stage spared.ask a.fitting)
      (λ _. spared)

  -- ---- a call for another client

  module _ (t : State) (spared : S t) (id : ℕ) (other : find_id t.slots t.server.set.slots id ≡ Some k → ⊥) where
    module _ (i : ℕ) (f : Finds t.server t.slots id i) where
      -- the slot that the id finds is another
      other_found : i ≡ k → ⊥
      other_found x = other (f.found ∙ ap Some x)

      ended_spares : (s : NetcodeServer) → Turns t s → S (state s (emptied t.slots i) t.pending)
      ended_spares s r =
          let m = t.server.set.slots in
          let b = finds_below t.server t.slots id i f in
          record {
            places = ap (λ (x : _). x.slots) r.set ∙ spared.places;
            kept = kept_on t.slots (emptied t.slots i) m i spared.places (emptied_elsewhere t.slots m i b.0 b.1) other_found spared.kept;
            ask = r.ask;
          }

    leaves_spares : (s : NetcodeServer) (l : List ℕ) → Leaves t.server t.slots id s l → S (state s l t.pending)
    unfolding with_ask
    leaves_spares s l same = spared
    leaves_spares s l (asks i f sequence end out) = turned t spared _ t.pending (record { set = refl; ask = other_found i f })
    leaves_spares s l (ends i f) = ended_spares i f t.server (record { set = refl; ask = spared.ask })
    leaves_spares s l (ends_asking i f addr sequence end out) = ended_spares i f _ (record { set = refl; ask = omega arith })

  -- ---- any answers

  answered_spares : (t : State) → S t → (rs : List Reply) → S (answered t rs)
  unfolding answered
  answered_spares t spared [] = spared
  answered_spares t spared (r ∷ rs) = replied_spares (answered t rs) (answered_spares t spared rs) r

-- while no ask is open, a state spares each of its slots
idle_spares : (t : State) → t.server.ask.stage ≡ stage.Idle → (k : ℕ) → Spares t.slots t.server.set.slots k t
idle_spares t idle k = record { places = refl; kept = λ g w. refl; ask = rw idle (omega arith) }

-- NO DATAGRAM ALTERS A SLOT OF ANOTHER ADDRESS: any tables, any datagram, any list of answers, any buffers. Slot k is used and its address is not
-- the datagram's; no ask is open when the datagram comes (else it is refused as 16, and the answers are another datagram's). Then every word
-- of the slot is as it was.
pub other_address_kept : (t : State) → t.server.ask.stage ≡ stage.Idle → (addr : Address) (out : ℕ) (d : List ℕ) (rs : List Reply)
    → (k : ℕ) → k < t.server.set.slots → used_at t.slots k ≡ true → (field_of t.slots t.server.set.slots k columns.addr ≡ words_of addr → ⊥)
    → Kept t.slots (answered (arrives t addr out d).state rs).slots t.server.set.slots k
other_address_kept t idle addr out d rs k inside used far =
    let n = t.server.set.slots in
    let start = arrives_spares t.slots n k inside used t (idle_spares t idle k) idle addr far out d in
    (answered_spares t.slots n k inside used (arrives t addr out d).state start rs).kept

-- NO CALL FOR A CLIENT ALTERS A SLOT OF ANOTHER: any tables, any call for a client, any list of answers, any buffers. Slot k is used and is not the
-- one that the client's id finds; no ask is open. Then every word of the slot is as it was.
pub other_client_kept : (t : State) → t.server.ask.stage ≡ stage.Idle → (v : Service) (rs : List Reply)
    → (k : ℕ) → k < t.server.set.slots → used_at t.slots k ≡ true → (find_id t.slots t.server.set.slots (client_of v) ≡ Some k → ⊥)
    → Kept t.slots (answered (served t v) rs).slots t.server.set.slots k
other_client_kept t idle v rs k inside used other =
    let n = t.server.set.slots in
    let start = leaves_spares t.slots n k inside used t (idle_spares t idle k) (client_of v) other _ _ (service_leaves t.server t.slots v) in
    (answered_spares t.slots n k inside used (served t v) start rs).kept

-- while an ask is open, a datagram changes nothing at all
pub open_unchanged : (t : State) → (t.server.ask.stage ≡ stage.Idle → ⊥) → (addr : Address) (out : ℕ) (d : List ℕ) → arrives t addr out d ≡ refuses t 16
unfolding arrives arrival_refusal before pick
open_unchanged t busy addr out d =
    let both = both_refusal t.server.set (length t.slots) (length t.pending) in
    simp (open_refused t.server.ask both busy)
