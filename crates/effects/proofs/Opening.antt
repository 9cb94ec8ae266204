-- A yes to a packet moves the window of the record that it is for and no other; a yes to a challenge empties the pending place, whose record
-- stands until the keep-alive is sealed; a no leaves every place as it was.
use Rattle.std.specs.Prelude.{Option, Some, None, Result, Ok, Err}
use mathlib.Core.Path.{◌≡◌, refl, sym, ap, ◌∙◌}
use mathlib.Core.Bool.{Bool, true, false}
use Prim.Native.Nat.{ℕ, ◌+◌, ◌-◌, ◌<◌}
use native.Mathlib.Omega.{arith}
use mathlib.Core.List.{List}
use lib.ListN.{length}
use lib.Dec.{eqb, ltb, leb}
use borrow.Author.Tests.{eqb-true, eqb-false, leb-false, lt-ltb}
use Rattle.serialize.specs.Choice.{pick}
use Rattle.serialize.proofs.Choice.{by_test}
use Rattle.bodies.specs.declared.PacketType.{PacketType}
use Rattle.bodies.specs.declared.Packet.{Packet}
use Rattle.bodies.specs.declared.Packet.TheVariants as packet
use Rattle.bodies.specs.declared.challenge.ChallengeToken.{ChallengeToken}
use Rattle.bodies.specs.Kinds.{windowed}
use Rattle.bodies.specs.Tokens.{token_at}
use Rattle.places.specs.Layout.{Shaped}
use Rattle.places.specs.Finds.{find_id, find_free}
use Rattle.places.proofs.Frame.{shaped_kept}
use Rattle.places.proofs.Searches.{free_found}
use Rattle.records.specs.Records.{emptied}
use Rattle.records.proofs.Kept.{emptied_elsewhere}
use Rattle.server.specs.declared.NetcodeServer.{NetcodeServer}
use Rattle.server.specs.declared.Stage.{Stage}
use Rattle.server.specs.declared.Stage.TheVariants as stage
use Rattle.server.specs.declared.Goal.TheVariants as goal
use Rattle.server.specs.declared.Answer.TheVariants as answer
use Rattle.server.specs.State.{with_ask, idle}
use Rattle.server.specs.Ready.{kind_of, room_of, misplaced, misfits, both_refusal, answer_refusal}
use Rattle.server.proofs.Inversions.{neither, both_shaped, answer_fits}
use Rattle.turns.specs.Outcomes.{State, state, came, leaves, refuses, closed, Half, written, open_refusal, from_slot, from_pending}
use Rattle.turns.specs.Packets.{Spoken, Prepared, holding, denied}
use Rattle.opens.specs.Heard.{accepted, touched, slot_says, slot_body, challenge_asked, pending_says, pending_body, body_in, slot_heard, pending_heard}
use Rattle.opens.specs.Responses.{connecting, by_free, by_id, responded}
use Rattle.opens.specs.Opens.{packet_opened, from_response, opened, open_answer_refusal, opens}
use Rattle.views.specs.Views as views
use Rattle.views.specs.Views.{Place, Slot, Pend, View, standing, gone, advanced, view_at, seen, inside}
use Rattle.views.specs.Effects.{None, Took, Stays, as_is, ended, Others, Effect, kept, took, AskFits, PacketFits, ConnectFits, place_of, Good, Does}
use Rattle.views.proofs.Stores.{view_else, Unseen, unseen_refl, store_unseen, time_unseen, arrived_else, arrived_here, emptied_here, emptied_gone, free_view}
use Rattle.views.proofs.Spread.{by_place_lem}
use Rattle.effects.specs.Calls.{Opens, replied, told_at, told_by}
use Rattle.effects.proofs.Seen.{pick_all, both_false, Settled, seen_slot, seen_pend, inside_same, slots_same, all_same, slot_changes, pend_changes, asks_at, still, unchanged}

-- ---- the table of an opened packet's sender

-- what the record there has to be: its window moved if the packet is windowed
unfoldable due : View → PacketType → ℕ → View
due v kind sequence = pick (windowed kind) (advanced v sequence) v

-- a table that has that at place i, or an empty place, and the others as they were
record Becomes (n i : ℕ) (t : List ℕ) (x : View) (u : List ℕ) : Type 0 where
  here : Stays x (view_at u n i)
  else : (q : ℕ) → (i ≡ q → ⊥) → view_at u n q ≡ view_at t n q

-- a later write that no view shows
becomes_unseen : {n i : ℕ} {t u v : List ℕ} {x : View} → Becomes n i t x u → Unseen n u v → Becomes n i t x v
becomes_unseen {n} {i} {t} {u} {v} {x} b k = record { here = on b.here; else = λ q d. k.same q ∙ b.else q d }
  where
    on : Stays x (view_at u n i) → Stays x (view_at v n i)
    on (as_is e) = as_is (k.same i ∙ e)
    on (ended e) = ended (ap (λ (w : View). w.used) (k.same i) ∙ e)

-- the place emptied
becomes_empty : {n i : ℕ} {t u : List ℕ} {x : View} → Shaped u n → i < n → Becomes n i t x u → Becomes n i t x (emptied u i)
becomes_empty {n} {i} {t} {u} {x} s h b = record {
  here = ended (emptied_gone u n i s h);
  else = λ q d. view_else n i q u (emptied u i) (emptied_elsewhere u n i s h) d ∙ b.else q d;
}

module _ (t : List ℕ) (n i : ℕ) (shape : Shaped t n) (h : i < n) (kind : PacketType) (sequence : ℕ) where
  pub accepted_long : length (accepted t n i kind sequence) ≡ length t
  unfolding accepted
  accepted_long = pick_all (λ (u : List ℕ). length u ≡ length t) _ (λ _. (arrived_else t n i shape h sequence).long) (λ _. refl)

  accepted_view : view_at (accepted t n i kind sequence) n i ≡ due (view_at t n i) kind sequence
  unfolding accepted due pick
  accepted_view = by_test (windowed kind) (λ e. rw e (arrived_here t n i shape h sequence)) (λ e. rw e refl)

  accepted_else : (q : ℕ) → (i ≡ q → ⊥) → view_at (accepted t n i kind sequence) n q ≡ view_at t n q
  unfolding accepted
  accepted_else q d =
      pick_all (λ (u : List ℕ). view_at u n q ≡ view_at t n q) _ (λ _. view_else n i q t _ (arrived_else t n i shape h sequence) d) (λ _. refl)

  accepted_becomes : Becomes n i t (due (view_at t n i) kind sequence) (accepted t n i kind sequence)
  accepted_becomes = record { here = as_is accepted_view; else = accepted_else }

-- ---- the effect of a change at one place

-- p is what it had to become, the others are as they were
heard : (ins : Place → Bool) (f g : Place → View) (p : Place) (kind : PacketType) (sequence : ℕ) → PacketFits f p kind sequence
    → Stays (due (f p) kind sequence) (g p) → Others f g p → Effect ins f (pick (windowed kind) (Took p sequence) None) g
unfolding due pick
heard ins f g p kind sequence fit s o =
    by_test (windowed kind)
    (λ e. rw e (took p sequence refl fit.used (fit.passes e) (rw e at s) o))
    (λ e. rw e (kept refl (λ q. by_place_lem p q (λ x. rw x at (stay e)) (λ d. as_is (o q d)))))
  where
    stay : windowed kind ≡ false → Stays (f p) (g p)
    stay e = rw e at s

module _ (t : State) (good : Good t) (settled : Settled t)
    (slots : Shaped t.slots t.server.set.slots) (pending : Shaped t.pending t.server.set.pending) where
  -- the call is over
  over : (u : State) → u.server ≡ with_ask t.server idle → Settled u
  unfolding with_ask
  over u e = record { none = λ j. ap (λ (x : NetcodeServer). views.leaves x.ask.stage j) e }

  over_set : (u : State) → u.server ≡ with_ask t.server idle → u.server.set ≡ t.server.set
  unfolding with_ask
  over_set u e = ap (λ (x : NetcodeServer). x.set) e

  over_asks : (u : State) → u.server ≡ with_ask t.server idle → AskFits (inside u) (seen u) u.server.ask.stage
  unfolding with_ask
  over_asks u e = let k : u.server.ask.stage ≡ stage.Idle = ap (λ (x : NetcodeServer). x.ask.stage) e in rw k (omega arith)

  -- a no: the ask is closed, and nothing else
  closes : (a : _) → Does t None (leaves t (closed t.server a)).state
  closes a =
      let u = (leaves t (closed t.server a)).state in
      record {
        places = inside_same t u (over_set u refl);
        effect = still (all_same t u (over_set u refl) settled (over u refl) (unseen_refl t.server.set.slots t.slots) (unseen_refl t.server.set.pending t.pending));
        ask = over_asks u refl;
      }

  -- ---- from a slot

  module _ (i : ℕ) (kind : PacketType) (sequence : ℕ) (h : i < t.server.set.slots) (fit : PacketFits (seen t) (Slot i) kind sequence) where
    abbrev x : View
    x = due (view_at t.slots t.server.set.slots i) kind sequence

    record SlotDone (r : Half) : Type 0 where
      server : r.turn.server ≡ with_ask t.server idle
      table : Becomes t.server.set.slots i t.slots x r.table

    slot_done : (r : Half) → SlotDone r → Does t (pick (windowed kind) (Took (Slot i) sequence) None) (from_slot t r).state
    slot_done r k =
        let u = (from_slot t r).state in
        let same = over_set u k.server in
        let c = slot_changes t u same settled (over u k.server) i x k.table.here k.table.else (unseen_refl t.server.set.pending t.pending) in
        record {
          places = inside_same t u same;
          effect = heard (inside t) (seen t) (seen u) (Slot i) kind sequence fit (rw (← seen_slot t i) at c.0) c.1;
          ask = over_asks u k.server;
        }

    module _ (start end : ℕ) (t1 : List ℕ) (s1 : Shaped t1 t.server.set.slots) (b : Becomes t.server.set.slots i t.slots x t1) where
      said : (p : Packet) → SlotDone (slot_says t.server t1 t.server.set.slots i start end p)
      unfolding slot_says
      said (packet.ConnectionRequest a c) = record { server = refl; table = b }
      said packet.ConnectionDenied = record { server = refl; table = b }
      said (packet.Challenge a) = record { server = refl; table = b }
      said (packet.Response a) = record { server = refl; table = b }
      said (packet.KeepAlive a c) = record { server = refl; table = becomes_unseen b (store_unseen t1 t.server.set.slots i s1 h 0 1 (omega arith) (λ e. omega arith)) }
      said packet.Payload = record { server = refl; table = becomes_unseen b (store_unseen t1 t.server.set.slots i s1 h 0 1 (omega arith) (λ e. omega arith)) }
      said packet.Disconnect = record { server = refl; table = becomes_empty s1 h b }

    bodied : (start end : ℕ) (body : Result Packet ℕ) → SlotDone (slot_body t.server (accepted t.slots t.server.set.slots i kind sequence) t.server.set.slots i start end body)
    unfolding slot_body
    bodied start end (Ok p) =
        let n = t.server.set.slots in
        let a = accepted t.slots n i kind sequence in
        let s = shaped_kept (accepted_long t.slots n i slots h kind sequence) slots in
        let k = time_unseen a n i s h 9 t.server.current_time (omega arith) (omega arith) in
        said start end (touched t.server a n i) (shaped_kept k.long s) (becomes_unseen (accepted_becomes t.slots n i slots h kind sequence) k) p
    bodied start end (Err r) = record { server = refl; table = accepted_becomes t.slots t.server.set.slots i slots h kind sequence }

    pub slot_does : (start : ℕ) (d : List ℕ) → Does t (pick (windowed kind) (Took (Slot i) sequence) None) (from_slot t (slot_heard t.server t.slots i kind sequence start d)).state
    unfolding slot_heard
    slot_does start d = slot_done (slot_heard t.server t.slots i kind sequence start d) (bodied start (length d - 16) (body_in kind start d))

  -- ---- from a pending place

  module _ (j : ℕ) (kind : PacketType) (sequence : ℕ) (h : j < t.server.set.pending) (fit : PacketFits (seen t) (Pend j) kind sequence) where
    abbrev y : View
    y = due (view_at t.pending t.server.set.pending j) kind sequence

    due_used : (v : View) → v.used ≡ true → (due v kind sequence).used ≡ true
    unfolding due
    due_used v e = pick_all (λ (w : View). w.used ≡ true) _ (λ _. e) (λ _. e)

    -- a pending table that is as it had to become, and a turn that keeps the set-up and leaves no record on its way
    pend_done : (u : State) → u.server.set ≡ t.server.set → Settled u → u.slots ≡ t.slots
        → view_at u.pending t.server.set.pending j ≡ y
        → ((q : ℕ) → (j ≡ q → ⊥) → view_at u.pending t.server.set.pending q ≡ view_at t.pending t.server.set.pending q)
        → (((seen u (Pend j)).used ≡ true) → AskFits (inside u) (seen u) u.server.ask.stage)
        → Does t (pick (windowed kind) (Took (Pend j) sequence) None) u
    pend_done u same v e here else ask =
        let k : Unseen t.server.set.slots t.slots u.slots = rw e (unseen_refl t.server.set.slots t.slots) in
        let c = pend_changes t u same settled v j y (as_is here) else k in
        let w : seen u (Pend j) ≡ due (seen t (Pend j)) kind sequence =
        seen_pend u v j ∙ ap (λ (x : _). view_at u.pending x.pending j) same ∙ here ∙ ap (λ (x : View). due x kind sequence) (sym (seen_pend t settled j)) in
        record {
          places = inside_same t u same;
          effect = heard (inside t) (seen t) (seen u) (Pend j) kind sequence fit (as_is w) c.1;
          ask = ask (ap (λ (x : View). x.used) w ∙ due_used (seen t (Pend j)) fit.used);
        }

    module _ (start datagram out : ℕ) (t1 : List ℕ) (here : view_at t1 t.server.set.pending j ≡ y)
        (else : (q : ℕ) → (j ≡ q → ⊥) → view_at t1 t.server.set.pending q ≡ view_at t.pending t.server.set.pending q) where
      abbrev Told-it : State → Type 0
      Told-it u = Does t (pick (windowed kind) (Took (Pend j) sequence) None) u

      quiet : (a : _) → Told-it (state (closed t.server a).server t.slots t1)
      quiet a = let u = state (closed t.server a).server t.slots t1 in pend_done u (over_set u refl) (over u refl) refl here else (λ _. over_asks u refl)

      asks : (token : ℕ) → Told-it (state (challenge_asked t.server j token start datagram out).server t.slots t1)
      unfolding challenge_asked with_ask
      asks token = pend_done (state (challenge_asked t.server j token start datagram out).server t.slots t1) refl (record { none = λ k. refl }) refl here else (λ e. e)

      responds : (p : Packet) → Told-it (state (pending_says t.server j start datagram out p).server t.slots t1)
      unfolding pending_says
      responds (packet.ConnectionRequest a c) = quiet answer.Nothing
      responds packet.ConnectionDenied = quiet answer.Nothing
      responds (packet.Challenge a) = quiet answer.Nothing
      responds (packet.Response a) = asks a
      responds (packet.KeepAlive a c) = quiet answer.Nothing
      responds packet.Payload = quiet answer.Nothing
      responds packet.Disconnect = quiet answer.Nothing

    pend_bodied : (start datagram out : ℕ) (body : Result Packet ℕ)
        → Does t (pick (windowed kind) (Took (Pend j) sequence) None)
        (from_pending t (pending_body t.server (accepted t.pending t.server.set.pending j kind sequence) t.server.set.pending j start datagram out body)).state
    unfolding pending_body
    pend_bodied start datagram out (Ok p) =
        let m = t.server.set.pending in
        let a = accepted t.pending m j kind sequence in
        let s = shaped_kept (accepted_long t.pending m j pending h kind sequence) pending in
        let k = time_unseen a m j s h 9 t.server.current_time (omega arith) (omega arith) in
        responds start datagram out (touched t.server a m j)
        (k.same j ∙ accepted_view t.pending m j pending h kind sequence) (λ q d. k.same q ∙ accepted_else t.pending m j pending h kind sequence q d) p
    pend_bodied start datagram out (Err r) =
        let m = t.server.set.pending in
        quiet start datagram out (accepted t.pending m j kind sequence) (accepted_view t.pending m j pending h kind sequence) (accepted_else t.pending m j pending h kind sequence)
        (answer.Refused r)

    pub pend_does : (start out : ℕ) (d : List ℕ)
        → Does t (pick (windowed kind) (Took (Pend j) sequence) None) (from_pending t (pending_heard t.server t.pending j kind sequence start out d)).state
    unfolding pending_heard
    pend_does start out d = pend_bodied start (length d) out (body_in kind start d)

  -- ---- a challenge: the pending place is emptied; what its record does then

  module _ (j : ℕ) (h : j < t.server.set.pending) (used : (seen t (Pend j)).used ≡ true) where
    abbrev left : List ℕ
    left = emptied t.pending j

    -- the record has ended
    leaves_place : (u : State) → u.server.set ≡ t.server.set → Settled u → u.slots ≡ t.slots → u.pending ≡ left → AskFits (inside u) (seen u) u.server.ask.stage → Does t None u
    leaves_place u same v e f ask =
        let m = t.server.set.pending in
        let k : Unseen t.server.set.slots t.slots u.slots = rw e (unseen_refl t.server.set.slots t.slots) in
        let here : Stays (seen t (Pend j)) (view_at u.pending m j) = ended (ap (λ (l : List ℕ). (view_at l m j).used) f ∙ emptied_gone t.pending m j pending h) in
        let c = pend_changes t u same settled v j (seen t (Pend j)) here
        (λ q d. ap (λ (l : List ℕ). view_at l m q) f ∙ view_else m j q t.pending left (emptied_elsewhere t.pending m j pending h) d) k in
        record {
          places = inside_same t u same;
          effect = kept refl (λ q. by_place_lem (Pend j) q (λ x. rw x at c.0) (λ d. as_is (c.1 q d)));
          ask = ask;
        }

    -- the record is on its way to slot i: it stands where it stood
    module _ (i : ℕ) (free : find_free t.slots t.server.set.slots ≡ Some i) (u : State)
        (same : u.server.set ≡ t.server.set) (e : u.slots ≡ t.slots) (f : u.pending ≡ left)
        (sequence end : ℕ) (on : u.server.ask.stage ≡ stage.Seal (goal.Connecting j i) sequence end) where
      pends : (q : ℕ) → seen u (Pend q) ≡ pick (eqb j q) (standing (view_at left t.server.set.pending q)) (view_at left t.server.set.pending q)
      unfolding seen
      pends q = rw (on, same, f) refl

      standing_again : (v : View) → v.used ≡ true → standing (gone v) ≡ v
      standing_again v w = ap (λ (b : Bool). views.view b v.addr v.key v.id v.win) (sym w)

      stands : (q : ℕ) → seen u (Pend q) ≡ seen t (Pend q)
      unfolding pick
      stands q =
          let m = t.server.set.pending in
          by_test (eqb j q)
          (λ x.
          let z : j ≡ q = eqb-true j q x in
          let w : (view_at t.pending m j).used ≡ true = ap (λ (v : View). v.used) (sym (seen_pend t settled j)) ∙ used in
          pends q ∙ rw x (rw (← z) (ap standing (emptied_here t.pending m j pending h) ∙ standing_again (view_at t.pending m j) w ∙ sym (seen_pend t settled j))))
          (λ x.
          pends q ∙ rw x (view_else m j q t.pending left (emptied_elsewhere t.pending m j pending h) (eqb-false j q x) ∙ sym (seen_pend t settled q)))

      all_stand : (q : Place) → seen u q ≡ seen t q
      all_stand (Slot k) = slots_same t u same (rw e (unseen_refl t.server.set.slots t.slots)) k
      all_stand (Pend q) = stands q

      on_its_way : Does t None u
      on_its_way =
          let n = t.server.set.slots in
          let k = (free_found t.slots n i).0 free in
          let s : (seen u (Slot i)).used ≡ false = ap (λ (v : View). v.used) (all_stand (Slot i) ∙ seen_slot t i) ∙ free_view t.slots n i slots k.below k.here in
          let a : ConnectFits (inside u) (seen u) j i = record {
            from = ap (λ (v : View). v.used) (all_stand (Pend j)) ∙ used;
            in_pending = inside_same t u same (Pend j) ∙ good.apart.within (Pend j) used;
            to = s;
            in_slots = inside_same t u same (Slot i) ∙ (unfold inside in lt-ltb i n k.below);
          } in
          record { places = inside_same t u same; effect = still all_stand; ask = asks_at (inside u) (seen u) u.server.ask.stage (stage.Seal (goal.Connecting j i) sequence end) on a }

    -- ---- the response, by the challenge's id, then by a free slot

    -- the call is over, or asks to seal a denied
    parts : (s : NetcodeServer) → s.set ≡ t.server.set → ((k : ℕ) → views.leaves s.ask.stage k ≡ false)
        → ((ins : Place → Bool) (f : Place → View) → AskFits ins f s.ask.stage) → Does t None (state s t.slots left)
    parts s same v a = let u = state s t.slots left in leaves_place u same (record { none = v }) refl refl (a (inside u) (seen u))

    over_parts : (a : _) → Does t None (came (closed t.server a) t.slots left).state
    unfolding with_ask
    over_parts a = parts (closed t.server a).server refl (λ k. refl) (λ ins f. omega arith)

    record Answers (p : Prepared) : Type 0 where
      is : Does t None (came p.turn t.slots left).state

    denies : (datagram : ℕ) (held out key : List ℕ) (a : _) → Answers (holding held (denied t.server datagram out key a))
    unfolding denied with_ask
    denies datagram held out key a = record {
      is = pick_all (λ (x : Spoken). Does t None (came x.turn t.slots left).state) _
          (λ _. over_parts (answer.Refused 15))
          (λ _. parts _ refl (λ k. refl) (λ ins f. omega arith));
    }

    connects : (datagram : ℕ) (held out : List ℕ) (i : ℕ) → find_free t.slots t.server.set.slots ≡ Some i → (key : List ℕ) (sequence : ℕ) (token : ChallengeToken)
        → Answers (connecting t.server datagram held out j i key sequence token)
    unfolding connecting with_ask
    connects datagram held out i free key sequence token =
        pick_all Answers _
        (λ _. record { is = over_parts (answer.Refused 15) })
        (λ _. record { is = on_its_way i free _ refl refl refl sequence _ refl })

    by_free_lem : (datagram : ℕ) (held out : List ℕ) (token : ChallengeToken) (x : Option ℕ) → find_free t.slots t.server.set.slots ≡ x
        → Answers (by_free t.server datagram left held out j token x)
    unfolding by_free
    by_free_lem datagram held out token (Some i) e = connects datagram held out i e _ _ token
    by_free_lem datagram held out token None e = denies datagram held out _ _

    by_id_lem : (datagram : ℕ) (held out : List ℕ) (token : ChallengeToken) (x : Option ℕ) → Answers (by_id t.server datagram t.slots left held out j token x)
    unfolding by_id
    by_id_lem datagram held out token (Some k) = record { is = over_parts answer.Nothing }
    by_id_lem datagram held out token None = by_free_lem datagram held out token (find_free t.slots t.server.set.slots) refl

    pub response_does : (held out : List ℕ) (at : ℕ) (d : List ℕ) → Does t None (from_response t j (responded t.server t.slots t.pending held out j at d)).outcome.state
    unfolding responded
    response_does held out at d = (by_id_lem (length d) held out (token_at d at) (find_id t.slots t.server.set.slots (token_at d at).client_id)).is

-- ---- the whole

-- what an open ask of this kind says of places and parts
pub place_below : (place places room at n : ℕ) → misplaced place places room at n ≡ false → place < places
unfolding misplaced
place_below place places room at n e = leb-false places place (both_false (leb places place) (ltb room (at + n)) e).0

module _ (t : State) (good : Good t) (slots : Shaped t.slots t.server.set.slots) (pending : Shaped t.pending t.server.set.pending)
    (held out d : List ℕ) where
  abbrev Fitting : Stage → Type 0
  Fitting x = misfits x t.server.set.slots t.server.set.pending (length d) (length out) ≡ false

  settled_at : (x : Stage) → t.server.ask.stage ≡ x → ((j : ℕ) → views.leaves x j ≡ false) → Settled t
  settled_at x e k = record { none = λ j. ap (λ (y : Stage). views.leaves y j) e ∙ k j }

  asked_at : (x : Stage) → t.server.ask.stage ≡ x → AskFits (inside t) (seen t) x
  asked_at x e = asks_at (inside t) (seen t) x t.server.ask.stage (sym e) good.ask

  packet_does : (connected : Bool) (place : ℕ) (kind : PacketType) (sequence start : ℕ) → t.server.ask.stage ≡ stage.Packet connected place kind sequence start
      → Fitting (stage.Packet connected place kind sequence start)
      → Does t (pick (windowed kind) (Took (place_of connected place) sequence) None) (packet_opened t connected place kind sequence start (length out) d).state
  unfolding packet_opened pick place_of misfits room_of
  packet_does true place kind sequence start e fit =
      slot_does t good (settled_at (stage.Packet true place kind sequence start) e (λ j. refl)) slots pending place kind sequence
      (place_below place t.server.set.slots (length d) start 16 fit) (asked_at (stage.Packet true place kind sequence start) e) start d
  packet_does false place kind sequence start e fit =
      pend_does t good (settled_at (stage.Packet false place kind sequence start) e (λ j. refl)) slots pending place kind sequence
      (place_below place t.server.set.pending (length d) start 16 fit) (asked_at (stage.Packet false place kind sequence start) e) start (length out) d

  -- by the stage and the answer
  stage_does : (granted : Bool) (x : Stage) → t.server.ask.stage ≡ x → kind_of x ≡ 1 → Fitting x
      → Does t (told_at x granted) (pick granted (opened t held out d x) (written (leaves t (closed t.server (answer.Refused 8))) held out)).outcome.state
  unfolding pick kind_of told_at opened misfits
  stage_does granted stage.Idle e k fit = absurd (omega arith)
  stage_does true (stage.Packet connected place kind sequence start) e k fit = packet_does connected place kind sequence start e fit
  stage_does false (stage.Packet connected place kind sequence start) e k fit =
      closes t good (settled_at (stage.Packet connected place kind sequence start) e (λ j. refl)) slots pending (answer.Refused 8)
  stage_does granted (stage.Token a b c f) e k fit = absurd (omega arith)
  stage_does true (stage.Challenge place start) e k fit =
      response_does t good (settled_at (stage.Challenge place start) e (λ j. refl)) slots pending place
      (place_below place t.server.set.pending (length d) start 300 fit) (asked_at (stage.Challenge place start) e) held out start d
  stage_does false (stage.Challenge place start) e k fit = closes t good (settled_at (stage.Challenge place start) e (λ j. refl)) slots pending (answer.Refused 8)
  stage_does granted (stage.Seal a b c) e k fit = absurd (omega arith)

-- THE EFFECT OF AN ANSWER TO AN OPEN: the record that the ask was for accepts the sequence, or no record does
pub opens_does : (t : State) → Good t → (granted : Bool) (held out d : List ℕ) → Does t (told_by t (Opens granted held out d)) (replied t (Opens granted held out d))
unfolding told_by replied opens pick open_refusal
opens_does t good granted held out d = by (eqb r 0) refl
  where
    r : ℕ
    r = open_answer_refusal t (length d) (length out)

    both : ℕ
    both = both_refusal t.server.set (length t.slots) (length t.pending)

    by : (b : Bool) → eqb r 0 ≡ b
        → Does t (pick b (told_at t.server.ask.stage granted) None)
        (pick b (pick granted (opened t held out d t.server.ask.stage) (written (leaves t (closed t.server (answer.Refused 8))) held out)) (written (refuses t r) held out)).outcome.state
    by true e =
        let k = neither (answer_refusal t.server.ask both 1 t.server.set (length d) (length out)) (pick (ltb (length out) 1400) 18 0) (eqb-true r 0 e) in
        let a = answer_fits t.server.ask both 1 t.server.set (length d) (length out) k.0 in
        let s = both_shaped t.server.set t.slots t.pending a.tabled in
        stage_does t good s.0 s.1 held out d granted t.server.ask.stage refl a.wanted a.fitting
    by false e = unchanged t good.ask
