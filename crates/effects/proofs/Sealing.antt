-- A sealed challenge makes the sender's record at a free pending place, or moves the two times of the one that it has; a sealed first
-- keep-alive moves the record that was on its way to its slot; no other seal changes what is seen, and a no ends the record on its way.
use Rattle.std.specs.Prelude.{Option, Some, None}
use mathlib.Core.Path.{◌≡◌, refl, sym, ap, ◌∙◌}
use mathlib.Core.Bool.{Bool, true, false}
use Prim.Native.Nat.{ℕ, ◌+◌, ◌<◌}
use native.Mathlib.Omega.{arith}
use mathlib.Core.List.{List}
use lib.ListN.{length, set, length-replicate}
use lib.Dec.{eqb, leb}
use borrow.Author.Tests.{eqb-true, eqb-false, ltb-true, leb-false, lt-ltb, eq-eqb, ne_eqb}
use Rattle.serialize.specs.Choice.{pick}
use Rattle.serialize.specs.Runs.{splice}
use Rattle.serialize.specs.Le.{words}
use Rattle.serialize.proofs.Choice.{by_test}
use Rattle.times.specs.declared.Time.{Time}
use Rattle.addresses.specs.declared.Address.{Address}
use Rattle.addresses.specs.Addresses.{words_of}
use Rattle.replay_protection.specs.Replay.{fresh, EMPTY}
use Rattle.replay_protection.specs.Ours.{width}
use Rattle.places.specs.Layout.{Shaped}
use Rattle.places.specs.Finds.{find_address, find_free}
use Rattle.places.proofs.Frame.{shaped_kept}
use Rattle.places.proofs.Searches.{address_found, address_none, free_found}
use Rattle.records.specs.Records.{emptied, filled, moved, put_time}
use Rattle.records.proofs.Kept.{emptied_elsewhere}
use Rattle.records.proofs.ReadBack.{moved_elsewhere}
use Rattle.server.specs.declared.NetcodeServer.{NetcodeServer}
use Rattle.server.specs.declared.Answer.{Answer}
use Rattle.server.specs.declared.Answer.TheVariants as answer
use Rattle.server.specs.declared.Stage.{Stage}
use Rattle.server.specs.declared.Stage.TheVariants as stage
use Rattle.server.specs.declared.Goal.{Goal}
use Rattle.server.specs.declared.Goal.TheVariants as goal
use Rattle.server.specs.State.{with_ask, with_counters}
use Rattle.server.specs.Held.{held_user_data}
use Rattle.server.specs.Ready.{kind_of, goal_misfits, seal_misfits, misfits, both_refusal}
use Rattle.server.proofs.Inversions.{both_shaped, answer_fits}
use Rattle.turns.specs.Outcomes.{State, came, leaves, refuses, closed, spent, from_slot}
use Rattle.seals.specs.Waits.{newcomer, by_place, by_same, sent_under, connected}
use Rattle.seals.specs.Seals.{unsealed, packet_asked, connects, sends, sealed, by_stage, seal_refusal, seals}
use Rattle.views.specs.Views as views
use Rattle.views.specs.Views.{Place, Slot, Pend, View, standing, view_at, seen, inside}
use Rattle.views.specs.Effects as effects
use Rattle.views.specs.Effects.{None, Stays, as_is, ended, kept, made, AskFits, GoalFits, Unconnected, ConnectFits, Good, Does}
use Rattle.views.proofs.Stores.{words_32, view_inside, view_within, view_else, Unseen, unseen_refl, unseen_trans, store_unseen, put_unseen, time_unseen, emptied_gone, free_view, filled_here, filled_else, moved_here}
use Rattle.effects.specs.Calls.{Seals, replied}
use Rattle.effects.proofs.Seen.{both_false, Settled, seen_slot, seen_pend, inside_same, slots_same, all_same, pend_changes, asks_at, still, unchanged}

-- the fresh window has as many places as a table's
fresh_full : length (fresh width).ring ≡ width
unfolding fresh
fresh_full = length-replicate width EMPTY

-- two words of a packet sent
sent_unseen : (t : List ℕ) (n i : ℕ) → Shaped t n → i < n → (sequence : ℕ) (time : Time) → Unseen n t (sent_under t n i sequence time)
sent_unseen t n i s h sequence time =
    let a = store_unseen t n i s h 14 (sequence + 1) (omega arith) (λ _. omega arith) in
    unseen_trans a (time_unseen (set t _ (sequence + 1)) n i (shaped_kept a.long s) h 11 time (omega arith) (omega arith))

module _ (t : State) (good : Good t) (slots : Shaped t.slots t.server.set.slots) (pending : Shaped t.pending t.server.set.pending) where
  -- ---- no record is on its way

  module _ (settled : Settled t) where
    -- the state afterwards looks the same
    quiet : (u : State) → u.server.set ≡ t.server.set → Settled u → Unseen t.server.set.slots t.slots u.slots
        → Unseen t.server.set.pending t.pending u.pending → AskFits (inside u) (seen u) u.server.ask.stage → Does t None u
    quiet u same v a b f = record { places = inside_same t u same; effect = still (all_same t u same settled v a b); ask = f }

    -- only the record of the server is new, and the call is over
    ends : (s : NetcodeServer) (a : _) → s.set ≡ t.server.set → Does t None (leaves t (closed s a)).state
    unfolding with_ask
    ends s a e =
        quiet (leaves t (closed s a)).state e (record { none = λ j. refl }) (unseen_refl t.server.set.slots t.slots) (unseen_refl t.server.set.pending t.pending) (omega arith)

    -- ---- the challenge is sealed

    -- the address is that of no record: it stands at no slot and was not found among the pending
    nobody_has : (addr : Address) → Unconnected (seen t) addr → find_address t.pending t.server.set.pending addr ≡ None
        → (q : Place) → (seen t q).used ≡ true → (seen t q).addr ≡ words_of addr → ⊥
    nobody_has addr free none (Slot i) used at = free i used at
    nobody_has addr free none (Pend j) used at =
        let m = t.server.set.pending in
        let v = seen_pend t settled j in
        let w : (view_at t.pending m j).used ≡ true = ap (λ (x : View). x.used) (sym v) ∙ used in
        let h : j < m = ltb-true j m (view_within t.pending m j w) in
        let k = view_inside t.pending m j h in
        (address_none t.pending m pending addr).0 none j h (ap (λ (x : View). x.used) (sym k) ∙ w, ap (λ (x : View). x.addr) (sym k ∙ sym v) ∙ at)

    module _ (addr : Address) (free : Unconnected (seen t) addr) (held : List ℕ) (time : Time) (s : NetcodeServer) (a : Answer) (same : s.set ≡ t.server.set) where
      abbrev u : List ℕ → State
      u p = (came (closed s a) t.slots p).state

      settled_u : (p : List ℕ) → Settled (u p)
      unfolding with_ask
      settled_u p = record { none = λ j. refl }

      same_u : (p : List ℕ) → (u p).server.set ≡ t.server.set
      unfolding with_ask
      same_u p = same

      asks_u : (p : List ℕ) → AskFits (inside (u p)) (seen (u p)) (u p).server.ask.stage
      unfolding with_ask
      asks_u p = omega arith

      -- a free place takes the newcomer
      takes : (j : ℕ) → find_free t.pending t.server.set.pending ≡ Some j → find_address t.pending t.server.set.pending addr ≡ None
          → Does t None (u (filled t.pending t.server.set.pending j (newcomer held addr time)))
      takes j e none =
          let m = t.server.set.pending in
          let c = newcomer held addr time in
          let p = filled t.pending m j c in
          let k = (free_found t.pending m j).0 e in
          let h = k.below in
          let x = filled_here t.pending m j pending h c fresh_full in
          let v : seen (u p) (Pend j) ≡ view_at p m j = seen_pend (u p) (settled_u p) j ∙ ap (λ (y : _). view_at p y.pending j) (same_u p) in
          let o = pend_changes t (u p) (same_u p) settled (settled_u p) j (view_at p m j) (as_is refl)
          (λ q d. view_else m j q t.pending p (filled_else t.pending m j pending h c fresh_full) d) (unseen_refl t.server.set.slots t.slots) in
          record {
            places = inside_same t (u p) (same_u p);
            effect = made j refl (unfold inside in lt-ltb j m h)
                (ap (λ (y : View). y.used) (seen_pend t settled j) ∙ free_view t.pending m j pending h k.here)
                (ap (λ (y : View). y.used) (v ∙ x))
                (ap (λ (y : View). y.win) (v ∙ x))
                (λ q used at. nobody_has addr free none q used (at ∙ ap (λ (y : View). y.addr) (v ∙ x)))
                o.1;
            ask = asks_u p;
          }

      by_free_lem : find_address t.pending t.server.set.pending addr ≡ None → (x : Option ℕ) → find_free t.pending t.server.set.pending ≡ x
          → Does t None (u (by_place t.pending t.server.set.pending held addr time x))
      unfolding by_place
      by_free_lem none (Some j) e = takes j e none
      by_free_lem none None e =
          quiet (u t.pending) (same_u t.pending) (settled_u t.pending) (unseen_refl t.server.set.slots t.slots) (unseen_refl t.server.set.pending t.pending) (asks_u t.pending)

      by_same_lem : (x : Option ℕ) → find_address t.pending t.server.set.pending addr ≡ x → Does t None (u (by_same t.pending t.server.set.pending held addr time x))
      unfolding by_same
      by_same_lem (Some j) e =
          let m = t.server.set.pending in
          let h = ((address_found t.pending m pending addr j).0 e).below in
          let b = time_unseen t.pending m j pending h 9 time (omega arith) (omega arith) in
          let c = time_unseen (put_time t.pending _ time) m j (shaped_kept b.long pending) h 11 time (omega arith) (omega arith) in
          let p = by_same t.pending m held addr time (Some j) in
          quiet (u p) (same_u p) (settled_u p) (unseen_refl t.server.set.slots t.slots) (unseen_trans b c) (asks_u p)
      by_same_lem None e = by_free_lem e (find_free t.pending t.server.set.pending) refl

  -- ---- a record is on its way to its slot

  module _ (j i sequence end : ℕ) (on : t.server.ask.stage ≡ stage.Seal (goal.Connecting j i) sequence end) (fit : ConnectFits (inside t) (seen t) j i)
      (in_pending : j < t.server.set.pending) (in_slots : i < t.server.set.slots) where
    pends : (q : ℕ) → seen t (Pend q) ≡ pick (eqb j q) (standing (view_at t.pending t.server.set.pending q)) (view_at t.pending t.server.set.pending q)
    unfolding seen
    pends q = ap (λ (x : Stage). pick (views.leaves x q) (standing (view_at t.pending t.server.set.pending q)) (view_at t.pending t.server.set.pending q)) on

    here_pend : seen t (Pend j) ≡ standing (view_at t.pending t.server.set.pending j)
    unfolding pick
    here_pend = pends j ∙ simp (eq-eqb j j refl)

    other_pend : (q : ℕ) → (j ≡ q → ⊥) → seen t (Pend q) ≡ view_at t.pending t.server.set.pending q
    unfolding pick
    other_pend q d = pends q ∙ simp (ne_eqb j q d)

    -- the pending place is empty and the others are as they were
    pend_after : (u : State) → u.server.set ≡ t.server.set → Settled u → u.pending ≡ emptied t.pending j
        → ((seen u (Pend j)).used ≡ false) × ((q : ℕ) → (j ≡ q → ⊥) → seen u (Pend q) ≡ seen t (Pend q))
    pend_after u same v e =
        let m = t.server.set.pending in
        let w : (q : ℕ) → seen u (Pend q) ≡ view_at (emptied t.pending j) m q =
        λ q. seen_pend u v q ∙ ap (λ (x : _). view_at u.pending x.pending q) same ∙ ap (λ (l : List ℕ). view_at l m q) e in (
          ap (λ (x : View). x.used) (w j) ∙ emptied_gone t.pending m j pending in_pending,
          λ q d. w q ∙ view_else m j q t.pending (emptied t.pending j) (emptied_elsewhere t.pending m j pending in_pending) d ∙ sym (other_pend q d),
        )

    abbrev t1 : List ℕ
    t1 = moved t.slots t.server.set.slots i t.pending t.server.set.pending j

    -- user data, counter and sent time of the slot that has it are not seen
    slots_after : (held : List ℕ) (time : Time)
        → Unseen t.server.set.slots t1 (connected t.slots t.server.set.slots i t.pending t.server.set.pending j held sequence time)
    slots_after held time =
        let n = t.server.set.slots in
        let s1 = shaped_kept (moved_elsewhere t.slots n i t.pending t.server.set.pending j slots in_slots pending in_pending).long slots in
        let b = put_unseen t1 n i s1 in_slots 16 32 (words 32 (held_user_data held)) (omega arith) (omega arith) (words_32 (held_user_data held)) in
        unseen_trans b (sent_unseen (splice t1 _ (words 32 (held_user_data held))) n i (shaped_kept b.long s1) in_slots sequence time)

    -- a yes: the slot has the record
    module _ (held : List ℕ) where
      abbrev w : State
      w = (connects t held j i sequence end).state

      settled_c : Settled w
      unfolding connects with_ask
      settled_c = record { none = λ k. refl }

      same_c : w.server.set ≡ t.server.set
      unfolding connects with_ask
      same_c = refl

      asks_c : AskFits (inside w) (seen w) w.server.ask.stage
      unfolding connects with_ask
      asks_c = omega arith

      pending_u : w.pending ≡ emptied t.pending j
      unfolding connects
      pending_u = refl

      slot_u : (k : ℕ) → seen w (Slot k) ≡ view_at t1 t.server.set.slots k
      unfolding connects with_ask
      slot_u k = seen_slot w k ∙ (slots_after held t.server.current_time).same k

      other_u : (q : Place) → (Pend j ≡ q → ⊥) → (Slot i ≡ q → ⊥) → seen w q ≡ seen t q
      other_u (Slot k) d e =
          let n = t.server.set.slots in
          slot_u k
          ∙ view_else n i k t.slots t1 (moved_elsewhere t.slots n i t.pending t.server.set.pending j slots in_slots pending in_pending) (λ x. e (ap Slot x))
          ∙ sym (seen_slot t k)
      other_u (Pend q) d e = (pend_after w same_c settled_c pending_u).1 q (λ x. d (ap Pend x))

      connect_does : Does t None w
      connect_does = record {
        places = inside_same t w same_c;
        effect = effects.moved j i refl fit.in_slots fit.from fit.to (pend_after w same_c settled_c pending_u).0
            (slot_u i ∙ moved_here t.slots t.server.set.slots i t.pending t.server.set.pending j slots in_slots pending in_pending ∙ sym here_pend)
            other_u;
        ask = asks_c;
      }

    -- a no: the record has ended
    stays_or_ends : (v : View) → Stays (standing v) v
    stays_or_ends v = by_test v.used (λ e. as_is (ap (λ (b : Bool). views.view b v.addr v.key v.id v.win) e)) (λ e. ended e)

    abandoned : (u : State) → u.server.set ≡ t.server.set → Settled u → u.slots ≡ t.slots → u.pending ≡ t.pending → (q : Place) → Stays (seen t q) (seen u q)
    abandoned u same v e f (Slot k) = as_is (slots_same t u same (rw e (unseen_refl t.server.set.slots t.slots)) k)
    abandoned u same v e f (Pend q) =
        let m = t.server.set.pending in
        let x : seen u (Pend q) ≡ view_at t.pending m q = seen_pend u v q ∙ ap (λ (y : _). view_at u.pending y.pending q) same ∙ ap (λ (l : List ℕ). view_at l m q) f in
        by_test (eqb j q)
        (λ z.
        let k : j ≡ q = eqb-true j q z in
        let h : seen t (Pend q) ≡ standing (view_at t.pending m q) = ap (λ (r : ℕ). seen t (Pend r)) (sym k) ∙ here_pend ∙ ap (λ (r : ℕ). standing (view_at t.pending m r)) k in
        rw (x, h) (stays_or_ends (view_at t.pending m q)))
        (λ z. as_is (x ∙ sym (other_pend q (eqb-false j q z))))

    abandons : (a : Answer) → Does t None (leaves t (closed t.server a)).state
    unfolding with_ask
    abandons a =
        let u = (leaves t (closed t.server a)).state in
        record { places = inside_same t u refl; effect = kept refl (abandoned u refl (record { none = λ k. refl }) refl refl); ask = omega arith }

  -- ---- by the goal

  goal_settled : (g : Goal) (sequence end : ℕ) → t.server.ask.stage ≡ stage.Seal g sequence end → ((j : ℕ) → views.goal_leaves g j ≡ false) → Settled t
  goal_settled g sequence end e k = record { none = λ j. ap (λ (x : Stage). views.leaves x j) e ∙ k j }

  goal_fits : (g : Goal) (sequence end : ℕ) → t.server.ask.stage ≡ stage.Seal g sequence end → GoalFits (inside t) (seen t) g
  goal_fits g sequence end e = asks_at (inside t) (seen t) (stage.Seal g sequence end) t.server.ask.stage (sym e) good.ask

  -- the packet around a sealed challenge token is to be sealed
  asks_packet : (held : List ℕ) (out : ℕ) (addr : Address) (sequence end : ℕ) → t.server.ask.stage ≡ stage.Seal (goal.ChallengeToken addr) sequence end
      → Does t None (leaves t (packet_asked t.server held out addr sequence end)).state
  unfolding packet_asked with_ask
  asks_packet held out addr sequence end e =
      let u = (leaves t (packet_asked t.server held out addr sequence end)).state in
      let f = goal_fits (goal.ChallengeToken addr) sequence end e in
      quiet (goal_settled (goal.ChallengeToken addr) sequence end e (λ j. refl)) u refl (record { none = λ j. refl }) (unseen_refl t.server.set.slots t.slots)
      (unseen_refl t.server.set.pending t.pending)
      (λ k used at. let v : seen u (Slot k) ≡ seen t (Slot k) = seen_slot u k ∙ sym (seen_slot t k) in f k (ap (λ (x : View). x.used) (sym v) ∙ used) (ap (λ (x : View). x.addr) (sym v) ∙ at))

  -- a packet of a slot was sent
  slot_sent_lem : (i sequence end : ℕ) → t.server.ask.stage ≡ stage.Seal (goal.Sending i) sequence end → i < t.server.set.slots
      → Does t None (from_slot t (sends t.server t.slots i sequence end)).state
  unfolding sends with_ask
  slot_sent_lem i sequence end e h =
      let u = (from_slot t (sends t.server t.slots i sequence end)).state in
      quiet (goal_settled (goal.Sending i) sequence end e (λ j. refl)) u refl (record { none = λ j. refl })
      (sent_unseen t.slots t.server.set.slots i slots h sequence t.server.current_time) (unseen_refl t.server.set.pending t.pending) (omega arith)

  sealed_does : (held : List ℕ) (out sequence end : ℕ) (g : Goal) → t.server.ask.stage ≡ stage.Seal g sequence end → goal_misfits g t.server.set.slots t.server.set.pending ≡ false
      → Does t None (sealed t held out sequence end g).state
  unfolding sealed sends with_counters goal_misfits
  sealed_does held out sequence end (goal.Denied addr) e k = ends (goal_settled (goal.Denied addr) sequence end e (λ j. refl)) (spent t.server sequence) (answer.PacketToSend addr end) refl
  sealed_does held out sequence end (goal.ChallengeToken addr) e k = asks_packet held out addr sequence end e
  sealed_does held out sequence end (goal.ChallengePacket addr) e k =
      by_same_lem (goal_settled (goal.ChallengePacket addr) sequence end e (λ j. refl)) addr (goal_fits (goal.ChallengePacket addr) sequence end e) held t.server.current_time
      (spent t.server sequence) (answer.PacketToSend addr end) refl
      (find_address t.pending t.server.set.pending addr) refl
  sealed_does held out sequence end (goal.Connecting j i) e k =
      let b = both_false (leb t.server.set.pending j) (leb t.server.set.slots i) k in
      connect_does j i sequence end e (goal_fits (goal.Connecting j i) sequence end e) (leb-false t.server.set.pending j b.0) (leb-false t.server.set.slots i b.1) held
  sealed_does held out sequence end (goal.Sending i) e k = slot_sent_lem i sequence end e (leb-false t.server.set.slots i k)
  sealed_does held out sequence end (goal.Ending id addr) e k = ends (goal_settled (goal.Ending id addr) sequence end e (λ j. refl)) t.server (answer.ClientDisconnected id addr end None) refl

  unsealed_does : (sequence end : ℕ) (g : Goal) → t.server.ask.stage ≡ stage.Seal g sequence end → goal_misfits g t.server.set.slots t.server.set.pending ≡ false
      → Does t None (leaves t (unsealed t.server g)).state
  unfolding unsealed goal_misfits
  unsealed_does sequence end (goal.Denied addr) e k = ends (goal_settled (goal.Denied addr) sequence end e (λ j. refl)) t.server (answer.Refused 24) refl
  unsealed_does sequence end (goal.ChallengeToken addr) e k = ends (goal_settled (goal.ChallengeToken addr) sequence end e (λ j. refl)) t.server (answer.Refused 24) refl
  unsealed_does sequence end (goal.ChallengePacket addr) e k = ends (goal_settled (goal.ChallengePacket addr) sequence end e (λ j. refl)) t.server (answer.Refused 24) refl
  unsealed_does sequence end (goal.Connecting j i) e k =
      let b = both_false (leb t.server.set.pending j) (leb t.server.set.slots i) k in
      abandons j i sequence end e (goal_fits (goal.Connecting j i) sequence end e) (leb-false t.server.set.pending j b.0) (leb-false t.server.set.slots i b.1) (answer.Refused 24)
  unsealed_does sequence end (goal.Sending i) e k = ends (goal_settled (goal.Sending i) sequence end e (λ j. refl)) t.server (answer.Refused 24) refl
  unsealed_does sequence end (goal.Ending id addr) e k = ends (goal_settled (goal.Ending id addr) sequence end e (λ j. refl)) t.server (answer.ClientDisconnected id addr 0 (Some 24)) refl

  stage_does : (granted : Bool) (held : List ℕ) (out : ℕ) (x : Stage) → t.server.ask.stage ≡ x → kind_of x ≡ 3
      → misfits x t.server.set.slots t.server.set.pending t.server.ask.datagram out ≡ false → Does t None (by_stage t granted held out x).state
  unfolding by_stage kind_of misfits seal_misfits pick
  stage_does granted held out stage.Idle e k m = absurd (omega arith)
  stage_does granted held out (stage.Packet a b c d f) e k m = absurd (omega arith)
  stage_does granted held out (stage.Token a b c d) e k m = absurd (omega arith)
  stage_does granted held out (stage.Challenge a b) e k m = absurd (omega arith)
  stage_does true held out (stage.Seal g sequence end) e k m = sealed_does held out sequence end g e (both_false (goal_misfits g t.server.set.slots t.server.set.pending) _ m).0
  stage_does false held out (stage.Seal g sequence end) e k m = unsealed_does sequence end g e (both_false (goal_misfits g t.server.set.slots t.server.set.pending) _ m).0

-- THE EFFECT OF AN ANSWER TO A SEAL: nothing is accepted; a record is made, or moves, or ends, or all stand as they were
pub seals_does : (t : State) → Good t → (granted : Bool) (held : List ℕ) (out : ℕ) → Does t None (replied t (Seals granted held out))
unfolding replied seals pick
seals_does t good granted held out = by (eqb (seal_refusal t out) 0) refl
  where
    both : ℕ
    both = both_refusal t.server.set (length t.slots) (length t.pending)

    by : (b : Bool) → eqb (seal_refusal t out) 0 ≡ b → Does t None (pick b (by_stage t granted held out t.server.ask.stage) (refuses t (seal_refusal t out))).state
    by true e =
        let a = answer_fits t.server.ask both 3 t.server.set t.server.ask.datagram out (eqb-true (seal_refusal t out) 0 e) in
        let s = both_shaped t.server.set t.slots t.pending a.tabled in
        stage_does t good s.0 s.1 granted held out t.server.ask.stage refl a.wanted a.fitting
    by false e = unchanged t good.ask
