-- An answer about a private token makes no record yet: it drops a pending place at most. If it ends in an ask to seal a challenge, no slot has
-- the sender's address.
use Rattle.std.specs.Prelude.{Option, Some, None}
use mathlib.Core.Path.{◌≡◌, refl, sym, ap, ◌∙◌}
use mathlib.Core.Bool.{Bool, true, false}
use Prim.Native.Nat.{ℕ, ◌<◌}
use native.Mathlib.Omega.{arith}
use mathlib.Core.List.{List}
use lib.ListN.{length}
use lib.Dec.{eqb, ltb}
use borrow.Author.Tests.{eqb-true, ltb-true}
use Rattle.serialize.specs.Choice.{pick}
use Rattle.addresses.specs.declared.Address.{Address}
use Rattle.addresses.specs.Addresses.{is_found}
use Rattle.places.specs.Layout.{Shaped}
use Rattle.places.specs.Finds.{find_address, find_id}
use Rattle.places.proofs.Searches.{address_found, address_none, true_false}
use Rattle.records.specs.Records.{emptied}
use Rattle.records.proofs.Kept.{emptied_elsewhere}
use Rattle.server.specs.declared.NetcodeServer.{NetcodeServer}
use Rattle.server.specs.declared.Stage.{Stage}
use Rattle.server.specs.declared.Stage.TheVariants as stage
use Rattle.server.specs.declared.Answer.TheVariants as answer
use Rattle.server.specs.State.{with_ask, with_counters}
use Rattle.server.specs.Ready.{kind_of, all_refusal, answer_refusal}
use Rattle.server.proofs.Inversions.{neither, all_shaped, answer_fits}
use Rattle.turns.specs.Outcomes.{State, state, leaves, refuses, closed, open_refusal}
use Rattle.turns.specs.Packets.{Spoken, Prepared, holding, denied}
use Rattle.grants.specs.declared.PrivateConnectToken.{PrivateConnectToken}
use Rattle.grants.specs.Tokens.{Met, met, challenge_sent, challenged, dropped, welcomed, is_connected, no_place, Admitted, admitted, by_entry, considered}
use Rattle.grants.specs.Grants.{Granted, granted, grant_refusal, fields_refusal, foreign, granted_at, grants}
use Rattle.views.specs.Views as views
use Rattle.views.specs.Views.{Slot, Pend, View, view_at, seen, inside}
use Rattle.views.specs.Effects.{None, as_is, ended, kept, AskFits, Unconnected, Good, Does}
use Rattle.views.proofs.Stores.{view_inside, view_within, view_else, unseen_refl, emptied_gone}
use Rattle.views.proofs.Spread.{by_place_lem}
use Rattle.effects.specs.Calls.{Grants, replied}
use Rattle.effects.proofs.Seen.{pick_all, both_false, Settled, seen_slot, inside_same, all_same, pend_changes, still, unchanged}

-- a search that found nothing
not_found : (x : Option ℕ) → is_found x ≡ false → x ≡ None
unfolding is_found
not_found (Some i) e = absurd (true_false refl e)
not_found None e = refl

module _ (t : State) (settled : Settled t) (slots : Shaped t.slots t.server.set.slots) (pending : Shaped t.pending t.server.set.pending) where
  -- the record after a step: the same set-up, no record on its way
  record Step (s : NetcodeServer) : Type 0 where
    set : s.set ≡ t.server.set
    none : (j : ℕ) → views.leaves s.ask.stage j ≡ false
    asks : (u : State) → u.server ≡ s → u.slots ≡ t.slots → AskFits (inside u) (seen u) s.ask.stage

  -- the pending table as it was, or with a place emptied
  data Left : List ℕ → Type 0 where
    same : Left t.pending
    without : (j : ℕ) → j < t.server.set.pending → Left (emptied t.pending j)

  steps : (s : NetcodeServer) (p : List ℕ) → Step s → Left p → Does t None (state s t.slots p)
  steps s p k same =
      let u = state s t.slots t.pending in
      record {
        places = inside_same t u k.set;
        effect = still (all_same t u k.set settled (record { none = k.none }) (unseen_refl t.server.set.slots t.slots) (unseen_refl t.server.set.pending t.pending));
        ask = k.asks u refl refl;
      }
  steps s p k (without j h) =
      let m = t.server.set.pending in
      let u = state s t.slots (emptied t.pending j) in
      let c = pend_changes t u k.set settled (record { none = k.none }) j (seen t (Pend j)) (ended (emptied_gone t.pending m j pending h))
      (λ q d. view_else m j q t.pending (emptied t.pending j) (emptied_elsewhere t.pending m j pending h) d) (unseen_refl t.server.set.slots t.slots) in
      record {
        places = inside_same t u k.set;
        effect = kept refl (λ q. by_place_lem (Pend j) q (λ x. rw x at c.0) (λ d. as_is (c.1 q d)));
        ask = k.asks u refl refl;
      }

  -- the call is over, whatever the counters
  over : (s : NetcodeServer) (a : _) → s.set ≡ t.server.set → Step (closed s a).server
  unfolding with_ask
  over s a e = record { set = e; none = λ j. refl; asks = λ u f g. omega arith }

  -- ---- denied, or a challenge

  denies : (datagram : ℕ) (held out key : List ℕ) (a : Address) → Step (holding held (denied t.server datagram out key a)).turn.server
  unfolding denied with_ask
  denies datagram held out key a =
      pick_all (λ (x : Spoken). Step x.turn.server) _
      (λ _. over t.server (answer.Refused 15) refl)
      (λ _. record { set = refl; none = λ j. refl; asks = λ u f g. omega arith })

  -- no slot has the address
  unconnected : (addr : Address) → find_address t.slots t.server.set.slots addr ≡ None → (u : State) → u.server.set ≡ t.server.set → u.slots ≡ t.slots → Unconnected (seen u) addr
  unconnected addr none u f e i used at =
      let n = t.server.set.slots in
      let v : seen u (Slot i) ≡ view_at t.slots n i = seen_slot u i ∙ ap (λ (x : _). view_at u.slots x.slots i) f ∙ ap (λ (l : List ℕ). view_at l n i) e in
      let w : (view_at t.slots n i).used ≡ true = ap (λ (x : View). x.used) (sym v) ∙ used in
      let h : i < n = ltb-true i n (view_within t.slots n i w) in
      let k = view_inside t.slots n i h in
      (address_none t.slots n slots addr).0 none i h (ap (λ (x : View). x.used) (sym k) ∙ w, ap (λ (x : View). x.addr) (sym k ∙ sym v) ∙ at)

  module _ (addr : Address) (none : find_address t.slots t.server.set.slots addr ≡ None) where
    sends : (s : NetcodeServer) → s.set ≡ t.server.set → (datagram expiry : ℕ) (p : PrivateConnectToken) (held out : List ℕ)
        → Step (challenge_sent s datagram addr expiry p held out).turn.server
    unfolding challenge_sent with_ask
    sends s e datagram expiry p held out =
        pick_all (λ (x : Prepared). Step x.turn.server) _
        (λ _. over s (answer.Refused 15) e)
        (λ _. record { set = e; none = λ j. refl; asks = λ u f g. unconnected addr none u (ap (λ (x : NetcodeServer). x.set) f ∙ e) g })

    challenges : (datagram expiry : ℕ) (p : PrivateConnectToken) (held out : List ℕ) → Step (challenged t.server datagram addr expiry p held out).turn.server
    unfolding challenged with_counters
    challenges datagram expiry p held out =
        pick_all (λ (x : Prepared). Step x.turn.server) _
        (λ _. over t.server (answer.Refused 15) refl)
        (λ _. sends _ refl datagram expiry p held out)

    drops : (x : Option ℕ) → find_address t.pending t.server.set.pending addr ≡ x → Left (dropped t.pending x)
    unfolding dropped
    drops (Some j) e = without j ((address_found t.pending t.server.set.pending pending addr j).0 e).below
    drops None e = same

    record Meets (m : Met) : Type 0 where
      is : Does t None (state m.turn.server t.slots m.pending)

    welcomes : (datagram expiry : ℕ) (p : PrivateConnectToken) (held out : List ℕ) → Meets (welcomed t.server datagram addr expiry p t.slots t.pending held out)
    unfolding welcomed
    welcomes datagram expiry p held out =
        pick_all Meets _
        (λ _. record { is = steps _ _ (denies datagram held out p.server_to_client_key addr) (drops (find_address t.pending t.server.set.pending addr) refl) })
        (λ _. record { is = steps _ _ (challenges datagram expiry p held out) same })

  -- ---- the token considered

  record Considers (a : Admitted) : Type 0 where
    is : Does t None (state a.met.turn.server t.slots a.met.pending)

  nothing : (entries held out : List ℕ) → Considers (admitted (met (closed t.server answer.Nothing) t.pending held out) entries)
  nothing entries held out = record { is = steps _ _ (over t.server answer.Nothing refl) same }

  considers : (datagram : ℕ) (addr : Address) (expiry low high : ℕ) (p : PrivateConnectToken) (entries held out : List ℕ)
      → Considers (considered t.server datagram addr expiry low high p t.slots t.pending entries held out)
  unfolding considered by_entry is_connected
  considers datagram addr expiry low high p entries held out =
      pick_all Considers _
      (λ _. nothing entries held out)
      (λ e.
      let n = t.server.set.slots in
      let k = (both_false (is_connected t.server t.slots addr p.client_id) (no_place t.server t.pending addr) e).0 in
      let none = not_found (find_address t.slots n addr) (both_false (is_found (find_address t.slots n addr)) (is_found (find_id t.slots n p.client_id)) k).0 in
      pick_all Considers _
      (λ _. record { is = (welcomes addr none datagram expiry p held out).is })
      (λ _. nothing _ held out))

-- ---- the whole

pub grants_does : (t : State) → Good t → (given : Bool) (p : PrivateConnectToken) (list entries public held out : List ℕ) (datagram : ℕ)
    → Does t None (replied t (Grants given p list entries public held out datagram))
unfolding replied grants grant_refusal open_refusal pick kind_of granted_at
grants_does t good given p list entries public held out datagram = by (eqb r 0) refl
  where
    r : ℕ
    r = grant_refusal t (length entries) (length public) datagram (length out) given list

    all : ℕ
    all = all_refusal t.server.set (length t.slots) (length t.pending) (length entries) (length public)

    token : Settled t → Shaped t.slots t.server.set.slots → Shaped t.pending t.server.set.pending → (addr : Address) (expiry low high : ℕ)
        → Does t None (granted_at t p list entries public held out datagram (stage.Token addr expiry low high)).outcome.state
    token v s q addr expiry low high =
        pick_all (λ (x : Granted). Does t None x.outcome.state) (foreign t.server.set list public)
        (λ _. steps t v s q _ _ (over t v s q t.server (answer.Refused 13) refl) same)
        (λ _. (considers t v s q datagram addr expiry low high p entries held out).is)

    stages : Shaped t.slots t.server.set.slots → Shaped t.pending t.server.set.pending → (g : Bool) (x : Stage) → t.server.ask.stage ≡ x → kind_of x ≡ 2
        → Does t None (pick g (granted_at t p list entries public held out datagram x) (granted (leaves t (closed t.server (answer.Refused 8))) entries held out)).outcome.state
    stages s q g stage.Idle e k = absurd (omega arith)
    stages s q g (stage.Packet a b c f h) e k = absurd (omega arith)
    stages s q true (stage.Token addr expiry low high) e k = token (record { none = λ j. ap (λ (y : Stage). views.leaves y j) e }) s q addr expiry low high
    stages s q false (stage.Token addr expiry low high) e k =
        let v : Settled t = record { none = λ j. ap (λ (y : Stage). views.leaves y j) e } in
        steps t v s q _ _ (over t v s q t.server (answer.Refused 8) refl) same
    stages s q g (stage.Challenge a b) e k = absurd (omega arith)
    stages s q g (stage.Seal a b c) e k = absurd (omega arith)

    by : (b : Bool) → eqb r 0 ≡ b
        → Does t None
        (pick b (pick given (granted_at t p list entries public held out datagram t.server.ask.stage) (granted (leaves t (closed t.server (answer.Refused 8))) entries held out))
        (granted (refuses t r) entries held out)).outcome.state
    by true e =
        let k = neither (open_refusal t.server all 2 datagram (length out)) (fields_refusal given list) (eqb-true r 0 e) in
        let l = neither (answer_refusal t.server.ask all 2 t.server.set datagram (length out)) (pick (ltb (length out) 1400) 18 0) k.0 in
        let a = answer_fits t.server.ask all 2 t.server.set datagram (length out) l.0 in
        let s = all_shaped t.server.set t.slots t.pending entries public a.tabled in
        stages s.0 s.1 given t.server.ask.stage refl a.wanted
    by false e = unchanged t good.ask
