-- A datagram changes nothing that is seen: it sets a received time at most. If it ends in an ask for a packet, that is for a record in use
-- whose window does not refuse it.
use Rattle.std.specs.Prelude.{Result, Ok, Err}
use mathlib.Core.Path.{◌≡◌, refl, ap, ◌∙◌}
use mathlib.Core.Bool.{true, false}
use Prim.Native.Nat.{ℕ, ◌<◌}
use native.Mathlib.Omega.{arith}
use mathlib.Core.List.{List}
use lib.ListN.{length}
use lib.Dec.{eqb}
use borrow.Author.Tests.{eqb-true}
use Rattle.serialize.specs.Choice.{pick}
use Rattle.replay_protection.specs.Replay.{refusal}
use Rattle.replay_protection.specs.Ours.{width}
use Rattle.bodies.specs.declared.PacketType.{PacketType}
use Rattle.addresses.specs.declared.Address.{Address}
use Rattle.addresses.specs.Addresses.{words_of}
use Rattle.places.specs.Layout.{Shaped, used_at}
use Rattle.places.specs.Columns as columns
use Rattle.places.specs.Keys.{LowestOf, Keyed}
use Rattle.places.specs.Finds.{find_address}
use Rattle.places.proofs.Searches.{address_found}
use Rattle.decode.specs.declared.Start.{Start}
use Rattle.decode.specs.Decodes.{type_at, start_at}
use Rattle.server.specs.declared.Stage.{Stage}
use Rattle.server.specs.declared.Stage.TheVariants.{Idle}
use Rattle.server.specs.State.{with_ask}
use Rattle.server.specs.Ready.{call_refusal, both_refusal}
use Rattle.server.proofs.Inversions.{neither, call_free, both_shaped}
use Rattle.turns.specs.declared.Turn.{Turn}
use Rattle.turns.specs.Outcomes.{State, state, Outcome, came, refuses, refused}
use Rattle.arrivals.specs.declared.Sender.{Sender}
use Rattle.arrivals.specs.declared.Sender.TheVariants.{Connected, Pending, Unknown}
use Rattle.arrivals.specs.Requests.{token_asked, request_read}
use Rattle.arrivals.specs.Arrivals.{lent_refusal, arrival_refusal, window_refusal, open_asked, sealed_at, by_start, sealed_from, request_from, sender_in, kind_arrives, by_kind, arrives}
use Rattle.arrivals.proofs.Ways as ways
use Rattle.views.specs.Views as views
use Rattle.views.specs.Views.{Place, Slot, Pend, View, here, seen, inside}
use Rattle.views.specs.Effects.{None, AskFits, PacketFits, place_of, Good, Does}
use Rattle.views.proofs.Stores.{view_inside, Unseen, unseen_refl, time_unseen}
use Rattle.effects.proofs.Seen.{pick_all, Settled, seen_slot, seen_pend, inside_same, all_same, still, unchanged}

-- ---- what is asked for

-- a place that is used and whose window does not refuse
fits : (f : Place → View) (p : Place) (table : List ℕ) (n i : ℕ) (kind : PacketType) (sequence : ℕ) → f p ≡ here table n i → used_at table i ≡ true
    → window_refusal table n i kind sequence ≡ 0 → PacketFits f p kind sequence
unfolding window_refusal pick
fits f p table n i kind sequence v used w = record {
  used = ap (λ (x : View). x.used) v ∙ used;
  passes = λ k. ap (λ (x : View). refusal width x.win sequence) v ∙ simp k at w;
}

pub record Meets (t : State) (o : Outcome) : Type 0 where
  pub is : Does t None o.state

-- a turn that leaves the tables
pub record Turns (t : State) (r : Turn) : Type 0 where
  pub is : Does t None (state r.server t.slots t.pending)

pub stage_settled : (t : State) → t.server.ask.stage ≡ Idle → Settled t
stage_settled t e = record { none = λ j. ap (λ (x : Stage). views.leaves x j) e }

-- no ask asks nothing of the records
pub nothing_asked : (t : State) → t.server.ask.stage ≡ Idle → AskFits (inside t) (seen t) t.server.ask.stage
nothing_asked t e = rw e (omega arith)

module _ (t : State) (good : Good t) (idle : t.server.ask.stage ≡ Idle)
    (slots : Shaped t.slots t.server.set.slots) (pending : Shaped t.pending t.server.set.pending) where
  -- the state afterwards looks the same
  leaf : (u : State) → u.server.set ≡ t.server.set → Settled u → Unseen t.server.set.slots t.slots u.slots
      → Unseen t.server.set.pending t.pending u.pending → AskFits (inside u) (seen u) u.server.ask.stage → Does t None u
  leaf u same v a b f = record { places = inside_same t u same; effect = still (all_same t u same (stage_settled t idle) v a b); ask = f }

  calm : (n : ℕ) → Meets t (refuses t n)
  calm n = record { is = unchanged t good.ask }

  stop : (n : ℕ) → Turns t (refused t.server n)
  stop n = record { is = unchanged t good.ask }

  -- ---- a sealed packet

  -- the record that an address finds
  slot_found : (addr : Address) (i : ℕ) → sender_in t addr ≡ Connected i → LowestOf (Keyed t.slots t.server.set.slots columns.addr (words_of addr)) t.server.set.slots i
  slot_found addr i e =
      let n = t.server.set.slots in
      let m = t.server.set.pending in
      (address_found t.slots n slots addr i).0 (ways.slot_found (find_address t.slots n addr) (find_address t.pending m addr) i e)

  pend_found : (addr : Address) (j : ℕ) → sender_in t addr ≡ Pending j → LowestOf (Keyed t.pending t.server.set.pending columns.addr (words_of addr)) t.server.set.pending j
  pend_found addr j e =
      let n = t.server.set.slots in
      let m = t.server.set.pending in
      (address_found t.pending m pending addr j).0 (ways.place_found (find_address t.slots n addr) (find_address t.pending m addr) j e)

  module _ (out : ℕ) (d : List ℕ) where
    asks_slot : (i : ℕ) (kind : PacketType) (sequence start : ℕ) → i < t.server.set.slots → used_at t.slots i ≡ true
        → window_refusal t.slots t.server.set.slots i kind sequence ≡ 0
        → Turns t (open_asked t.server t.slots t.server.set.slots true i kind sequence start out d)
    unfolding open_asked with_ask place_of pick
    asks_slot i kind sequence start h used w =
        let n = t.server.set.slots in
        let u = state (open_asked t.server t.slots n true i kind sequence start out d).server t.slots t.pending in
        record {
          is = leaf u refl (record { none = λ j. refl }) (unseen_refl n t.slots) (unseen_refl t.server.set.pending t.pending)
              (fits (seen u) (Slot i) t.slots n i kind sequence (seen_slot u i ∙ view_inside t.slots n i h) used w);
        }

    asks_pend : (j : ℕ) (kind : PacketType) (sequence start : ℕ) → j < t.server.set.pending → used_at t.pending j ≡ true
        → window_refusal t.pending t.server.set.pending j kind sequence ≡ 0
        → Turns t (open_asked t.server t.pending t.server.set.pending false j kind sequence start out d)
    unfolding open_asked with_ask place_of pick
    asks_pend j kind sequence start h used w =
        let m = t.server.set.pending in
        let u = state (open_asked t.server t.pending m false j kind sequence start out d).server t.slots t.pending in
        let v : Settled u = record { none = λ k. refl } in
        record {
          is = leaf u refl v (unseen_refl t.server.set.slots t.slots) (unseen_refl m t.pending)
              (fits (seen u) (Pend j) t.pending m j kind sequence (seen_pend u v j ∙ view_inside t.pending m j h) used w);
        }

    sealed_slot : (i : ℕ) (kind : PacketType) → i < t.server.set.slots → used_at t.slots i ≡ true → (x : Result Start ℕ)
        → Turns t (by_start t.server t.slots t.server.set.slots true i kind out d x)
    unfolding by_start sealed_at
    sealed_slot i kind h used (Err n) = stop n
    sealed_slot i kind h used (Ok p) =
        pick_all (Turns t) _
        (λ w. pick_all (Turns t) _ (λ _. stop 7) (λ _. asks_slot i kind p.sequence p.start h used (eqb-true _ 0 w)))
        (λ _. stop _)

    sealed_pend : (j : ℕ) (kind : PacketType) → j < t.server.set.pending → used_at t.pending j ≡ true → (x : Result Start ℕ)
        → Turns t (by_start t.server t.pending t.server.set.pending false j kind out d x)
    unfolding by_start sealed_at
    sealed_pend j kind h used (Err n) = stop n
    sealed_pend j kind h used (Ok p) =
        pick_all (Turns t) _
        (λ w. pick_all (Turns t) _ (λ _. stop 7) (λ _. asks_pend j kind p.sequence p.start h used (eqb-true _ 0 w)))
        (λ _. stop _)

    module _ (addr : Address) where
      sealed_does : (kind : PacketType) (x : Sender) → sender_in t addr ≡ x → Turns t (sealed_from t out kind d x)
      unfolding sealed_from
      sealed_does kind (Connected i) e = let k = slot_found addr i e in sealed_slot i kind k.below k.here.0 (start_at d)
      sealed_does kind (Pending j) e = let k = pend_found addr j e in sealed_pend j kind k.below k.here.0 (start_at d)
      sealed_does kind Unknown e = stop 3

      -- ---- a request

      -- the pending table as it was, or with a received time set
      request_reads : (pending' : List ℕ) → Unseen t.server.set.pending t.pending pending' → Meets t (came (request_read t.server addr out d) t.slots pending')
      unfolding request_read token_asked with_ask
      request_reads pending' k =
          let n = t.server.set.slots in
          let Slots-kept = unseen_refl n t.slots in
          record {
            is = pick_all (λ (r : Turn). Does t None (state r.server t.slots pending')) _
                (λ _. leaf _ refl (record { none = λ j. refl }) Slots-kept k (omega arith))
                (λ _. leaf (state t.server t.slots pending') refl (stage_settled (state t.server t.slots pending') idle) Slots-kept k (nothing_asked (state t.server t.slots pending') idle));
          }

      request_does : (x : Sender) → sender_in t addr ≡ x → Meets t (request_from t addr out d x)
      unfolding request_from
      request_does (Connected i) e =
          let n = t.server.set.slots in
          let k = slot_found addr i e in
          let u = (request_from t addr out d (Connected i)).state in
          record {
            is = leaf u refl (stage_settled u idle) (time_unseen t.slots n i slots k.below 9 t.server.current_time (omega arith) (omega arith))
                (unseen_refl t.server.set.pending t.pending) (nothing_asked u idle);
          }
      request_does (Pending j) e =
          let m = t.server.set.pending in
          let k = pend_found addr j e in
          request_reads _ (time_unseen t.pending m j pending k.below 9 t.server.current_time (omega arith) (omega arith))
      request_does Unknown e = request_reads t.pending (unseen_refl t.server.set.pending t.pending)

      kind_does : (kind : Result PacketType ℕ) → Meets t (by_kind t addr out d kind)
      unfolding by_kind kind_arrives
      kind_does (Err n) = calm n
      kind_does (Ok kind) =
          pick_all (Meets t) _
          (λ _. pick_all (Meets t) _ (λ _. calm 9) (λ _. request_does (sender_in t addr) refl))
          (λ _. record { is = (sealed_does kind (sender_in t addr) refl).is })

-- THE EFFECT OF A DATAGRAM: nothing is accepted and every place is seen as it was
pub arrives_does : (t : State) → Good t → (addr : Address) (out : ℕ) (d : List ℕ) → Does t None (arrives t addr out d).state
unfolding arrives arrival_refusal
arrives_does t good addr out d =
    (pick_all (Meets t) (eqb (arrival_refusal t addr out) 0)
    (λ e.
    let k = neither (call_refusal t.server.ask (both_refusal t.server.set (length t.slots) (length t.pending))) (lent_refusal addr out) (eqb-true (arrival_refusal t addr out) 0 e) in
    let f = call_free t.server.ask (both_refusal t.server.set (length t.slots) (length t.pending)) k.0 in
    let b = both_shaped t.server.set t.slots t.pending f.1 in
    kind_does t good f.0 b.0 b.1 out d addr (type_at d))
    (λ _. record { is = unchanged t good.ask })
    ).is
