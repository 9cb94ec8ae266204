-- A call for a client accepts nothing: the slot that its id finds stays as it was, or is empty if it is to end, and the ask that it leaves is for a
-- packet to go out, which asks nothing of the records.
use Rattle.std.specs.Prelude.{Option, Some, None}
use mathlib.Core.Path.{◌≡◌, refl}
use mathlib.Core.Bool.{Bool, false}
use Prim.Native.Nat.{ℕ, ◌<◌}
use native.Mathlib.Omega.{arith}
use mathlib.Core.List.{List, []}
use lib.ListN.{length}
use borrow.Author.Tests.{eqb-true}
use Rattle.bodies.specs.declared.Packet.{Packet}
use Rattle.bodies.specs.declared.Packet.TheVariants as packet
use Rattle.addresses.specs.declared.Address.{Address}
use Rattle.places.specs.Layout.{Shaped}
use Rattle.places.specs.Finds.{find_id}
use Rattle.places.proofs.Searches.{id_found}
use Rattle.records.specs.Records.{emptied}
use Rattle.records.proofs.Kept.{emptied_elsewhere}
use Rattle.server.specs.declared.NetcodeServer.{NetcodeServer}
use Rattle.server.specs.declared.Goal.TheVariants.{Sending, Ending}
use Rattle.server.specs.declared.Stage.TheVariants.{Idle, Seal}
use Rattle.server.specs.State.{with_ask, opened}
use Rattle.server.specs.Ready.{slots_refusal}
use Rattle.server.proofs.Inversions.{neither, call_free, slots_shaped}
use Rattle.turns.specs.Outcomes.{State, state}
use Rattle.turns.specs.Packets.{Spoken, keep_alive}
use Rattle.sending.specs.Packets.{ready_refusal, payload_refusal, sending_under, by_client, generated, Served, ending_under}
use Rattle.sending.specs.Clients.{keeping, slot_updated, updated_at, ended_at, client_updated, disconnected}
use Rattle.views.specs.Views as views
use Rattle.views.specs.Views.{Place, Slot, View, seen}
use Rattle.views.specs.Effects.{None, as_is, ended, kept, AskFits, Good, Does}
use Rattle.views.proofs.Stores.{view_else, unseen_refl, emptied_gone}
use Rattle.views.proofs.Spread.{by_place_lem}
use Rattle.effects.specs.Calls.{Service, Generates, Refreshes, Disconnects, client_of, serviced, served}
use Rattle.effects.proofs.Seen.{pick_all, inside_same, all_same, slot_changes, still, unchanged}
use Rattle.effects.proofs.Arriving.{stage_settled}

-- ---- what such a call may leave of record and slots

-- neither 16 nor 23, and the id finds slot i
pub record Finds (s : NetcodeServer) (slots : List ℕ) (id i : ℕ) : Type 0 where
  pub ready : ready_refusal s (length slots) ≡ 0
  pub found : find_id slots s.set.slots id ≡ Some i

-- all as it was; an ask to seal a packet of the slot that the id finds; or that slot empty, without an ask or with one to seal its disconnect
pub data Leaves (s : NetcodeServer) (slots : List ℕ) (id : ℕ) : NetcodeServer → List ℕ → Type 0 where
  same : Leaves s slots id s slots
  asks : (i : ℕ) → Finds s slots id i → (sequence end out : ℕ) → Leaves s slots id (with_ask s (opened (Seal (Sending i) sequence end) 0 out)) slots
  ends : (i : ℕ) → Finds s slots id i → Leaves s slots id s (emptied slots i)
  ends_asking : (i : ℕ) → Finds s slots id i → (addr : Address) (sequence end out : ℕ)
      → Leaves s slots id (with_ask s (opened (Seal (Ending id addr) sequence end) 0 out)) (emptied slots i)

module _ (s : NetcodeServer) (slots : List ℕ) (id : ℕ) where
  abbrev Way : Served → Type 0
  Way x = Leaves s slots id x.turn.server x.slots

  abbrev Says : Spoken → Type 0
  Says x = Way (keeping slots x)

  sending_way : (i : ℕ) → Finds s slots id i → (p : Packet) (bytes key : List ℕ) (sequence : ℕ) (out : List ℕ) → Says (sending_under s i p bytes key sequence out)
  unfolding sending_under
  sending_way i f p bytes key sequence out = pick_all Says _ (λ _. same) (λ _. pick_all Says _ (λ _. same) (λ _. asks i f sequence _ (length out)))

  ending_way : (i : ℕ) → Finds s slots id i → (addr : Address) (key : List ℕ) (sequence : ℕ) (out : List ℕ) → Way (ending_under s id slots i addr key sequence out)
  unfolding ending_under
  ending_way i f addr key sequence out = pick_all Way _ (λ _. ends i f) (λ _. pick_all Way _ (λ _. same) (λ _. ends_asking i f addr sequence _ (length out)))

  module _ (ready : ready_refusal s (length slots) ≡ 0) (out : List ℕ) where
    client_way : (payload : List ℕ) (x : Option ℕ) → find_id slots s.set.slots id ≡ x → Says (by_client s slots payload out x)
    unfolding by_client
    client_way payload (Some i) e = sending_way i (record { ready = ready; found = e }) packet.Payload payload _ _ out
    client_way payload None e = same

    updated_way : (x : Option ℕ) → find_id slots s.set.slots id ≡ x → Way (updated_at s id slots out x)
    unfolding updated_at slot_updated
    updated_way (Some i) e =
        let f : Finds s slots id i = record { ready = ready; found = e } in
        pick_all Way _
        (λ _. ending_way i f _ _ _ out)
        (λ _. pick_all Way _ (λ _. sending_way i f (keep_alive s.max_clients i) [] _ _ out) (λ _. same))
    updated_way None e = same

    ended_way : (x : Option ℕ) → find_id slots s.set.slots id ≡ x → Way (ended_at s id slots out x)
    unfolding ended_at
    ended_way (Some i) e = ending_way i (record { ready = ready; found = e }) _ _ _ out
    ended_way None e = same

-- every way through the three calls
pub service_leaves : (s : NetcodeServer) (slots : List ℕ) (v : Service) → Leaves s slots (client_of v) (serviced s slots v).turn.server (serviced s slots v).slots
unfolding serviced client_of generated client_updated disconnected
service_leaves s slots (Generates id payload out) =
    pick_all (Says s slots id) _
    (λ e.
    let r = (neither (ready_refusal s (length slots)) _ (eqb-true (payload_refusal s (length slots) (length payload)) 0 e)).0 in
    client_way s slots id r out payload (find_id slots s.set.slots id) refl)
    (λ _. same)
service_leaves s slots (Refreshes id out) =
    pick_all (Way s slots id) _ (λ e. updated_way s slots id (eqb-true _ 0 e) out (find_id slots s.set.slots id) refl) (λ _. same)
service_leaves s slots (Disconnects id out) =
    pick_all (Way s slots id) _ (λ e. ended_way s slots id (eqb-true _ 0 e) out (find_id slots s.set.slots id) refl) (λ _. same)

-- ---- what that does to the records

-- a call that 16 and 23 do not refuse: no ask was open, and the slots are as long as set-up's
pub ready_shaped : (s : NetcodeServer) (slots : List ℕ) → ready_refusal s (length slots) ≡ 0 → (s.ask.stage ≡ Idle) × Shaped slots s.set.slots
ready_shaped s slots e =
    let f = call_free s.ask (slots_refusal s.set (length slots)) e in
    (f.0, slots_shaped s.set slots f.1)

-- what the id finds is a slot
pub finds_below : (s : NetcodeServer) (slots : List ℕ) (id i : ℕ) → Finds s slots id i → Shaped slots s.set.slots × (i < s.set.slots)
finds_below s slots id i f =
    let shape = (ready_shaped s slots f.ready).1 in
    (shape, ((id_found slots s.set.slots shape id i).0 f.found).below)

module _ (t : State) where
  -- the record after such a call: the same set-up, no record on its way, and an ask, if any, that asks nothing of the records
  record Steps (s : NetcodeServer) : Type 0 where
    set : s.set ≡ t.server.set
    none : (j : ℕ) → views.leaves s.ask.stage j ≡ false
    fits : (ins : Place → Bool) (f : Place → View) → AskFits ins f s.ask.stage

  module _ (id i : ℕ) (f : Finds t.server t.slots id i) where
    was_idle : t.server.ask.stage ≡ Idle
    was_idle = (ready_shaped t.server t.slots f.ready).0

    as_was : Steps t.server
    as_was = record { set = refl; none = (stage_settled t was_idle).none; fits = λ ins g. rw was_idle (omega arith) }

    -- the slots as they were
    stays : (s : NetcodeServer) → Steps s → Does t None (state s t.slots t.pending)
    stays s k =
        let n = t.server.set.slots in
        let m = t.server.set.pending in
        let u = state s t.slots t.pending in
        record {
          places = inside_same t u k.set;
          effect = still (all_same t u k.set (stage_settled t was_idle) (record { none = k.none }) (unseen_refl n t.slots) (unseen_refl m t.pending));
          ask = k.fits _ (seen u);
        }

    -- slot i empty
    empties : (s : NetcodeServer) → Steps s → Does t None (state s (emptied t.slots i) t.pending)
    empties s k =
        let n = t.server.set.slots in
        let u = state s (emptied t.slots i) t.pending in
        let b = finds_below t.server t.slots id i f in
        let c = slot_changes t u k.set (stage_settled t was_idle) (record { none = k.none }) i (seen t (Slot i))
        (ended (emptied_gone t.slots n i b.0 b.1))
        (λ q d. view_else n i q t.slots (emptied t.slots i) (emptied_elsewhere t.slots n i b.0 b.1) d)
        (unseen_refl t.server.set.pending t.pending) in
        record {
          places = inside_same t u k.set;
          effect = kept refl (λ q. by_place_lem (Slot i) q (λ x. rw x at c.0) (λ d. as_is (c.1 q d)));
          ask = k.fits _ (seen u);
        }

  leaves_does : Good t → (id : ℕ) (s : NetcodeServer) (l : List ℕ) → Leaves t.server t.slots id s l → Does t None (state s l t.pending)
  unfolding with_ask
  leaves_does good id s l same = unchanged t good.ask
  leaves_does good id s l (asks i f sequence end out) = stays id i f _ (record { set = refl; none = λ j. refl; fits = λ ins g. omega arith })
  leaves_does good id s l (ends i f) = empties id i f t.server (as_was id i f)
  leaves_does good id s l (ends_asking i f addr sequence end out) = empties id i f _ (record { set = refl; none = λ j. refl; fits = λ ins g. omega arith })

-- THE EFFECT OF A CALL FOR A CLIENT: nothing is accepted; every place is seen as it was, but for a slot that ends
pub serves_does : (t : State) → Good t → (v : Service) → Does t None (served t v)
serves_does t good v = leaves_does t good (client_of v) _ _ (service_leaves t.server t.slots v)
