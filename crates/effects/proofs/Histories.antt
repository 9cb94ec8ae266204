-- From set-up on, whatever is called, used addresses are distinct: every call has an effect that the law allows, and the law keeps them apart.
-- The calls are all that change anything, so this is of every state that is reached from set-up.
use Rattle.std.specs.Prelude.{Result, Ok, Err}
use mathlib.Core.Path.{◌≡◌, refl, sym, ap, ◌∙◌}
use mathlib.Core.Bool.{true}
use Prim.Native.Nat.{ℕ, zero, suc, ◌<◌, min}
use native.Mathlib.Omega.{arith}
use mathlib.Core.List.{List, [], ◌∷◌}
use lib.ListN.{length, get_or}
use lib.Dec.{eqb, ltb}
use borrow.Author.Tests.{eqb-true, eqb-false, ltb-true}
use Rattle.serialize.proofs.Choice.{by_test}
use Rattle.times.specs.declared.Time.{Time}
use Rattle.times.specs.Times.{added}
use Rattle.places.specs.Layout.{Shaped, used_at}
use Rattle.places.specs.Columns as columns
use Rattle.places.specs.Columns.{Field, Within, Marks, field_of}
use Rattle.places.specs.Keys.{Distinct}
use Rattle.places.specs.Finds.{used_count}
use Rattle.places.proofs.Ways.{empty_unused}
use Rattle.places.proofs.Counted.{used_counts}
use Rattle.places.proofs.Searches.{true_false}
use Rattle.server.specs.declared.Step.{Step}
use Rattle.server.specs.declared.Stage.TheVariants as stage
use Rattle.server.specs.State.{with_clock, with_limit}
use Rattle.server.specs.Ready.{call_refusal, pending_refusal}
use Rattle.server.proofs.Inversions.{call_free, pending_shaped}
use Rattle.turns.specs.Outcomes.{State, state}
use Rattle.upkeep.specs.declared.ServerConfig.{ServerConfig}
use Rattle.upkeep.specs.Clocks.{dropped, Outcome, by_clock, update_refusal, updated}
use Rattle.upkeep.specs.Limits.{limited}
use Rattle.upkeep.specs.Fresh.{Fresh}
use Rattle.upkeep.proofs.Meaning.{dropped_used, dropped_fields}
use Rattle.views.specs.Views as views
use Rattle.views.specs.Views.{Place, Slot, Pend, View, view_at, seen}
use Rattle.views.specs.Effects.{None, Stays, as_is, ended, kept, Good, Does}
use Rattle.views.proofs.Stores.{view_inside, view_outside, view_within, view_parts, window_alike, unseen_refl}
use Rattle.views.proofs.Spread.{does_good, slot_not_pend}
use Rattle.effects.specs.Calls.{Reply, Opens, Grants, Seals, Call, Arrives, Replies, Serves, Updates, Limits, replied, next, after, told_by, told}
use Rattle.effects.proofs.Seen.{pick_all, Settled, seen_slot, seen_pend, inside_same, slots_same, all_same, still, unchanged}
use Rattle.effects.proofs.Arriving.{arrives_does, stage_settled, nothing_asked}
use Rattle.effects.proofs.Opening.{opens_does}
use Rattle.effects.proofs.Granting.{grants_does}
use Rattle.effects.proofs.Sealing.{seals_does}
use Rattle.effects.proofs.Serving.{serves_does}

-- ---- the clock

-- a pending place whose token has expired is empty, every other is as it was
dropped_stays : (t : List ℕ) (m secs : ℕ) → Shaped t m → (j : ℕ) → Stays (view_at t m j) (view_at (dropped t m secs) m j)
dropped_stays t m secs shape j =
    by_test (ltb j m)
    (λ e.
    let h = ltb-true j m e in
    let u = dropped t m secs in
    let r : (g : Field) → Within g → (g.column ≡ Marks → ⊥) → field_of u m j g ≡ field_of t m j g = λ g w d. dropped_fields t m secs shape g w d j h in
    by_test (used_at u j)
    (λ used.
    as_is
    (view_inside u m j h
    ∙ view_parts (used ∙ sym ((dropped_used t m secs shape j h).0 used).0)
    (r columns.addr (omega arith) (λ x. let z : ◌≡◌ {A = ℕ} 0 1 = cc in omega arith))
    (r columns.receive_key (omega arith) (λ x. let z : ◌≡◌ {A = ℕ} 0 1 = cc in omega arith))
    (r columns.id (omega arith) (λ x. let z : ◌≡◌ {A = ℕ} 0 1 = cc in omega arith))
    (window_alike m j t u (r columns.window (omega arith) (λ x. let z : ◌≡◌ {A = ℕ} 0 1 = cc in omega arith)))
    ∙ sym (view_inside t m j h)))
    (λ unused. ended (ap (λ (v : View). v.used) (view_inside u m j h) ∙ unused)))
    (λ e. as_is (view_outside (dropped t m secs) m j e ∙ sym (view_outside t m j e)))

module _ (t : State) (good : Good t) where
  clock_stays : t.server.ask.stage ≡ stage.Idle → Shaped t.pending t.server.set.pending → (u : State) (secs : ℕ) → u.server.set ≡ t.server.set → Settled u
      → u.slots ≡ t.slots → u.pending ≡ dropped t.pending t.server.set.pending secs → (q : Place) → Stays (seen t q) (seen u q)
  clock_stays idle shape u secs same v e f (Slot i) = as_is (slots_same t u same (rw e (unseen_refl t.server.set.slots t.slots)) i)
  clock_stays idle shape u secs same v e f (Pend j) =
      let m = t.server.set.pending in
      let x : seen u (Pend j) ≡ view_at (dropped t.pending m secs) m j = seen_pend u v j ∙ ap (λ (y : _). view_at u.pending y.pending j) same ∙ ap (λ (l : List ℕ). view_at l m j) f in
      rw (x, seen_pend t (stage_settled t idle) j) (dropped_stays t.pending m secs shape j)

  clock_does : t.server.ask.stage ≡ stage.Idle → Shaped t.pending t.server.set.pending → (x : Result Time ℕ)
      → Does t None (state (by_clock t.server t.pending x).result.server t.slots (by_clock t.server t.pending x).pending)
  unfolding by_clock with_clock
  clock_does idle shape (Ok c) =
      let u = state (with_clock t.server c) t.slots (dropped t.pending t.server.set.pending c.secs) in
      record {
        places = inside_same t u refl;
        effect = kept refl (clock_stays idle shape u c.secs refl (stage_settled u idle) refl refl);
        ask = nothing_asked u idle;
      }
  clock_does idle shape (Err n) = unchanged t good.ask

  updates_does : (duration : Time) → Does t None (next t (Updates duration))
  unfolding next updated
  updates_does duration =
      pick_all (λ (o : Outcome). Does t None (state o.result.server t.slots o.pending)) (eqb (update_refusal t.server t.pending) 0)
      (λ e.
      let f = call_free t.server.ask (pending_refusal t.server.set (length t.pending)) (eqb-true (update_refusal t.server t.pending) 0 e) in
      clock_does f.0 (pending_shaped t.server.set t.pending f.1) (added t.server.current_time duration))
      (λ _. unchanged t good.ask)

  -- ---- the limit

  limits_does : (limit : ℕ) → Does t None (next t (Limits limit))
  unfolding next limited with_limit
  limits_does limit =
      pick_all (λ (o : Step). Does t None (state o.server t.slots t.pending)) (eqb (call_refusal t.server.ask 0) 0)
      (λ e.
      let idle = (call_free t.server.ask 0 (eqb-true (call_refusal t.server.ask 0) 0 e)).0 in
      let u = state (with_limit t.server (min limit 1024)) t.slots t.pending in
      record {
        places = inside_same t u refl;
        effect = still (all_same t u refl (stage_settled t idle) (stage_settled u idle) (unseen_refl t.server.set.slots t.slots) (unseen_refl t.server.set.pending t.pending));
        ask = nothing_asked u idle;
      })
      (λ _. unchanged t good.ask)

  -- ---- every call

  replies_do : (r : Reply) → Does t (told_by t r) (replied t r)
  unfolding told_by
  replies_do (Opens granted held out d) = opens_does t good granted held out d
  replies_do (Grants given token list entries public held out datagram) = grants_does t good given token list entries public held out datagram
  replies_do (Seals granted held out) = seals_does t good granted held out

  -- THE LAW OF EFFECT: what a call does to the records
  pub calls_do : (k : Call) → Does t (told t k) (next t k)
  unfolding told next
  calls_do (Arrives addr out d) = arrives_does t good addr out d
  calls_do (Replies r) = replies_do r
  calls_do (Serves v) = serves_does t good v
  calls_do (Updates duration) = updates_does duration
  calls_do (Limits limit) = limits_does limit

-- ---- from set-up on

-- a count of 0: every place is unused
count_none : (t : List ℕ) (n : ℕ) → used_count t n ≡ 0 → (j : ℕ) → j < n → used_at t j ≡ true → ⊥
unfolding used_count
count_none t zero e j h u = omega arith
count_none t (suc n) e j h u =
    by_test (eqb j n)
    (λ x.
    let k : j ≡ n = eqb-true j n x in
    let z : get_or t n 0 ≡ 0 → ⊥ = λ f. true_false (ap (used_at t) (sym k) ∙ u) (empty_unused t n f) in
    let one = used_counts (get_or t n 0) z in
    omega arith)
    (λ x. let d = eqb-false j n x in count_none t n (omega arith) j (omega arith) u)

unseen_empty : (t : List ℕ) (n : ℕ) → used_count t n ≡ 0 → (j : ℕ) → (view_at t n j).used ≡ true → ⊥
unseen_empty t n e j u =
    let h = ltb-true j n (view_within t n j u) in
    count_none t n e j h (ap (λ (v : View). v.used) (sym (view_inside t n j h)) ∙ u)

module _ (c : ServerConfig) (t : State) (entries public : List ℕ) (fresh : Fresh c t.server t.slots t.pending entries public) where
  nobody_seen : (p : Place) → (seen t p).used ≡ true → ⊥
  nobody_seen (Slot i) u = unseen_empty t.slots t.server.set.slots fresh.connected i (ap (λ (v : View). v.used) (sym (seen_slot t i)) ∙ u)
  nobody_seen (Pend j) u =
      unseen_empty t.pending t.server.set.pending fresh.waiting j (ap (λ (v : View). v.used) (sym (seen_pend t (stage_settled t fresh.idle) j)) ∙ u)

  -- what set-up leaves is good
  pub fresh_good : Good t
  fresh_good = record {
    apart = record { within = λ p u. absurd (nobody_seen p u); distinct = λ p q u v e. absurd (nobody_seen p u) };
    ask = nothing_asked t fresh.idle;
  }

-- and every history keeps it so
pub good_always : (t : State) → Good t → (h : List Call) → Good (after t h)
unfolding after
good_always t good [] = good
good_always t good (k ∷ h) = let g = good_always t good h in does_good (after t h) (next (after t h) k) (told (after t h) k) g (calls_do (after t h) g k)

-- ---- what that says of the tables

-- used addresses are distinct, in either table and across them
pub record Separate (t : State) : Type 0 where
  pub slots : Distinct columns.addr t.slots t.server.set.slots
  pub pending : Distinct columns.addr t.pending t.server.set.pending
  pub across : (i j : ℕ) → i < t.server.set.slots → j < t.server.set.pending → used_at t.slots i ≡ true → used_at t.pending j ≡ true
      → field_of t.slots t.server.set.slots i columns.addr ≡ field_of t.pending t.server.set.pending j columns.addr → ⊥

-- a used place is seen with its address, a record on its way or not
module _ (t : State) where
  slot_shown : (i : ℕ) → i < t.server.set.slots → used_at t.slots i ≡ true
      → ((seen t (Slot i)).used ≡ true) × ((seen t (Slot i)).addr ≡ field_of t.slots t.server.set.slots i columns.addr)
  slot_shown i h u =
      let v = seen_slot t i ∙ view_inside t.slots t.server.set.slots i h in
      (ap (λ (x : View). x.used) v ∙ u, ap (λ (x : View). x.addr) v)

  pend_shown : (j : ℕ) → j < t.server.set.pending → used_at t.pending j ≡ true
      → ((seen t (Pend j)).used ≡ true) × ((seen t (Pend j)).addr ≡ field_of t.pending t.server.set.pending j columns.addr)
  unfolding seen
  pend_shown j h u =
      let v = view_inside t.pending t.server.set.pending j h in
      pick_all (λ (x : View). (x.used ≡ true) × (x.addr ≡ field_of t.pending t.server.set.pending j columns.addr)) (views.leaves t.server.ask.stage j)
      (λ _. (refl, ap (λ (x : View). x.addr) v))
      (λ _. (ap (λ (x : View). x.used) v ∙ u, ap (λ (x : View). x.addr) v))

pub good_separate : (t : State) → Good t → Separate t
good_separate t good = record {
  slots = λ i j h k u v e.
      let a = slot_shown t i h u in
      let b = slot_shown t j k v in
      let x : Slot i ≡ Slot j = good.apart.distinct (Slot i) (Slot j) a.0 b.0 (a.1 ∙ e ∙ sym b.1) in
      let y : i ≡ j = cc in
      y;
  pending = λ i j h k u v e.
      let a = pend_shown t i h u in
      let b = pend_shown t j k v in
      let x : Pend i ≡ Pend j = good.apart.distinct (Pend i) (Pend j) a.0 b.0 (a.1 ∙ e ∙ sym b.1) in
      let y : i ≡ j = cc in
      y;
  across = λ i j h k u v e.
      let a = slot_shown t i h u in
      let b = pend_shown t j k v in
      slot_not_pend i j (good.apart.distinct (Slot i) (Pend j) a.0 b.0 (a.1 ∙ e ∙ sym b.1));
}

-- USED ADDRESSES ARE DISTINCT in every state that is reached from set-up by any calls: datagrams, answers, calls for a client, the clock's steps
-- and new client limits
pub separate_always : (c : ServerConfig) (t : State) (entries public : List ℕ) → Fresh c t.server t.slots t.pending entries public → (h : List Call) → Separate (after t h)
separate_always c t entries public fresh h = good_separate (after t h) (good_always t (fresh_good c t entries public fresh) h)
