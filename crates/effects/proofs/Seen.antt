-- What is seen of a state, from its tables: with no record on its way to a slot, a place is seen as its table has it, so a call whose
-- writes no view shows keeps what is seen, and one that changes a single place changes what is seen there alone.
use mathlib.Core.Path.{◌≡◌, refl, sym, ap, ◌∙◌}
use mathlib.Core.Bool.{Bool, true, false, ◌||◌}
use Prim.Native.Nat.{ℕ}
use lib.Dec.{ltb}
use Rattle.serialize.specs.Choice.{pick}
use Rattle.places.proofs.Searches.{true_false}
use Rattle.server.specs.declared.SetUp.{SetUp}
use Rattle.server.specs.declared.Stage.{Stage}
use Rattle.turns.specs.Outcomes.{State}
use Rattle.views.specs.Views.{Place, Slot, Pend, View, leaves, view_at, seen, inside}
use Rattle.views.specs.Effects.{None, Stays, as_is, ended, Others, Effect, kept, AskFits, Does}
use Rattle.views.proofs.Stores.{Unseen}

-- both ways of a choice
pub pick_all : {A : Type 0} {x y : A} (P : A → Type 0) (b : Bool) → (b ≡ true → P x) → (b ≡ false → P y) → P (pick b x y)
unfolding pick
pick_all P true f g = f refl
pick_all P false f g = g refl

-- neither of two tests holds
pub both_false : (a b : Bool) → a || b ≡ false → (a ≡ false) × (b ≡ false)
both_false false false e = (refl, refl)
both_false false true e = absurd (true_false refl e)
both_false true b e = absurd (true_false refl e)

-- no record is on its way to a slot
pub record Settled (t : State) : Type 0 where
  pub none : (j : ℕ) → leaves t.server.ask.stage j ≡ false

module _ (t : State) where
  pub seen_slot : (i : ℕ) → seen t (Slot i) ≡ view_at t.slots t.server.set.slots i
  unfolding seen
  seen_slot i = refl

  pub seen_pend : Settled t → (j : ℕ) → seen t (Pend j) ≡ view_at t.pending t.server.set.pending j
  unfolding seen pick
  seen_pend s j = simp (s.none j)

-- ---- the state afterwards: the same set-up

module _ (t u : State) (same : u.server.set ≡ t.server.set) where
  pub inside_same : (p : Place) → inside u p ≡ inside t p
  unfolding inside
  inside_same (Slot i) = ap (λ (x : SetUp). ltb i x.slots) same
  inside_same (Pend j) = ap (λ (x : SetUp). ltb j x.pending) same

  slot_view : (i : ℕ) → view_at u.slots t.server.set.slots i ≡ seen u (Slot i)
  slot_view i = ap (λ (x : SetUp). view_at u.slots x.slots i) (sym same) ∙ sym (seen_slot u i)

  pend_view : Settled u → (j : ℕ) → view_at u.pending t.server.set.pending j ≡ seen u (Pend j)
  pend_view s j = ap (λ (x : SetUp). view_at u.pending x.pending j) (sym same) ∙ sym (seen_pend u s j)

  -- slots whose views are the same
  pub slots_same : Unseen t.server.set.slots t.slots u.slots → (i : ℕ) → seen u (Slot i) ≡ seen t (Slot i)
  slots_same k i = sym (slot_view i) ∙ k.same i ∙ sym (seen_slot t i)

  pub pending_same : Settled t → Settled u → Unseen t.server.set.pending t.pending u.pending → (j : ℕ) → seen u (Pend j) ≡ seen t (Pend j)
  pending_same s v k j = sym (pend_view v j) ∙ k.same j ∙ sym (seen_pend t s j)

  module _ (s : Settled t) (v : Settled u) where
    pub all_same : Unseen t.server.set.slots t.slots u.slots → Unseen t.server.set.pending t.pending u.pending
        → (q : Place) → seen u q ≡ seen t q
    all_same a b (Slot i) = slots_same a i
    all_same a b (Pend j) = pending_same s v b j

    -- ---- one place changed: x is what it had to become, or it is empty

    pub slot_changes : (i : ℕ) (x : View) → Stays x (view_at u.slots t.server.set.slots i)
        → ((q : ℕ) → (i ≡ q → ⊥) → view_at u.slots t.server.set.slots q ≡ view_at t.slots t.server.set.slots q)
        → Unseen t.server.set.pending t.pending u.pending
        → Stays x (seen u (Slot i)) × Others (seen t) (seen u) (Slot i)
    slot_changes i x here else rest = (onto here, others)
      where
        onto : Stays x (view_at u.slots t.server.set.slots i) → Stays x (seen u (Slot i))
        onto (as_is e) = as_is (sym (slot_view i) ∙ e)
        onto (ended e) = ended (ap (λ (w : View). w.used) (sym (slot_view i)) ∙ e)

        others : Others (seen t) (seen u) (Slot i)
        others (Slot q) d = sym (slot_view q) ∙ else q (λ e. d (ap Slot e)) ∙ sym (seen_slot t q)
        others (Pend j) d = pending_same s v rest j

    pub pend_changes : (j : ℕ) (x : View) → Stays x (view_at u.pending t.server.set.pending j)
        → ((q : ℕ) → (j ≡ q → ⊥) → view_at u.pending t.server.set.pending q ≡ view_at t.pending t.server.set.pending q)
        → Unseen t.server.set.slots t.slots u.slots
        → Stays x (seen u (Pend j)) × Others (seen t) (seen u) (Pend j)
    pend_changes j x here else rest = (onto here, others)
      where
        onto : Stays x (view_at u.pending t.server.set.pending j) → Stays x (seen u (Pend j))
        onto (as_is e) = as_is (sym (pend_view v j) ∙ e)
        onto (ended e) = ended (ap (λ (w : View). w.used) (sym (pend_view v j)) ∙ e)

        others : Others (seen t) (seen u) (Pend j)
        others (Slot i) d = slots_same rest i
        others (Pend q) d = sym (pend_view v q) ∙ else q (λ e. d (ap Pend e)) ∙ sym (seen_pend t s q)

-- ---- what an ask says, by its stage

pub asks_at : (ins : Place → Bool) (f : Place → View) (x y : Stage) → x ≡ y → AskFits ins f y → AskFits ins f x
asks_at ins f x y e a = rw e a

-- ---- effects

-- everything as it was
pub still : {ins : Place → Bool} {f g : Place → View} → ((q : Place) → g q ≡ f q) → Effect ins f None g
still e = kept refl (λ q. as_is (e q))

-- the same state
pub unchanged : (t : State) → AskFits (inside t) (seen t) t.server.ask.stage → Does t None t
unchanged t a = record { places = λ p. refl; effect = still (λ q. refl); ask = a }
