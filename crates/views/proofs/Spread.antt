-- Used addresses stay distinct under every effect: a record that stays keeps its address, one that is made has an address that no record
-- has, and one that moves leaves the place that it had.
use mathlib.Core.Path.{◌≡◌, sym, ap, ◌∙◌}
use mathlib.Core.Bool.{Bool, true, false}
use Prim.Native.Nat.{ℕ}
use native.Mathlib.Omega.{arith}
use lib.Dec.{eqb}
use borrow.Author.Tests.{eqb-true, eqb-false}
use Rattle.serialize.proofs.Choice.{by_test}
use Rattle.places.proofs.Searches.{true_false}
use Rattle.views.specs.Views.{Place, Slot, Pend, View, seen, inside}
use Rattle.views.specs.Effects.{Told, Stays, as_is, ended, Others, Effect, kept, took, made, moved, Apart, Good, Does}
use Rattle.turns.specs.Outcomes.{State}

-- ---- places are the same or not

pub slot_not_pend : {A : Type 0} (i j : ℕ) → Slot i ≡ Pend j → A
slot_not_pend i j e = let z : ◌≡◌ {A = ℕ} 0 1 = cc in absurd (omega arith)

pub by_place_lem : {A : Type 0} (p q : Place) → (p ≡ q → A) → ((p ≡ q → ⊥) → A) → A
by_place_lem (Slot i) (Slot j) same other = by_test (eqb i j) (λ e. same (ap Slot (eqb-true i j e))) (λ e. other (λ x. let y : i ≡ j = cc in eqb-false i j e y))
by_place_lem (Slot i) (Pend j) same other = other (λ e. slot_not_pend i j e)
by_place_lem (Pend i) (Slot j) same other = other (λ e. slot_not_pend j i (sym e))
by_place_lem (Pend i) (Pend j) same other = by_test (eqb i j) (λ e. same (ap Pend (eqb-true i j e))) (λ e. other (λ x. let y : i ≡ j = cc in eqb-false i j e y))

-- ---- records that stay

pub stayed : {x y : View} → Stays x y → y.used ≡ true → y ≡ x
stayed (as_is e) u = e
stayed (ended e) u = absurd (true_false u e)

-- a used record of g stands where one of f does, with its address
abbrev Keeps : (Place → View) → (Place → View) → Place → Type 0
Keeps f g q = ((f q).used ≡ true) × ((g q).addr ≡ (f q).addr)

same_keeps : (f g : Place → View) (q : Place) → g q ≡ f q → (g q).used ≡ true → Keeps f g q
same_keeps f g q e u = (ap (λ (v : View). v.used) (sym e) ∙ u, ap (λ (v : View). v.addr) e)

module _ (ins : Place → Bool) (f g : Place → View) (apart : Apart ins f) where
  keeps_apart : ((q : Place) → (g q).used ≡ true → Keeps f g q) → Apart ins g
  keeps_apart k = record {
    within = λ p u. apart.within p (k p u).0;
    distinct = λ p q u v e. apart.distinct p q (k p u).0 (k q v).0 (sym (k p u).1 ∙ e ∙ (k q v).1);
  }

  -- a record is made at p
  made_apart : (p : Place) → ins p ≡ true → ((q : Place) → (f q).used ≡ true → (f q).addr ≡ (g p).addr → ⊥) → Others f g p → Apart ins g
  made_apart p i none o = record {
    within = λ q u. by_place_lem p q (λ e. ap ins (sym e) ∙ i) (λ d. apart.within q (same_keeps f g q (o q d) u).0);
    distinct = λ a b u v e.
        by_place_lem p a
        (λ x. by_place_lem p b (λ y. sym x ∙ y) (λ d. let k = same_keeps f g b (o b d) v in absurd (none b k.0 (sym k.1 ∙ sym e ∙ ap (λ (q : Place). (g q).addr) (sym x)))))
        (λ c.
        let k = same_keeps f g a (o a c) u in
        by_place_lem p b
        (λ y. absurd (none a k.0 (sym k.1 ∙ e ∙ ap (λ (q : Place). (g q).addr) (sym y))))
        (λ d. let l = same_keeps f g b (o b d) v in apart.distinct a b k.0 l.0 (sym k.1 ∙ e ∙ l.1)));
  }

  -- a record goes from p to q
  module _ (p q : Place) (into : ins q ≡ true) (from : (f p).used ≡ true) (left : (g p).used ≡ false) (whole : g q ≡ f p)
      (others : (r : Place) → (p ≡ r → ⊥) → (q ≡ r → ⊥) → g r ≡ f r) where
    not_left : (r : Place) → (g r).used ≡ true → p ≡ r → ⊥
    not_left r u e = true_false (ap (λ (x : Place). (g x).used) e ∙ u) left

    rest : (r : Place) → (g r).used ≡ true → (q ≡ r → ⊥) → Keeps f g r
    rest r u d = same_keeps f g r (others r (not_left r u) d) u

    -- the record at q and another one
    alone : (r : Place) → (g r).used ≡ true → (q ≡ r → ⊥) → (g q).addr ≡ (g r).addr → ⊥
    alone r u d e =
        let k = rest r u d in
        not_left r u (apart.distinct p r from k.0 (ap (λ (v : View). v.addr) (sym whole) ∙ e ∙ k.1))

    moved_apart : Apart ins g
    moved_apart = record {
      within = λ r u. by_place_lem q r (λ e. ap ins (sym e) ∙ into) (λ d. apart.within r (rest r u d).0);
      distinct = λ a b u v e.
          by_place_lem q a
          (λ x. by_place_lem q b (λ y. sym x ∙ y) (λ d. absurd (alone b v d (ap (λ (r : Place). (g r).addr) x ∙ e))))
          (λ c.
          by_place_lem q b
          (λ y. absurd (alone a u c (ap (λ (r : Place). (g r).addr) y ∙ sym e)))
          (λ d. let k = rest a u c in let l = rest b v d in apart.distinct a b k.0 l.0 (sym k.1 ∙ e ∙ l.1)));
    }

  pub effect_apart : (e : Told) → Effect ins f e g → Apart ins g
  effect_apart e (kept n s) = keeps_apart (λ q u. same_keeps f g q (stayed (s q) u) u)
  effect_apart e (took p sequence n used passes s o) =
      keeps_apart
      (λ q u.
      by_place_lem p q
      (λ x.
      let v : (g p).used ≡ true = ap (λ (r : Place). (g r).used) x ∙ u in
      (ap (λ (r : Place). (f r).used) (sym x) ∙ used, ap (λ (r : Place). (g r).addr) (sym x) ∙ ap (λ (w : View). w.addr) (stayed s v) ∙ ap (λ (r : Place). (f r).addr) x))
      (λ d. same_keeps f g q (o q d) u))
  effect_apart e (made j n i free used win none o) = made_apart (Pend j) i none o
  effect_apart e (moved j i n into from to left whole o) = moved_apart (Pend j) (Slot i) into from left whole o

-- so a good state stays good
pub does_good : (t u : State) (e : Told) → Good t → Does t e u → Good u
does_good t u e good does =
    let a = effect_apart (inside t) (seen t) (seen u) good.apart e does.effect in
    record {
      apart = record { within = λ p v. does.places p ∙ a.within p v; distinct = a.distinct };
      ask = does.ask;
    }
