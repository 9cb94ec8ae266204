-- A number that is not 0 is the answer, and one that is 0 lets what was found decide: so each query's ways out are the cases of its
-- definition.
use Rattle.std.specs.Prelude.{Option, Some, None}
use mathlib.Core.Path.{◌≡◌, refl, sym, ap, ap₂, ◌∙◌}
use mathlib.Core.Bool.{Bool}
use Prim.Native.Nat.{ℕ, ◌≤◌, ◌<◌}
use native.Mathlib.Omega.{arith}
use mathlib.Core.List.{List}
use lib.ListN.{length}
use lib.Dec.{eqb, ltb}
use borrow.Author.Tests.{eq-eqb, ne_eqb, lt-ltb, le-ltb}
use Rattle.serialize.specs.Choice.{pick}
use Rattle.serialize.specs.Runs.{part, splice}
use Rattle.serialize.proofs.Lists.{part_whole}
use Rattle.places.specs.Layout.{Shaped}
use Rattle.places.specs.Finds.{find_id, used_count}
use Rattle.places.proofs.Searches.{id_found}
use Rattle.server.specs.declared.NetcodeServer.{NetcodeServer}
use Rattle.server.specs.Ready.{slots_refusal, list_refusal}
use Rattle.server.proofs.Inversions.{slots_shaped}
use Rattle.queries.specs.Queries.{with_slots, by_slot, told, listed, listed_into, public_into}
use Rattle.queries.specs.declared.Reply.TheVariants.{Refused, Count}

-- r is what a test of lengths gave
module _ {A : Type 0} (r t : ℕ) (tested : r ≡ t) (refused : ℕ → A) (next : A) where
  pub stops : (r ≡ 0 → ⊥) → refused r ≡ pick (eqb t 0) next (refused t)
  unfolding pick
  stops n = ap refused tested ∙ sym (ap (λ (b : Bool). pick b next (refused t)) (ne_eqb t 0 (λ z. n (tested ∙ z))))

  pub passes : r ≡ 0 → next ≡ pick (eqb t 0) next (refused t)
  unfolding pick
  passes z = sym (ap (λ (b : Bool). pick b next (refused t)) (eq-eqb t 0 (sym tested ∙ z)))

-- a list that is too short for what is wanted, and one that is not
module _ {A : Type 0} (have want : ℕ) (short next : A) where
  pub is_short : have < want → short ≡ pick (ltb have want) short next
  unfolding pick
  is_short h = sym (ap (λ (b : Bool). pick b short next) (lt-ltb have want h))

  pub is_enough : want ≤ have → next ≡ pick (ltb have want) short next
  unfolding pick
  is_enough h = sym (ap (λ (b : Bool). pick b short next) (le-ltb have want h))

-- r is what the test of the slots gave
module _ (s : NetcodeServer) (slots : List ℕ) (r : ℕ) (tested : r ≡ slots_refusal s.set (length slots)) where
  pub is_shaped : r ≡ 0 → Shaped slots s.set.slots
  is_shaped zero = slots_shaped s.set slots (sym tested ∙ zero)

  module _ {A : Type 0} (refused : ℕ → A) (next : A) where
    pub is_refused : (r ≡ 0 → ⊥) → refused r ≡ with_slots s slots refused next
    is_refused = stops r (slots_refusal s.set (length slots)) tested refused next

    pub is_next : r ≡ 0 → next ≡ with_slots s slots refused next
    is_next = passes r (slots_refusal s.set (length slots)) tested refused next

  -- f is what the search for an id found
  module _ (zero : r ≡ 0) (id : ℕ) (f : Option ℕ) (found : f ≡ find_id slots s.set.slots id) where
    pub is_place : (i : ℕ) → f ≡ Some i → Shaped slots s.set.slots × (i < s.set.slots)
    is_place i e = (is_shaped zero, ((id_found slots s.set.slots (is_shaped zero) id i).0 (sym found ∙ e)).below)

    module _ {A : Type 0} (refused : ℕ → A) (at : ℕ → A) (none : A) where
      by_found_lem : by_slot f at none ≡ with_slots s slots refused (by_slot (find_id slots s.set.slots id) at none)
      by_found_lem = ap (λ (x : Option ℕ). by_slot x at none) found ∙ is_next refused (by_slot (find_id slots s.set.slots id) at none) zero

      pub is_found : (i : ℕ) → f ≡ Some i → at i ≡ with_slots s slots refused (by_slot (find_id slots s.set.slots id) at none)
      unfolding by_slot
      is_found i e = sym (ap (λ (x : Option ℕ). by_slot x at none) e) ∙ by_found_lem

      pub is_missed : f ≡ None → none ≡ with_slots s slots refused (by_slot (find_id slots s.set.slots id) at none)
      unfolding by_slot
      is_missed e = sym (ap (λ (x : Option ℕ). by_slot x at none) e) ∙ by_found_lem

-- a list of the slots: r is what their test gave, k their count
module _ (s : NetcodeServer) (slots list : List ℕ) (ids : Bool) (r : ℕ) (tested : r ≡ slots_refusal s.set (length slots)) where
  pub list_refused : (r ≡ 0 → ⊥) → told (Refused r) list ≡ listed_into s slots ids list
  unfolding listed_into
  list_refused = is_refused s slots r tested (λ (n : ℕ). told (Refused n) list) _

  module _ (zero : r ≡ 0) (k : ℕ) (counted : k ≡ used_count slots s.set.slots) where
    pub list_short : length list < k → told (Refused 14) list ≡ listed_into s slots ids list
    unfolding listed_into
    list_short h =
        is_short (length list) (used_count slots s.set.slots) (told (Refused 14) list) _ (omega arith)
        ∙ is_next s slots r tested (λ (n : ℕ). told (Refused n) list) _ zero

    pub list_filled : k ≤ length list → (left : List ℕ) → left ≡ splice list 0 (listed slots s.set.slots ids s.set.slots)
        → told (Count k) left ≡ listed_into s slots ids list
    unfolding listed_into
    list_filled h left e =
        ap₂ (λ (x : ℕ) (y : List ℕ). told (Count x) y) counted e
        ∙ is_enough (length list) (used_count slots s.set.slots) (told (Refused 14) list) _ (omega arith)
        ∙ is_next s slots r tested (λ (n : ℕ). told (Refused n) list) _ zero

-- r is what the test of the public addresses gave
module _ (s : NetcodeServer) (public list : List ℕ) (r : ℕ) (tested : r ≡ list_refusal s.set (length public)) where
  pub public_refused : (r ≡ 0 → ⊥) → told (Refused r) list ≡ public_into s public list
  unfolding public_into
  public_refused = stops r (list_refusal s.set (length public)) tested (λ (n : ℕ). told (Refused n) list) _

  module _ (zero : r ≡ 0) where
    pub public_short : length list < length public → told (Refused 14) list ≡ public_into s public list
    unfolding public_into
    public_short h =
        is_short (length list) (length public) (told (Refused 14) list) _ h
        ∙ passes r (list_refusal s.set (length public)) tested (λ (n : ℕ). told (Refused n) list) _ zero

    pub public_copied : length public ≤ length list → (left : List ℕ) → left ≡ splice list 0 (part public 0 (length public))
        → told (Count s.set.addresses) left ≡ public_into s public list
    unfolding public_into
    public_copied h left e =
        ap (told (Count s.set.addresses)) (e ∙ ap (splice list 0) (part_whole public (length public) refl))
        ∙ is_enough (length list) (length public) (told (Refused 14) list) _ h
        ∙ passes r (list_refusal s.set (length public)) tested (λ (n : ℕ). told (Refused n) list) _ zero
