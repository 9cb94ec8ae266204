-- A code that is not 0 is refused where it is tested, and one that is 0 lets the rest decide: so each call's ways out are the cases of its
-- definition.
use Rattle.std.specs.Prelude.{Option, Result, Ok, Err}
use Rattle.std.specs.Int.{from_bool}
use mathlib.Core.Path.{◌≡◌, refl, sym, ap, ap₂, ◌∙◌}
use mathlib.Core.Bool.{Bool, true, false, not}
use Prim.Native.Nat.{ℕ, ◌%◌}
use mathlib.Core.List.{List}
use lib.ListN.{length}
use lib.Dec.{eqb, ltb}
use borrow.Author.Tests.{eq-eqb, ne_eqb}
use Rattle.serialize.specs.Choice.{pick}
use Rattle.serialize.proofs.Choice.{by_test}
use Rattle.refusal.specs.Verdicts.{verdict}
use Rattle.refusal.proofs.Laws.{passed, refused_as, refused_some}
use Rattle.addresses.specs.declared.Address.{Address}
use Rattle.addresses.specs.Addresses.{well_formed, refusal, is_found, find_malformed, list_refusal}
use Rattle.places.specs.Layout.{place_words, count, places_refusal}
use Rattle.entries.specs.Layout.{entries_refusal}
use Rattle.entries.specs.Layout as entry
use Rattle.entries.specs.Finds.{done, add_entry}
use Rattle.table_calls.specs.Calls.{Told, told, bit_of, found_as, shaped, entry_of, outcome_told}

module _ {A : Type 0} (x : ℕ) (a b : A) where
  pub stops : (x ≡ 0 → ⊥) → a ≡ pick (not (eqb x 0)) a b
  unfolding pick
  stops n = sym (ap (λ (c : Bool). pick (not c) a b) (ne_eqb x 0 n))

  pub passes : x ≡ 0 → b ≡ pick (not (eqb x 0)) a b
  unfolding pick
  passes e = sym (ap (λ (c : Bool). pick (not c) a b) (eq-eqb x 0 e))

pub bit_true : {b : Bool} → b ≡ true → 1 ≡ bit_of b
unfolding bit_of pick
bit_true e = sym (ap (λ (b : Bool). pick b 1 0) e)

pub bit_false : {b : Bool} → b ≡ false → 0 ≡ bit_of b
unfolding bit_of pick
bit_false e = sym (ap (λ (b : Bool). pick b 1 0) e)

pub bit_from : (b : Bool) → from_bool b ≡ bit_of b
unfolding bit_of pick
bit_from true = refl
bit_from false = refl

-- ---- a test that refuses does so by one number

pub places_unfit : (t : List ℕ) (most : ℕ) → (places_refusal t most ≡ 0 → ⊥) → places_refusal t most ≡ 23
unfolding places_refusal pick
places_unfit t most n =
    by_test (eqb (length t % place_words) 0)
    (λ a.
    by_test (eqb (count t) 0)
    (λ b. simp (a, b))
    (λ b.
    by_test (ltb most (count t))
    (λ c. simp (a, b, c))
    (λ c. absurd (n (simp (a, b, c))))))
    (λ a. simp a)

pub entries_unfit : (t : List ℕ) → (entries_refusal t ≡ 0 → ⊥) → entries_refusal t ≡ 23
unfolding entries_refusal pick
entries_unfit t n =
    by_test (eqb (length t % 48) 0)
    (λ a.
    by_test (eqb (entry.count t) 0)
    (λ b. simp (a, b))
    (λ b.
    by_test (ltb 2048 (entry.count t))
    (λ c. simp (a, b, c))
    (λ c. absurd (n (simp (a, b, c))))))
    (λ a. simp a)

pub address_malformed : (a : Address) → (refusal a ≡ 0 → ⊥) → refusal a ≡ 19
unfolding refusal pick
address_malformed a n = by_test (well_formed a.kind a.low a.high) (λ e. absurd (n (simp e))) (λ e. simp e)

pub list_malformed : (list : List ℕ) → (list_refusal list ≡ 0 → ⊥) → list_refusal list ≡ 19
unfolding list_refusal pick
list_malformed list n = by_test (is_found (find_malformed list)) (λ e. simp e) (λ e. absurd (n (simp e)))

-- ---- the tests that calls share

-- r is what the table's test gave
module _ (t place : List ℕ) (r : ℕ) (tested : r ≡ places_refusal t 4096) (next : Told) where
  pub unshaped : (r ≡ 0 → ⊥) → told 23 place ≡ shaped t place next
  unshaped n = stops (places_refusal t 4096) (told 23 place) next (λ e. n (tested ∙ e))

  pub is_shaped : r ≡ 0 → next ≡ shaped t place next
  is_shaped e = passes (places_refusal t 4096) (told 23 place) next (sym tested ∙ e)

-- x is what the table's test came to
module _ (t place : List ℕ) (x : Result (Unit {0}) ℕ) (tested : x ≡ verdict (places_refusal t 4096)) (next : Told) where
  pub table_refused : (r number : ℕ) → x ≡ Err r → number ≡ r → told number place ≡ shaped t place next
  table_refused r number h e =
      let q = refused_as (places_refusal t 4096) x tested r h in
      let some = refused_some (places_refusal t 4096) x tested r h in
      ap (λ (y : ℕ). told y place) (e ∙ q ∙ places_unfit t 4096 (λ z. some (q ∙ z))) ∙ unshaped t place r q next some

  pub table_taken : (u : Unit {0}) → x ≡ Ok u → next ≡ shaped t place next
  table_taken u h = is_shaped t place (places_refusal t 4096) refl next (sym (passed (places_refusal t 4096) x tested u h))

-- a is the address that was made of b's parts, r what its test gave
module _ (a b : Address) (made : a ≡ b) (r : ℕ) (tested : r ≡ refusal a) (no next : Told) where
  pub malformed : (r ≡ 0 → ⊥) → no ≡ pick (not (eqb (refusal b) 0)) no next
  malformed n = stops (refusal b) no next (λ e. n (tested ∙ ap refusal made ∙ e))

  pub is_formed : r ≡ 0 → next ≡ pick (not (eqb (refusal b) 0)) no next
  is_formed e = passes (refusal b) no next (sym (tested ∙ ap refusal made) ∙ e)

-- x is what the test of a came to
module _ (a b : Address) (made : a ≡ b) (x : Result (Unit {0}) ℕ) (tested : x ≡ verdict (refusal a)) (left : List ℕ) (next : Told) where
  pub address_refused : (r number : ℕ) → x ≡ Err r → number ≡ r → told number left ≡ pick (not (eqb (refusal b) 0)) (told 19 left) next
  address_refused r number h e =
      let q = refused_as (refusal a) x tested r h in
      let some = refused_some (refusal a) x tested r h in
      ap (λ (y : ℕ). told y left) (e ∙ q ∙ address_malformed a (λ z. some (q ∙ z))) ∙ malformed a b made r q (told 19 left) next some

  pub address_taken : (u : Unit {0}) → x ≡ Ok u → next ≡ pick (not (eqb (refusal b) 0)) (told 19 left) next
  address_taken u h = is_formed a b made (refusal a) refl (told 19 left) next (sym (passed (refusal a) x tested u h))

-- x is what a list's test came to
module _ (list : List ℕ) (x : Result (Unit {0}) ℕ) (tested : x ≡ verdict (list_refusal list)) (next : ℕ) where
  pub list_refused : (r number : ℕ) → x ≡ Err r → number ≡ r → number ≡ pick (not (eqb (list_refusal list) 0)) 19 next
  list_refused r number h e =
      let q = refused_as (list_refusal list) x tested r h in
      let some = refused_some (list_refusal list) x tested r h in
      e ∙ q ∙ list_malformed list (λ z. some (q ∙ z)) ∙ stops (list_refusal list) 19 next (λ z. some (q ∙ z))

  pub list_taken : (u : Unit {0}) → x ≡ Ok u → next ≡ pick (not (eqb (list_refusal list) 0)) 19 next
  list_taken u h = passes (list_refusal list) 19 next (sym (passed (list_refusal list) x tested u h))

-- ---- what a search found, laid out: k is the table's count, f what was found

pub laid_find : (place : List ℕ) (find : ℕ → Option ℕ) (k n : ℕ) → k ≡ n → (f : Option ℕ) → f ≡ find k → (number : ℕ) (left : List ℕ) → told number left ≡ found_as f place
    → told number left ≡ found_as (find n) place
laid_find place find k n e f g number left l = l ∙ ap (λ (x : Option ℕ). found_as x place) (g ∙ ap find e)

-- ---- the token entries

-- r is what the entries' test gave
module _ (t : List ℕ) (r : ℕ) (tested : r ≡ entries_refusal t) (next : Told) where
  pub no_entries : (r ≡ 0 → ⊥) → told 23 t ≡ pick (not (eqb (entries_refusal t) 0)) (told 23 t) next
  no_entries n = stops (entries_refusal t) (told 23 t) next (λ e. n (tested ∙ e))

  pub are_entries : r ≡ 0 → next ≡ pick (not (eqb (entries_refusal t) 0)) (told 23 t) next
  are_entries e = passes (entries_refusal t) (told 23 t) next (sym tested ∙ e)

-- x is what the entries' test came to
module _ (t : List ℕ) (x : Result (Unit {0}) ℕ) (tested : x ≡ verdict (entries_refusal t)) (next : Told) where
  pub entries_refused : (r number : ℕ) → x ≡ Err r → number ≡ r → told number t ≡ pick (not (eqb (entries_refusal t) 0)) (told 23 t) next
  entries_refused r number h e =
      let q = refused_as (entries_refusal t) x tested r h in
      let some = refused_some (entries_refusal t) x tested r h in
      ap (λ (y : ℕ). told y t) (e ∙ q ∙ entries_unfit t (λ z. some (q ∙ z))) ∙ no_entries t r q next some

  pub entries_taken : (u : Unit {0}) → x ≡ Ok u → next ≡ pick (not (eqb (entries_refusal t) 0)) (told 23 t) next
  entries_taken u h = are_entries t (entries_refusal t) refl next (sym (passed (entries_refusal t) x tested u h))

-- k is their count, e the entry as it was put together, a its address
pub laid_entry : (t : List ℕ) (k n : ℕ) → k ≡ n → (secs nanos : ℕ) (a b : Address) → a ≡ b → (mac : List ℕ) (r : Bool) (left : List ℕ) → done r left ≡ add_entry t k (entry_of secs nanos a mac)
    → (number : ℕ) → number ≡ bit_of r → told number left ≡ outcome_told (add_entry t n (entry_of secs nanos b mac))
laid_entry t k n e secs nanos a b made mac r left p number q =
    ap (λ (x : ℕ). told x left) q ∙ ap outcome_told (p ∙ ap₂ (λ (x : ℕ) (y : Address). add_entry t x (entry_of secs nanos y mac)) e made)
