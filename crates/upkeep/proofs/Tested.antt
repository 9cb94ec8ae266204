-- Set-up's tests refuse nothing exactly where each of them is passed, since a number that is not 0 would have been given.
use mathlib.Core.Path.{◌≡◌, refl, sym, subst, ◌∙◌}
use mathlib.Core.Logic.{◌↔◌}
use mathlib.Core.Bool.{Bool, true, false, not}
use Prim.Native.Nat.{ℕ, ◌*◌, ◌%◌, ◌≤◌}
use native.Mathlib.Omega.{arith}
use mathlib.Core.List.{List}
use lib.ListN.{length}
use lib.Dec.{eqb, ltb}
use borrow.Author.Tests.{eq-eqb, ne_eqb, le-ltb, eqb-true, eqb-false, ltb-false}
use Rattle.serialize.specs.Choice.{pick}
use Rattle.addresses.specs.Addresses as listed
use Rattle.places.specs.Layout.{Shaped, place_words, count, places_refusal}
use Rattle.entries.specs.Layout as entry
use Rattle.entries.proofs.Meaning.{taken_shaped, shaped_taken}
use Rattle.server.proofs.Inversions.{Taken, neither}
use Rattle.server.proofs.Ways.{second_decides}
use Rattle.upkeep.specs.SetUps.{lengths_refusal, set_up_refusal}
use Rattle.upkeep.proofs.Ways.{lengths_pass}

-- ---- a table's length

three : (a b c : Bool) → pick {A = ℕ} (not a) 23 (pick b 23 (pick c 23 0)) ≡ 0 → (a ≡ true) × (b ≡ false) × (c ≡ false)
unfolding pick
three true false false h = (refl, refl, refl)
three true false true h = absurd (omega arith)
three true true c h = absurd (omega arith)
three false b c h = absurd (omega arith)

places_taken : (t : List ℕ) (most : ℕ) → places_refusal t most ≡ 0 → Taken (length t) (count t) most place_words
unfolding places_refusal
places_taken t most h =
    let (a, b, c) = three (eqb (length t % place_words) 0) (eqb (count t) 0) (ltb most (count t)) h in
    let whole : length t % place_words ≡ 0 = eqb-true (length t % place_words) 0 a in
    let some : count t ≡ 0 → ⊥ = eqb-false (count t) 0 b in
    record { some = omega arith; few = ltb-false most (count t) c; long = omega arith }

places_pass : (t : List ℕ) (most : ℕ) → Taken (length t) (count t) most place_words → places_refusal t most ≡ 0
unfolding places_refusal pick
places_pass t most k =
    let whole : length t % place_words ≡ 0 = omega (arith, k.long) in
    let some : count t ≡ 0 → ⊥ = λ z. omega (arith, k.some) in
    simp (eq-eqb (length t % place_words) 0 whole, ne_eqb (count t) 0 some, le-ltb most (count t) k.few)

-- ---- all tests

pub record Tested (limit : ℕ) (slots pending entries public : List ℕ) : Type 0 where
  pub slotted : Taken (length slots) (count slots) 1024 place_words
  pub waiting : Taken (length pending) (count pending) 4096 place_words
  pub entered : entry.Shaped entries (entry.count entries)
  pub even : length public ≡ listed.count public * 3
  pub within : limit ≤ count slots
  pub formed : listed.list_refusal public ≡ 0

five : (a b c d e : Bool) → pick {A = ℕ} (not a) 23 (pick (not b) 23 (pick (not c) 23 (pick (not d) 23 (pick e 23 0)))) ≡ 0
    → (a ≡ true) × (b ≡ true) × (c ≡ true) × (d ≡ true) × (e ≡ false)
unfolding pick
five true true true true false h = (refl, refl, refl, refl, refl)
five true true true true true h = absurd (omega arith)
five true true true false e h = absurd (omega arith)
five true true false d e h = absurd (omega arith)
five true false c d e h = absurd (omega arith)
five false b c d e h = absurd (omega arith)

module _ (limit : ℕ) (slots pending entries public : List ℕ) (r : ℕ) (gave : r ≡ set_up_refusal limit slots pending entries public) (free : r ≡ 0) where
  pub tested : Tested limit slots pending entries public
  unfolding lengths_refusal
  tested =
      let (l, f) = neither (lengths_refusal limit slots pending entries public) (listed.list_refusal public) (sym gave ∙ free) in
      let (a, b, c, d, e) = five (eqb (places_refusal slots 1024) 0) (eqb (places_refusal pending 4096) 0) (eqb (entry.entries_refusal entries) 0)
      (eqb (length public % 3) 0) (ltb (count slots) limit) l in
      let whole : length public % 3 ≡ 0 = eqb-true (length public % 3) 0 d in
      record {
        slotted = places_taken slots 1024 (eqb-true (places_refusal slots 1024) 0 a);
        waiting = places_taken pending 4096 (eqb-true (places_refusal pending 4096) 0 b);
        entered = taken_shaped entries (eqb-true (entry.entries_refusal entries) 0 c);
        even = omega arith;
        within = ltb-false (count slots) limit e;
        formed = f;
      }

  -- the shapes that clearing the tables asks for; n is what was counted

  pub slots_shaped : (n : ℕ) → n ≡ count slots → Shaped slots n
  slots_shaped n e = let k = tested.slotted in subst (Shaped slots) (sym e) (record { few = omega (arith, k.few); long = k.long })

  pub pending_shaped : (n : ℕ) → n ≡ count pending → Shaped pending n
  pending_shaped n e = let k = tested.waiting in subst (Shaped pending) (sym e) (record { few = k.few; long = k.long })

  pub entries_shaped : (n : ℕ) → n ≡ entry.count entries → entry.Shaped entries n
  entries_shaped n e = subst (entry.Shaped entries) (sym e) tested.entered

module _ (limit : ℕ) (slots pending entries public : List ℕ) where
  tests_pass : Tested limit slots pending entries public → set_up_refusal limit slots pending entries public ≡ 0
  tests_pass k =
      let even : length public % 3 ≡ 0 = omega (arith, k.even) in
      let e : 0 ≡ lengths_refusal limit slots pending entries public =
      lengths_pass limit slots pending entries public (places_refusal slots 1024) refl (places_pass slots 1024 k.slotted)
      (places_refusal pending 4096) refl (places_pass pending 4096 k.waiting)
      (entry.entries_refusal entries) refl (shaped_taken entries (entry.count entries) k.entered).0 even (count slots) refl k.within in
      sym (second_decides (lengths_refusal limit slots pending entries public) (listed.list_refusal public) 0 e refl 0 (sym k.formed))

  pub tests_exactly : (set_up_refusal limit slots pending entries public ≡ 0) ↔ Tested limit slots pending entries public
  tests_exactly = (tested limit slots pending entries public (set_up_refusal limit slots pending entries public) refl, tests_pass)
