-- What a call answers and writes, from the definitions alone: each search finds the one place that its law describes, and an entry
-- that was written is the only match for its own token.
use Rattle.std.specs.Prelude.{Option, Some, None}
use mathlib.Core.Path.{◌≡◌, refl, sym, ap, subst, ◌∙◌}
use mathlib.Core.Bool.{Bool, true, false, not}
use mathlib.Core.List.{List}
use Prim.Native.Nat.{ℕ, ◌+◌, ◌%◌, ◌<◌, ◌≤◌}
use native.Mathlib.Nat.{zero-add}
use native.Mathlib.Omega.{arith}
use lib.ListN.{length, get_or, length-replicate, get_or-replicate}
use lib.Dec.{eqb, ltb}
use borrow.Author.Tests.{eq-eqb, ne_eqb, le-ltb, eqb-true, eqb-false, ltb-false}
use Rattle.serialize.specs.Choice.{pick}
use Rattle.serialize.specs.Runs.{splice, zeros}
use Rattle.serialize.proofs.Lists.{length_splice, get_or_splice_in}
use Rattle.serialize.proofs.Search.{none_found, lowest_found}
use Rattle.addresses.specs.declared.Address.{Address}
use Rattle.addresses.specs.Addresses.{same}
use Rattle.entries.specs.declared.ConnectTokenEntry.{ConnectTokenEntry}
use Rattle.entries.specs.Layout.{Shaped, count, entries_refusal, used_at, address_at, match_at, written}
use Rattle.entries.specs.Finds.{empty_at, find_match, find_empty, oldest, place_for, Outcome, done, add_entry}
use Rattle.entries.proofs.Marks.{empty_never_matches}
use Rattle.entries.proofs.Last.{last_found, last_none}
use Rattle.entries.proofs.Oldest.{nanos_at, one_first, oldest_lowest}
use Rattle.entries.proofs.Ways.{place_empty, place_oldest, entry_matched, entry_added}
use Rattle.entries.proofs.Written.{AddressFits, written_shaped, written_address, written_matches, written_match_elsewhere}

-- no place has the entry's token
abbrev pub NoMatch : List ℕ → ℕ → ConnectTokenEntry → Type 0
NoMatch t k e = (m : ℕ) → m < k → match_at t k e.mac m ≡ false

-- no place is empty
abbrev pub Full : List ℕ → ℕ → Type 0
Full t k = (m : ℕ) → m < k → used_at t m ≡ true

by_search : {A : Type 0} (f : Option ℕ) → ((i : ℕ) → f ≡ Some i → A) → (f ≡ None → A) → A
by_search (Some i) g a = g i refl
by_search None g a = a refl

-- ---- a match

module _ (t : List ℕ) (k : ℕ) (e : ConnectTokenEntry) where
  -- the last match answers by its address, and nothing is written, whether an empty place stands before it, after it or not at all
  pub last_match_decides : (j : ℕ) → j < k → match_at t k e.mac j ≡ true → ((m : ℕ) → j < m → m < k → match_at t k e.mac m ≡ false)
      → add_entry t k e ≡ done (same (address_at t k j) e.address) t
  last_match_decides j h p q =
      sym (entry_matched t k e (last_found (match_at t k e.mac) k j (record { below = h; holds = p; none = q })) refl)

  -- an empty place i beside the match j, on either side of it, changes nothing of that
  pub match_beside_empty : (i : ℕ) → i < k → used_at t i ≡ false → (j : ℕ) → j < k → match_at t k e.mac j ≡ true
      → ((m : ℕ) → j < m → m < k → match_at t k e.mac m ≡ false) → add_entry t k e ≡ done (same (address_at t k j) e.address) t
  match_beside_empty i _ _ = last_match_decides

-- ---- no match: the place that is written

module _ (t : List ℕ) (k : ℕ) where
  first_empty : (i : ℕ) → i < k → used_at t i ≡ false → ((m : ℕ) → m < i → used_at t m ≡ true) → i ≡ place_for t k
  first_empty i h p q =
      let found : find_empty t k ≡ Some i =
      lowest_found (empty_at t) 0 k i (record { from = omega arith; below = omega arith; holds = ap not p; none = λ m a b. ap not (q m b) }) in
      (place_empty t k found).0

  none_empty : Full t k → find_empty t k ≡ None
  none_empty full = none_found (empty_at t) 0 k (λ m a b. ap not (full m (omega arith)))

  first_lowest : Full t k → (j : ℕ) → j < k → ((m : ℕ) → m < k → nanos_at t k j ≤ nanos_at t k m) → ((m : ℕ) → m < j → nanos_at t k j < nanos_at t k m)
      → j ≡ place_for t k
  first_lowest full j h lowest first =
      let only : j ≡ oldest t k =
      one_first (nanos_at t k) k j (oldest t k) (record { below = h; lowest = lowest; first = first }) (oldest_lowest t k k (omega arith)) in
      place_oldest t k (none_empty full) only

  -- some place is written in any case
  pub place_inside : 0 < k → place_for t k < k
  place_inside h =
      by_search (find_empty t k)
      (λ i f. let (p, l) = place_empty t k f in subst (λ (j : ℕ). j < k) p l)
      (λ f. subst (λ (j : ℕ). j < k) (place_oldest t k f refl) (oldest_lowest t k k h).below)

module _ (t : List ℕ) (k : ℕ) (e : ConnectTokenEntry) (none : NoMatch t k e) where
  written_at : (i : ℕ) → i ≡ place_for t k → add_entry t k e ≡ done true (written t k i e)
  written_at i p = sym (entry_added t k e (last_none (match_at t k e.mac) k none) p refl)

  pub first_empty_written : (i : ℕ) → i < k → used_at t i ≡ false → ((m : ℕ) → m < i → used_at t m ≡ true)
      → add_entry t k e ≡ done true (written t k i e)
  first_empty_written i h p q = written_at i (first_empty t k i h p q)

  pub full_first_lowest : Full t k → (j : ℕ) → j < k → ((m : ℕ) → m < k → nanos_at t k j ≤ nanos_at t k m)
      → ((m : ℕ) → m < j → nanos_at t k j < nanos_at t k m) → add_entry t k e ≡ done true (written t k j e)
  full_first_lowest full j h lowest first = written_at j (first_lowest t k full j h lowest first)

  -- there is such a place
  pub full_oldest_written : Shaped t k → Full t k → add_entry t k e ≡ done true (written t k (oldest t k) e)
  full_oldest_written s full =
      let o = oldest_lowest t k k s.some in
      full_first_lowest full (oldest t k) o.below o.lowest o.first

  pub all_times_equal : Shaped t k → Full t k → ((m : ℕ) → m < k → nanos_at t k m ≡ nanos_at t k 0) → add_entry t k e ≡ done true (written t k 0 e)
  all_times_equal s full equal =
      full_first_lowest full 0 s.some (λ m h. omega (arith, equal m h)) (λ m h. absurd (omega arith))

-- ---- the shape: what set-up takes, and what a call leaves

taken : (a b c : Bool) → pick {A = ℕ} (not a) 23 (pick b 23 (pick c 23 0)) ≡ 0 → (a ≡ true) × (b ≡ false) × (c ≡ false)
unfolding pick
taken true false false h = (refl, refl, refl)
taken true false true h = absurd (omega arith)
taken true true c h = absurd (omega arith)
taken false b c h = absurd (omega arith)

module _ (t : List ℕ) where
  pub taken_shaped : entries_refusal t ≡ 0 → Shaped t (count t)
  unfolding entries_refusal
  taken_shaped h =
      let (a, b, c) = taken (eqb (length t % 48) 0) (eqb (count t) 0) (ltb 2048 (count t)) h in
      let whole : length t % 48 ≡ 0 = eqb-true (length t % 48) 0 a in
      let some : count t ≡ 0 → ⊥ = eqb-false (count t) 0 b in
      let few : count t ≤ 2048 = ltb-false 2048 (count t) c in
      record { some = omega arith; few = few; long = omega arith }

  pub shaped_taken : (k : ℕ) → Shaped t k → (entries_refusal t ≡ 0) × (count t ≡ k)
  unfolding entries_refusal pick
  shaped_taken k s =
      let n : count t ≡ k = omega (arith, s.long) in
      let whole : length t % 48 ≡ 0 = omega (arith, s.long) in
      let some : count t ≡ 0 → ⊥ = λ z. omega (arith, s.some) in
      let few : count t ≤ 2048 = omega (arith, s.few) in
      (simp (eq-eqb (length t % 48) 0 whole, ne_eqb (count t) 0 some, le-ltb 2048 (count t) few), n)

pub added_shaped : (t : List ℕ) (k : ℕ) (e : ConnectTokenEntry) → Shaped t k → length e.mac ≡ 16 → Shaped (add_entry t k e).entries k
added_shaped t k e s n =
    by_search (find_match t k e.mac)
    (λ i f. subst (λ (o : Outcome). Shaped o.entries k) (entry_matched t k e f refl) s)
    (λ f.
    subst (λ (o : Outcome). Shaped o.entries k) (entry_added t k e f refl refl)
    (written_shaped t k (place_for t k) e s (place_inside t k s.some) n))

-- after set-up no place is used, so no token has an entry
module _ (t : List ℕ) (k : ℕ) (s : Shaped t k) where
  zeros_inside : 0 + length (zeros k) ≤ length t
  zeros_inside = omega (arith, length-replicate {A = ℕ} k 0, s.long)

  pub emptied_shaped : Shaped (splice t 0 (zeros k)) k
  emptied_shaped = record { some = s.some; few = s.few; long = length_splice t 0 (zeros k) zeros_inside ∙ s.long }

  pub emptied_marks : (i : ℕ) → i < k → get_or (splice t 0 (zeros k)) i 0 ≡ 0
  emptied_marks i h =
      ap (λ (j : ℕ). get_or (splice t 0 (zeros k)) j 0) (sym (zero-add i))
      ∙ get_or_splice_in t 0 (zeros k) i zeros_inside (omega (arith, length-replicate {A = ℕ} k 0))
      ∙ get_or-replicate k i 0 0 h

  pub emptied_no_match : (e : ConnectTokenEntry) → NoMatch (splice t 0 (zeros k)) k e
  emptied_no_match e m h = empty_never_matches (splice t 0 (zeros k)) k e.mac m (emptied_marks m h)

-- ---- a token used again

same_self : (a : Address) → same a a ≡ true
unfolding same
same_self a = simp (eq-eqb a.kind a.kind refl, eq-eqb a.port a.port refl, eq-eqb a.low a.low refl, eq-eqb a.high a.high refl)

-- e's token was new, and f has the same
module _ (t : List ℕ) (k : ℕ) (e f : ConnectTokenEntry) (s : Shaped t k) (n : length e.mac ≡ 16) (fits : AddressFits e.address)
    (none : NoMatch t k e) (token : f.mac ≡ e.mac) where
  place : ℕ
  place = place_for t k

  inside : place < k
  unfolding place
  inside = place_inside t k s.some

  after : List ℕ
  after = written t k place e

  decided : add_entry after k f ≡ done (same e.address f.address) after
  unfolding after
  decided =
      last_match_decides after k f place inside
      (ap (λ (mac : List ℕ). match_at after k mac place) token ∙ written_matches t k place e s inside n)
      (λ m a b.
      ap (λ (mac : List ℕ). match_at after k mac m) token
      ∙ written_match_elsewhere t k place e s inside n e.mac m b (λ z. omega arith)
      ∙ none m b)
      ∙ ap (λ (x : Address). done (same x f.address) after) (written_address t k place e s inside n fits)

  -- the address of the first use decides, and nothing is written
  pub used_again : add_entry (add_entry t k e).entries k f ≡ done (same e.address f.address) (add_entry t k e).entries
  unfolding after place
  used_again =
      subst (λ (o : Outcome). add_entry o.entries k f ≡ done (same e.address f.address) o.entries)
      (sym (written_at t k e none place refl)) decided

  pub same_address_again : f.address ≡ e.address → add_entry (add_entry t k e).entries k f ≡ done true (add_entry t k e).entries
  same_address_again p =
      used_again
      ∙ ap (λ (b : Bool). done b (add_entry t k e).entries) (ap (same e.address) p ∙ same_self e.address)

  pub other_address_again : same e.address f.address ≡ false → add_entry (add_entry t k e).entries k f ≡ done false (add_entry t k e).entries
  other_address_again p = used_again ∙ ap (λ (b : Bool). done b (add_entry t k e).entries) p
