-- The first with the lowest time: by recursion on the places passed, of which the next one takes over only where it is strictly lower.
use mathlib.Core.Path.{◌≡◌, sym, ap, subst, ◌∙◌}
use mathlib.Core.Bool.{Bool, true, false}
use mathlib.Core.List.{List}
use Prim.Native.Nat.{ℕ, zero, suc, ◌+◌, ◌<◌, ◌≤◌}
use native.Mathlib.Numerals.{add-one}
use native.Mathlib.Omega.{arith}
use borrow.Author.Tests.{ltb-true, ltb-false}
use lib.Dec.{ltb}
use Rattle.serialize.specs.Choice.{pick}
use Rattle.serialize.proofs.Choice.{by_test}
use Rattle.times.specs.Times.{whole, before}
use Rattle.entries.specs.Layout.{time_at}
use Rattle.entries.specs.Finds.{older, oldest_below}
use Rattle.entries.proofs.Last.{and_last}

-- ---- two places, and a loop's turn

module _ (t : List ℕ) (k best i : ℕ) where
  pub older_later : before (time_at t k i) (time_at t k best) ≡ true → older t k best i ≡ i
  unfolding older pick
  older_later e = ap (λ (b : Bool). pick b i best) e

  pub older_first : before (time_at t k i) (time_at t k best) ≡ false → older t k best i ≡ best
  unfolding older pick
  older_first e = ap (λ (b : Bool). pick b i best) e

  pub oldest_next : {r : ℕ} → best ≡ oldest_below t k i → r ≡ older t k best i → r ≡ oldest_below t k (i + 1)
  unfolding oldest_below
  oldest_next e f = f ∙ ap (λ (b : ℕ). older t k b i) e ∙ ap (oldest_below t k) (sym (add-one i))

-- ---- what the search finds

-- the whole nanoseconds of place i's time
abbrev pub nanos_at : List ℕ → ℕ → ℕ → ℕ
nanos_at t k i = whole (time_at t k i)

-- place j is the first, of m, at which w is lowest
pub record FirstLowest (w : ℕ → ℕ) (m j : ℕ) : Type 0 where
  pub below : j < m
  pub lowest : (i : ℕ) → i < m → w j ≤ w i
  pub first : (i : ℕ) → i < j → w j < w i

-- there is but one such place
pub one_first : (w : ℕ → ℕ) (m j l : ℕ) → FirstLowest w m j → FirstLowest w m l → j ≡ l
one_first w m j l p q =
    by_test (ltb j l)
    (λ e. absurd (omega (arith, q.first j (ltb-true j l e), p.lowest l q.below)))
    (λ e.
    by_test (ltb l j)
    (λ f. absurd (omega (arith, p.first l (ltb-true l j f), q.lowest j p.below)))
    (λ f. omega (arith, ltb-false j l e, ltb-false l j f)))

module _ (t : List ℕ) (k : ℕ) where
  -- one more place
  turn : (m best : ℕ) → best ≤ m → ((i : ℕ) → i < m → nanos_at t k best ≤ nanos_at t k i) → ((i : ℕ) → i < best → nanos_at t k best < nanos_at t k i)
      → FirstLowest (nanos_at t k) (suc m) (older t k best m)
  turn m best h lowest first =
      let w : ℕ → ℕ = nanos_at t k in
      by_test (before (time_at t k m) (time_at t k best))
      (λ e.
      let s : w m < w best = ltb-true (w m) (w best) e in
      subst (FirstLowest w (suc m)) (sym (older_later t k best m e))
      (record {
        below = omega arith;
        lowest = λ i l. and_last (λ (x : ℕ). w m ≤ w x) m (omega arith) i (λ b. omega (arith, lowest i b)) l;
        first = λ i l. omega (arith, lowest i l);
      }))
      (λ e.
      let s : w best ≤ w m = ltb-false (w m) (w best) e in
      subst (FirstLowest w (suc m)) (sym (older_first t k best m e))
      (record { below = omega arith; lowest = λ i l. and_last (λ (x : ℕ). w best ≤ w x) m s i (lowest i) l; first = first }))

  pub oldest_lowest : (m : ℕ) → 0 < m → FirstLowest (nanos_at t k) m (oldest_below t k m)
  unfolding oldest_below
  oldest_lowest zero h = absurd (omega arith)
  oldest_lowest (suc zero) h = turn 0 0 (omega arith) (λ i l. absurd (omega arith)) (λ i l. absurd (omega arith))
  oldest_lowest (suc (suc m)) h =
      let p = oldest_lowest (suc m) (omega arith) in
      turn (suc m) (oldest_below t k (suc m)) (omega (arith, p.below)) p.lowest p.first
