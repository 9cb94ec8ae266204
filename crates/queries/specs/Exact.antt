-- What it means that a list names the used places in their order, as the Rust's `clients_slot` does, and that some place is as asked.
use Rattle.std.specs.Prelude.{ℕ, ◌<◌, ◌≡◌, true, List, length, get_or}
use Rattle.places.specs.Layout.{used_at}

-- P holds of one of n places
pub record SomeOf (P : ℕ → Type 0) (n : ℕ) : Type 0 where
  pub place : ℕ
  pub below : place < n
  pub here : P place

-- l has the used ones of the first k places, each once and in their order, and nothing else
pub record ExactlyUsed (t : List ℕ) (k : ℕ) (l : List ℕ) : Type 0 where
  pub rising : (p q : ℕ) → p < q → q < length l → get_or l p 0 < get_or l q 0
  pub used : (p : ℕ) → p < length l → (get_or l p 0 < k) × (used_at t (get_or l p 0) ≡ true)
  pub every : (i : ℕ) → i < k → used_at t i ≡ true → SomeOf (λ p. get_or l p 0 ≡ i) (length l)
