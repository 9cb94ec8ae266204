-- What the searches and the invariants speak of: used places and their keys, a key being the field of an address or of an id.
use Rattle.std.specs.Prelude.{ℕ, ◌<◌, ◌≡◌, true, List}
use Rattle.places.specs.Layout.{used_at}
use Rattle.places.specs.Columns.{Field, field_of}

-- place i is used and its key is ks
abbrev pub Keyed : List ℕ → ℕ → Field → List ℕ → ℕ → Type 0
Keyed t n key ks i = (used_at t i ≡ true) × (field_of t n i key ≡ ks)

-- of n places, j is the lowest of which P holds
pub record LowestOf (P : ℕ → Type 0) (n j : ℕ) : Type 0 where
  pub below : j < n
  pub here : P j
  pub none : (m : ℕ) → m < j → P m → ⊥

-- P holds of none of n places
abbrev pub NoneOf : (ℕ → Type 0) → ℕ → Type 0
NoneOf P n = (m : ℕ) → m < n → P m → ⊥

-- no two used places have one key
abbrev pub Distinct : Field → List ℕ → ℕ → Type 0
Distinct key t n = (i j : ℕ) → i < n → j < n → used_at t i ≡ true → used_at t j ≡ true → field_of t n i key ≡ field_of t n j key → i ≡ j
