-- A chain of tests that all held comes to its last one, since `&&` goes by its left side.
use mathlib.Core.Path.{◌≡◌}
use mathlib.Core.Bool.{Bool, true, ◌&&◌}

pub last_of_three : {a b c : Bool} → a ≡ true → b ≡ true → c ≡ (a && (b && c))
last_of_three p q = simp (p, q)

pub last_of_four : {a b c d : Bool} → a ≡ true → b ≡ true → c ≡ true → d ≡ (a && (b && (c && d)))
last_of_four p q r = simp (p, q, r)
