-- One run at 256 that meets every premise of the theorems, so that they speak of something: 300 comes twice, then 45, 255 behind,
-- then 301, then 45 again, now 256 behind. What each premise asks is computed.
use mathlib.Core.Path.{◌≡◌, refl, sym, subst}
use mathlib.Core.Logic.{⊎_elim}
use mathlib.Core.List.Memᴰ.{cases_cons}
use mathlib.Core.List.Memᴰ.{head}
use mathlib.Core.List.Memᴰ.{not-nil}
use mathlib.Core.List.Memᴰ.{tail}
use mathlib.Core.List.Perm
use mathlib.Core.List.{List, [], ◌∷◌, Memᴰ as Member, Nodup, Perm}
use Prim.Native.Nat.{ℕ}
use native.Mathlib.Omega.{arith}
use Rattle.serialize.specs.Choice.{pick}
use Rattle.replay_protection.specs.Replay.{fresh, behind, repeated, spent, refusal_by, advance, arrive}
use Rattle.replay_protection.specs.Arrivals.{run, accepted, highest, InTime}
use Rattle.replay_protection.proofs.Histories.{accepted_once, complete_once, any_order}

abbrev sent : List ℕ
sent = 301 ∷ 45 ∷ 300 ∷ []

abbrev arrivals : List ℕ
arrivals = 45 ∷ 301 ∷ 45 ∷ 300 ∷ 300 ∷ []

-- what holds of each number of a list of three holds of its members
of_three : {a b c : ℕ} (P : ℕ → Type 0) → P a → P b → P c → (t : ℕ) → Member t (a ∷ b ∷ c ∷ []) → P t
of_three P x y z t m =
    ⊎_elim (λ e. subst P (sym e) x) (λ n.
    ⊎_elim (λ e. subst P (sym e) y) (λ o.
    ⊎_elim (λ e. subst P (sym e) z) (λ k. absurd (not-nil k)) (cases_cons o)) (cases_cons n)) (cases_cons m)

-- a number of the arrivals is a number of what was sent
only : (t : ℕ) → Member t arrivals → Member t sent
only t m =
    ⊎_elim (λ e. tail (head e)) (λ n.
    ⊎_elim (λ e. head e) (λ o.
    ⊎_elim (λ e. tail (head e)) (λ p.
    ⊎_elim (λ e. tail (tail (head e))) (λ q.
    ⊎_elim (λ e. tail (tail (head e))) (λ k. absurd (not-nil k)) (cases_cons q)) (cases_cons p)) (cases_cons o)) (cases_cons n)) (cases_cons m)

-- each arrives in time
each : (t : ℕ) → Member t sent → InTime 256 arrivals t
unfolding run accepted highest arrive advance refusal_by spent behind repeated fresh pick
each = of_three (InTime 256 arrivals)
    (record { later = 45 ∷ []; before = 45 ∷ 300 ∷ 300 ∷ []; split = refl; near = omega arith; below = omega arith })
    (record { later = 45 ∷ 301 ∷ []; before = 300 ∷ 300 ∷ []; split = refl; near = omega arith; below = omega arith })
    (record { later = 45 ∷ 301 ∷ 45 ∷ 300 ∷ []; before = []; split = refl; near = omega arith; below = omega arith })

-- nothing was sent twice: sent in that order, all of it would be accepted
once : Nodup sent
unfolding run accepted arrive advance refusal_by spent behind repeated fresh pick
once = accepted_once 256 (omega arith) sent

-- so the accepted are the sent, once each
pub worked : Perm (accepted 256 arrivals) sent
worked = complete_once 256 (omega arith) arrivals sent only each once

-- and 300 and 45 leave one window in either order
pub worked_order : run 256 (45 ∷ 300 ∷ []) ≡ run 256 (300 ∷ 45 ∷ [])
unfolding run accepted arrive advance refusal_by spent behind repeated fresh pick
worked_order = any_order 256 (omega arith) (45 ∷ 300 ∷ []) (300 ∷ 45 ∷ []) (Perm.swap 300 45 []) refl refl
