-- The invariant of a window: its highest is that of the accepted, and each place holds the largest accepted sequence of its
-- remainder. It is kept because a sequence that passes the test is larger than all that were accepted at its place.
use mathlib.Core.Path.{◌≡◌, refl, sym, ap, ◌∙◌}
use mathlib.Core.Logic.{◌⊎◌, inl, inr, ⊎_elim, ⊎_map, ∥∥₁_elim, ◌≢◌}
use mathlib.Core.HLevel.{⊥_prop}
use mathlib.Core.Bool.{Bool, true, false, not, ◌&&◌, ◌||◌, true≢false, false≢true}
use mathlib.Core.List.Memᴰ.{cases_cons}
use mathlib.Core.List.Memᴰ.{cast}
use mathlib.Core.List.Memᴰ.{head}
use mathlib.Core.List.Memᴰ.{not-nil}
use mathlib.Core.List.Memᴰ.{tail}
use mathlib.Core.List.{List, [], ◌∷◌, Memᴰ as Member, Nodup, Nodup-nil, Nodup-cons}
use Prim.Native.Nat.{ℕ, ◌+◌, ◌*◌, ◌/◌, ◌%◌, ◌^◌, ◌≤◌, ◌<◌, max}
use native.Mathlib.Omega.{arith, by_contra}
use native.Mathlib.Nat.{div-add-mod, mul-le-mul_left, mul-suc, mod-lt}
use native.Mathlib.Decide.{dec_le, ℕ_discrete}
use lib.ListN.{length, get_or, set, length-set, length-replicate, get_or-replicate}
use lib.Seq.{get_or-set_same, get_or-set_other, ext_get_or}
use borrow.Author.Tests.{leb-true, leb-false, eqb-true, eqb-false}
use Rattle.replay_protection.specs.Replay.{Window, EMPTY, fresh, placed, behind, repeated, spent, refuses, advance}
use Rattle.replay_protection.specs.Arrivals.{highest, New, Past}

-- ---- remainders

-- two numbers with one remainder and different quotients are w or more apart
apart : (w a b : ℕ) → a / w < b / w → a % w ≡ b % w → a + w ≤ b
apart w a b h e = omega (arith, div-add-mod a w, div-add-mod b w, mul-le-mul_left w h, mul-suc w (a / w))

-- so two with one remainder that are less than w apart are one
near : (w a b : ℕ) → a ≤ b → b < a + w → a % w ≡ b % w → a ≡ b
near w a b h k e =
    let p : a / w ≤ b / w = by_contra (a / w) (b / w) (λ l. let t : b + w ≤ a = apart w b a l (sym e) in omega arith) in
    let q : b / w ≤ a / w = by_contra (b / w) (a / w) (λ l. let t : a + w ≤ b = apart w a b l e in omega arith) in
    let i : a / w ≡ b / w = omega arith in
    omega (arith, div-add-mod a w, div-add-mod b w, ap (λ (n : ℕ). w * n) i)

-- ---- the window's test, told in numbers

any_true : (a b c : Bool) → a || (not b && c) ≡ true → (a ≡ true) ⊎ ((b ≡ false) × (c ≡ true))
any_true true b c e = inl refl
any_true false true c e = absurd (false≢true e)
any_true false false c e = inr (refl, e)

any_false : (a b c : Bool) → a || (not b && c) ≡ false → (a ≡ false) × ((b ≡ true) ⊎ (c ≡ false))
any_false true b c e = absurd (true≢false e)
any_false false true c e = (refl, inl refl)
any_false false false c e = (refl, inr e)

-- what the test refuses is w or more behind, or its place holds it or a later one
test_true : (w : ℕ) (win : Window) (s : ℕ) → refuses w win s ≡ true → (s + w ≤ win.most) ⊎ ((placed w win s ≢ EMPTY) × (s ≤ placed w win s))
unfolding spent behind repeated
test_true w win s e =
    ⊎_map (leb-true (s + w) win.most) (λ p. (eqb-false (placed w win s) EMPTY p.0, leb-true s (placed w win s) p.1)) (any_true _ _ _ e)

-- what it lets pass is neither
test_false : (w : ℕ) (win : Window) (s : ℕ) → refuses w win s ≡ false → (win.most < s + w) × ((placed w win s ≡ EMPTY) ⊎ (placed w win s < s))
unfolding spent behind repeated
test_false w win s e =
    let q = any_false _ _ _ e in
    (leb-false (s + w) win.most q.0, ⊎_map (eqb-true (placed w win s) EMPTY) (leb-false s (placed w win s)) q.1)

-- ---- the invariant

-- the place of remainder r holds v: the mark where nothing of that remainder was accepted, else the largest that was
pub data Holds (w : ℕ) (acc : List ℕ) (r v : ℕ) : Type 0 where
  none : v ≡ EMPTY → ((t : ℕ) → Member t acc → t % w ≡ r → ⊥) → Holds w acc r v
  largest : Member v acc → v % w ≡ r → ((t : ℕ) → Member t acc → t % w ≡ r → t ≤ v) → Holds w acc r v

-- what a window of width w is once it accepted acc
pub record Sound (w : ℕ) (acc : List ℕ) (win : Window) : Type 0 where
  pub most : win.most ≡ highest acc
  pub size : length win.ring ≡ w
  pub place : (r : ℕ) → r < w → Holds w acc r (get_or win.ring r 0)
  pub below : (t : ℕ) → Member t acc → t + w < 2 ^ 64
  pub once : Nodup acc

-- each of some sequences is at most their highest
le_highest : (acc : List ℕ) (t : ℕ) → Member t acc → t ≤ highest acc
unfolding highest
le_highest [] t m = elim m [ ]
le_highest (x ∷ acc) t (head e) = omega arith
le_highest (x ∷ acc) t (tail m) = omega (arith, le_highest acc t m)

-- it holds of a fresh window, which accepted nothing
pub sound_fresh : (w : ℕ) → Sound w [] (fresh w)
unfolding fresh highest
sound_fresh w = record {
  most = refl;
  size = length-replicate w EMPTY;
  place = λ r k. none (get_or-replicate w r EMPTY 0 k) (λ t m i. not-nil m);
  below = λ t m. absurd (not-nil m);
  once = Nodup-nil;
}

module _ {w : ℕ} (pos : 0 < w) {acc : List ℕ} {win : Window} (sound : Sound w acc win) (s : ℕ) where
  here : Holds w acc (s % w) (placed w win s)
  here = sound.place (s % w) (mod-lt s pos)

  -- what the test refuses is past
  pub refused : refuses w win s ≡ true → Past w acc s
  refused e = ⊎_elim (λ (a : s + w ≤ win.most). inr (omega (arith, sound.most))) (λ p. held p.0 p.1 here) (test_true w win s e)
    where
      near_or_old : {v : ℕ} → Member v acc → v % w ≡ s % w → s ≤ v → Dec (s + w ≤ highest acc) → Past w acc s
      near_or_old m q k (yes h) = inr h
      near_or_old {v} m q k (no h) = inl (cast (near w s v k (omega (arith, le_highest acc v m)) (sym q)) m)

      held : {v : ℕ} → v ≢ EMPTY → s ≤ v → Holds w acc (s % w) v → Past w acc s
      held n k (none q f) = absurd (n q)
      held n k (largest m q f) = near_or_old m q k (dec_le (s + w) (highest acc))

  -- what it lets pass is larger than all accepted sequences of its place
  passed_place : refuses w win s ≡ false → (t : ℕ) → Member t acc → t % w ≡ s % w → t < s
  passed_place e t m q = above here (test_false w win s e).1
    where
      above : {v : ℕ} → Holds w acc (s % w) v → (v ≡ EMPTY) ⊎ (v < s) → t < s
      above (none i f) o = absurd (f t m q)
      above {v} (largest n i f) (inl a) = omega (arith, sound.below v n)
      above (largest n i f) (inr a) = omega (arith, f t m q)

  -- and so it is new
  pub passed : refuses w win s ≡ false → New w acc s
  passed e = (λ m. let l : s < s = passed_place e s m refl in omega arith, omega (arith, (test_false w win s e).0, sound.most))

  -- the invariant is kept by an acceptance
  pub sound_advance : s + w < 2 ^ 64 → refuses w win s ≡ false → Sound w (s ∷ acc) (advance w win s)
  unfolding advance highest
  sound_advance h e = record {
    most = ap (λ (n : ℕ). max n s) sound.most;
    size = length-set win.ring (s % w) s ∙ sound.size;
    place = λ r k. at r k (ℕ_discrete r (s % w));
    below = λ t m. ⊎_elim (λ q. omega arith) (λ n. sound.below t n) (cases_cons m);
    once = Nodup-cons.1 (λ m. ∥∥₁_elim m ⊥_prop (passed e).0, sound.once);
  }
    where
      largest_here : (t : ℕ) → Member t (s ∷ acc) → t % w ≡ s % w → t ≤ s
      largest_here t m q = ⊎_elim (λ i. omega arith) (λ n. let l : t < s = passed_place e t n q in omega arith) (cases_cons m)

      other : (r v : ℕ) → r ≢ s % w → Holds w acc r v → Holds w (s ∷ acc) r v
      other r v n (none q f) = none q (λ t m i. ⊎_elim (λ j. n (sym i ∙ ap (λ (x : ℕ). x % w) j)) (λ k. f t k i) (cases_cons m))
      other r v n (largest m q f) = largest (tail m) q (λ t o i. ⊎_elim (λ j. absurd (n (sym i ∙ ap (λ (x : ℕ). x % w) j))) (λ k. f t k i) (cases_cons o))

      at : (r : ℕ) → r < w → Dec (r ≡ s % w) → Holds w (s ∷ acc) r (get_or (set win.ring (s % w) s) r 0)
      at r k (yes q) =
          let l : s % w < length win.ring = omega (arith, sound.size) in
          rw (q, get_or-set_same) (largest (head refl) refl largest_here)
      at r k (no q) = rw (get_or-set_other _ _ _ _ _ q) (other r _ q (sound.place r k))

-- ---- one window for what was accepted, in whatever order

-- whatever bounds each of some sequences bounds their highest
highest_le : (acc : List ℕ) (n : ℕ) → ((t : ℕ) → Member t acc → t ≤ n) → highest acc ≤ n
unfolding highest
highest_le [] n f = omega arith
highest_le (x ∷ acc) n f = omega (arith, f x (head refl), highest_le acc n (λ t m. f t (tail m)))

module _ {acc acc' : List ℕ} (to : (t : ℕ) → Member t acc → Member t acc') (from : (t : ℕ) → Member t acc' → Member t acc) where
  same_highest : highest acc ≡ highest acc'
  same_highest = omega (arith, highest_le acc (highest acc') (λ t m. le_highest acc' t (to t m)), highest_le acc' (highest acc) (λ t m. le_highest acc t (from t m)))

  same_place : {w r v v' : ℕ} → Holds w acc r v → Holds w acc' r v' → v ≡ v'
  same_place (none e f) (none e' f') = e ∙ sym e'
  same_place {v'} (none e f) (largest m q g) = absurd (f v' (from v' m) q)
  same_place {v} (largest m q g) (none e f) = absurd (f v (to v m) q)
  same_place {v} {v'} (largest m q g) (largest m' q' g') = omega (arith, g v' (from v' m') q', g' v (to v m) q)

  -- two windows that accepted the same sequences are one
  pub sound_one : {w : ℕ} {win win' : Window} → Sound w acc win → Sound w acc' win' → win ≡ win'
  sound_one {w} {win} {win'} p q =
      let m : win.most ≡ win'.most = p.most ∙ same_highest ∙ sym q.most in
      let r : win.ring ≡ win'.ring = ext_get_or 0 win.ring win'.ring (p.size ∙ sym q.size) (λ i h. let k : i < w = omega (arith, p.size) in same_place (p.place i k) (q.place i k)) in
      λ i. record { most = m i; ring = r i }
