-- The laws of `part` and `splice`, over any list, place and length: each follows from a splice being a run of stores, one
-- after the other, and two lists being equal where their elements are.
use mathlib.Core.Path.{◌≡◌, refl, sym, ap, ◌∙◌}
use mathlib.Core.Bool.{Bool, true, false, ◌&&◌}
use Prim.Native.Nat.{ℕ, zero, suc, ◌+◌, ◌-◌, ◌^◌, ◌≤◌, ◌<◌}
use native.Mathlib.Nat.{add-zero, zero-add, add-suc, suc-add, not-suc-le-zero}
use native.Mathlib.Numerals.{add-one}
use native.Mathlib.Omega.{arith}
use mir.Syntax.{Width}
use mir.Val.{Fits, bits}
use mathlib.Core.List.{List, [], ◌∷◌, ◌++◌, append_assoc, append-nil}
use borrow.Rule.Slice.PartMut.{put_mid}
use borrow.Author.Tests.{eq-eqb, eqb-true}
use lib.ListN.{length, take, drop, get_or, set, length-append, length-take, length-drop, length-set, take-append-drop}
use lib.Seq.{take-append-le, drop-append-le, drop-append-add, take-add, take_all, take-take, take-nil, drop-drop, drop-length, get_or-take, get_or-drop, get_or-set_same, get_or-set_other, set_comm, set-set, set-append_left, length-take-le, paste-zero, ext_get_or, sets, sets-eq, length-sets}
use lib.Dec.{eqb}
use lib.Pointwise.{pointwise}
use Rattle.serialize.specs.Runs.{part, splice, zeros, both, alike, Below}

-- ---- parts

module _ {A : Type 0} where
  pub length_part : (l : List A) (at n : ℕ) → at + n ≤ length l → length (part l at n) ≡ n
  length_part l at n h = simp (length-take, length-drop) (omega arith)

pub get_or_part : (l : List ℕ) (at n i : ℕ) → i < n → get_or (part l at n) i 0 ≡ get_or l (at + i) 0
get_or_part l at n i h = get_or-take n (drop at l) i 0 h ∙ get_or-drop at l i 0

module _ {A : Type 0} where
  pub part_whole : (l : List A) (n : ℕ) → length l ≡ n → part l 0 n ≡ l
  part_whole l n h = take_all n l (omega arith)

  -- two parts side by side
  pub part_add : (l : List A) (at m n : ℕ) → part l at (m + n) ≡ part l at m ++ part l (at + m) n
  part_add l at m n = take-add m n (drop at l) ∙ ap (λ (t : List A). part l at m ++ take n t) (drop-drop m at l)

  drop_take : (b k : ℕ) (t : List A) → drop b (take (b + k) t) ≡ take k (drop b t)
  drop_take zero k t = ap (λ (j : ℕ). take j t) (zero-add k)
  drop_take (suc b) k [] = ap (drop (suc b)) (take-nil (suc b + k)) ∙ sym (take-nil k)
  drop_take (suc b) k (x ∷ t) = ap (λ (j : ℕ). drop (suc b) (take j (x ∷ t))) (suc-add b k) ∙ drop_take b k t

  -- a part of a part
  pub part_part : (l : List A) (at m b n : ℕ) → b + n ≤ m → part (part l at m) b n ≡ part l (at + b) n
  part_part l at m b n h =
      let e : b + (m - b) ≡ m = omega arith in
      ap (λ (k : ℕ). take n (drop b (take k (drop at l)))) (sym e)
      ∙ ap (take n) (drop_take b (m - b) (drop at l))
      ∙ take-take n (m - b) (drop b (drop at l)) (omega arith)
      ∙ ap (take n) (drop-drop b at l)

  -- a part that lies in the first, or in the second, of two lists
  pub part_left : (xs ys : List A) (b n : ℕ) → b + n ≤ length xs → part (xs ++ ys) b n ≡ part xs b n
  part_left xs ys b n h =
      ap (take n) (drop-append-le b xs ys (omega arith)) ∙ take-append-le n (drop b xs) ys (simp length-drop (omega arith))

  pub part_right : (xs ys : List A) (b n : ℕ) → part (xs ++ ys) (length xs + b) n ≡ part ys b n
  part_right xs ys b n = ap (take n) (drop-append-add xs ys b)

-- two parts are equal where their elements are
pub part_ext : (l m : List ℕ) (a b n : ℕ) → a + n ≤ length l → b + n ≤ length m → ((i : ℕ) → i < n → get_or l (a + i) 0 ≡ get_or m (b + i) 0) → part l a n ≡ part m b n
part_ext l m a b n f g h =
    let p : length (part l a n) ≡ n = length_part l a n f in
    let q : length (part m b n) ≡ n = length_part m b n g in
    ext_get_or 0 (part l a n) (part m b n) (p ∙ sym q) (λ i k.
    let s : i < n = omega arith in
    get_or_part l a n i s ∙ h i s ∙ sym (get_or_part m b n i s))

-- ---- bounds of the elements

-- what the checker knows of a slice's elements, `c.type_inv.NAME` in an answer
pub known_below : {w : Width} (l : List ℕ) → ((i : ℕ) → Fits w (get_or l i 0)) → Below (2 ^ bits w) l
known_below l h i = (h i).fits

-- they pass to parts

pub below_take : {b : ℕ} (n : ℕ) (l : List ℕ) → Below b l → Below b (take n l)
below_take zero l h i = omega (arith, h 0)
below_take (suc n) [] h i = h i
below_take (suc n) (x ∷ l) h zero = h 0
below_take (suc n) (x ∷ l) h (suc i) = below_take n l (λ j. h (suc j)) i

pub below_drop : {b : ℕ} (n : ℕ) (l : List ℕ) → Below b l → Below b (drop n l)
below_drop n l h i = rw get_or-drop (h (n + i))

pub below_part : {b : ℕ} (l : List ℕ) (at n : ℕ) → Below b l → Below b (part l at n)
below_part l at n h = below_take n (drop at l) (below_drop at l h)

-- ---- a splice is a run of stores

module _ {A : Type 0} where
  pub splice_sets : (l : List A) (at : ℕ) (vs : List A) → at + length vs ≤ length l → splice l at vs ≡ sets l at vs
  unfolding splice
  splice_sets l at vs h = sym (sets-eq vs l at h)

  pub length_splice : (l : List A) (at : ℕ) (vs : List A) → at + length vs ≤ length l → length (splice l at vs) ≡ length l
  length_splice l at vs h = ap length (splice_sets l at vs h) ∙ length-sets l at vs

get_or_sets_other : (vs l : List ℕ) (at j : ℕ) → ((q : ℕ) → q < length vs → at + q ≡ j → ⊥) → get_or (sets l at vs) j 0 ≡ get_or l j 0
get_or_sets_other [] l at j h = refl
get_or_sets_other (v ∷ vs) l at j h =
    get_or_sets_other vs (set l at v) (suc at) j (λ q k e. let e' : at + suc q ≡ j = omega arith in h (suc q) (omega arith) e')
    ∙ get_or-set_other l at j v 0 (λ e. let e' : at + 0 ≡ j = omega arith in h 0 (omega arith) e')

get_or_sets_in : (vs l : List ℕ) (at q : ℕ) → at + length vs ≤ length l → q < length vs → get_or (sets l at vs) (at + q) 0 ≡ get_or vs q 0
get_or_sets_in [] l at q h k = absurd (not-suc-le-zero k)
get_or_sets_in (v ∷ vs) l at zero h k =
    ap (λ (i : ℕ). get_or (sets (set l at v) (suc at) vs) i 0) (add-zero at)
    ∙ get_or_sets_other vs (set l at v) (suc at) at (λ q s e. omega arith)
    ∙ get_or-set_same l at v 0 (omega arith)
get_or_sets_in (v ∷ vs) l at (suc q) h k =
    let e : at + suc q ≡ suc at + q = omega arith in
    let n : length (set l at v) ≡ length l = length-set l at v in
    ap (λ (i : ℕ). get_or (sets (set l at v) (suc at) vs) i 0) e ∙ get_or_sets_in vs (set l at v) (suc at) q (omega arith) (omega arith)

-- an element of what was spliced in, and one elsewhere
pub get_or_splice_in : (l : List ℕ) (at : ℕ) (vs : List ℕ) (q : ℕ) → at + length vs ≤ length l → q < length vs → get_or (splice l at vs) (at + q) 0 ≡ get_or vs q 0
get_or_splice_in l at vs q h k = ap (λ (t : List ℕ). get_or t (at + q) 0) (splice_sets l at vs h) ∙ get_or_sets_in vs l at q h k

pub get_or_splice_other : (l : List ℕ) (at : ℕ) (vs : List ℕ) (j : ℕ) → at + length vs ≤ length l → ((q : ℕ) → q < length vs → at + q ≡ j → ⊥)
    → get_or (splice l at vs) j 0 ≡ get_or l j 0
get_or_splice_other l at vs j h k = ap (λ (t : List ℕ). get_or t j 0) (splice_sets l at vs h) ∙ get_or_sets_other vs l at j k

-- ---- a part of a splice

-- a part of what was spliced in
pub part_splice_in : (l : List ℕ) (at : ℕ) (vs : List ℕ) (b n : ℕ) → at + length vs ≤ length l → b + n ≤ length vs → part (splice l at vs) (at + b) n ≡ part vs b n
part_splice_in l at vs b n h k =
    let e : length (splice l at vs) ≡ length l = length_splice l at vs h in
    part_ext (splice l at vs) vs (at + b) b n (omega arith) k (λ i s.
    let q : at + b + i ≡ at + (b + i) = omega arith in
    ap (λ (j : ℕ). get_or (splice l at vs) j 0) q ∙ get_or_splice_in l at vs (b + i) h (omega arith))

-- all of it
pub part_splice_same : (l : List ℕ) (at : ℕ) (vs : List ℕ) → at + length vs ≤ length l → part (splice l at vs) at (length vs) ≡ vs
part_splice_same l at vs h =
    ap (λ (i : ℕ). part (splice l at vs) i (length vs)) (sym (add-zero at))
    ∙ part_splice_in l at vs 0 (length vs) h (omega arith)
    ∙ part_whole vs (length vs) refl

-- a run stored elsewhere changes nothing here
pub part_splice_other : (l : List ℕ) (at : ℕ) (vs : List ℕ) (b n : ℕ) → at + length vs ≤ length l → b + n ≤ length l
    → ((o q : ℕ) → o < n → q < length vs → at + q ≡ b + o → ⊥) → part (splice l at vs) b n ≡ part l b n
part_splice_other l at vs b n h k d =
    let e : length (splice l at vs) ≡ length l = length_splice l at vs h in
    part_ext (splice l at vs) l b b n (omega arith) k (λ i s. get_or_splice_other l at vs (b + i) h (λ q t. d i q s t))

-- a part that ends at or before the place of the splice
pub part_splice_before : (l : List ℕ) (at : ℕ) (vs : List ℕ) (b n : ℕ) → at + length vs ≤ length l → b + n ≤ at → part (splice l at vs) b n ≡ part l b n
part_splice_before l at vs b n h k = part_splice_other l at vs b n h (omega arith) (λ o q s t e. omega arith)

-- a part that starts where the splice ends, or after it
pub part_splice_after : (l : List ℕ) (at : ℕ) (vs : List ℕ) (b n : ℕ) → b + n ≤ length l → at + length vs ≤ b → part (splice l at vs) b n ≡ part l b n
part_splice_after l at vs b n h k = part_splice_other l at vs b n (omega arith) h (λ o q s t e. omega arith)

-- one element stored elsewhere changes nothing here
pub part_set_other : (l : List ℕ) (j v b n : ℕ) → b + n ≤ length l → ((o : ℕ) → o < n → j ≡ b + o → ⊥) → part (set l j v) b n ≡ part l b n
part_set_other l j v b n h d =
    let e : length (set l j v) ≡ length l = length-set l j v in
    part_ext (set l j v) l b b n (omega arith) h (λ i s. get_or-set_other l j (b + i) v 0 (λ q. d i s (sym q)))

-- ---- splices that say the same

module _ {A : Type 0} where
  -- one store is a splice
  pub set_splice : (l : List A) (at : ℕ) (v : A) → at < length l → set l at v ≡ splice l at (v ∷ [])
  set_splice l at v h = sym (splice_sets l at (v ∷ []) (omega arith))

  pub splice_none : (l : List A) (at : ℕ) → splice l at [] ≡ l
  unfolding splice
  splice_none l at = sym (paste-zero l at [])

  pub splice_whole : (l vs : List A) → length vs ≡ length l → splice l 0 vs ≡ vs
  unfolding splice
  splice_whole l vs h =
      let z : 0 + length vs ≡ length l = omega arith in
      ap (λ (i : ℕ). vs ++ drop i l) z ∙ ap (λ (t : List A). vs ++ t) (drop-length l) ∙ append-nil vs

drop_zeros : (k n : ℕ) → drop k (zeros n) ≡ zeros (n - k)
drop_zeros zero n = let e : n ≡ n - 0 = omega arith in ap zeros e
drop_zeros (suc k) zero = let e : 0 ≡ 0 - suc k = omega arith in ap zeros e
drop_zeros (suc k) (suc n) = let e : n - k ≡ suc n - suc k = omega arith in drop_zeros k n ∙ ap zeros e

-- at the front of zeros: padded
pub splice_zeros : (n : ℕ) (vs : List ℕ) → length vs ≤ n → splice (zeros n) 0 vs ≡ vs ++ zeros (n - length vs)
unfolding splice
splice_zeros n vs h =
    ap (λ (i : ℕ). vs ++ drop i (zeros n)) (zero-add (length vs)) ∙ ap (λ (t : List ℕ). vs ++ t) (drop_zeros (length vs) n)

module _ {A : Type 0} where
  -- what stands there, spliced in
  pub splice_part : (l : List A) (at n : ℕ) → at + n ≤ length l → splice l at (part l at n) ≡ l
  unfolding splice
  splice_part l at n h =
      ap (λ (m : ℕ). take at l ++ part l at n ++ drop (at + m) l) (length_part l at n h)
      ∙ ap (λ (t : List A). t ++ drop (at + n) l) (sym (take-add at n l))
      ∙ take-append-drop (at + n) l

  -- ---- splice after splice

  sets_append : (l : List A) (i : ℕ) (vs us : List A) → sets (sets l i vs) (i + length vs) us ≡ sets l i (vs ++ us)
  sets_append l i [] us = ap (λ (k : ℕ). sets l k us) (add-zero i)
  sets_append l i (v ∷ vs) us =
      let e : i + suc (length vs) ≡ suc i + length vs = omega arith in
      ap (λ (k : ℕ). sets (sets (set l i v) (suc i) vs) k us) e ∙ sets_append (set l i v) (suc i) vs us

  sets_set : (vs l : List A) (at i : ℕ) (a : A) → ((q : ℕ) → q < length vs → at + q ≡ i → ⊥) → sets (set l i a) at vs ≡ set (sets l at vs) i a
  sets_set [] l at i a d = refl
  sets_set (v ∷ vs) l at i a d =
      ap (λ (t : List A). sets t (suc at) vs) (set_comm l i at a v (λ e. let e' : at + 0 ≡ i = omega arith in d 0 (omega arith) e'))
      ∙ sets_set vs (set l at v) (suc at) i a (λ q k e. let e' : at + suc q ≡ i = omega arith in d (suc q) (omega arith) e')

  sets_comm : (us vs l : List A) (a b : ℕ) → ((o q : ℕ) → o < length us → q < length vs → b + q ≡ a + o → ⊥) → sets (sets l a us) b vs ≡ sets (sets l b vs) a us
  sets_comm [] vs l a b d = refl
  sets_comm (u ∷ us) vs l a b d =
      sets_comm us vs (set l a u) (suc a) b (λ o q s t e. let e' : b + q ≡ a + suc o = omega arith in d (suc o) q (omega arith) t e')
      ∙ ap (λ (t : List A). sets t (suc a) us) (sets_set vs l b a u (λ q t e. let e' : b + q ≡ a + 0 = omega arith in d 0 q (omega arith) t e'))

  sets_over : (us vs l : List A) (at : ℕ) → length us ≤ length vs → sets (sets l at us) at vs ≡ sets l at vs
  sets_over [] vs l at h = refl
  sets_over (u ∷ us) [] l at h = absurd (not-suc-le-zero h)
  sets_over (u ∷ us) (v ∷ vs) l at h =
      ap (λ (t : List A). sets t (suc at) vs) (sym (sets_set us (set l at u) (suc at) at v (λ q s e. omega arith)) ∙ ap (λ (t : List A). sets t (suc at) us) (set-set l at u v))
      ∙ sets_over us vs (set l at v) (suc at) (omega arith)

  -- two splices as two runs of stores
  two_sets : (l : List A) (a : ℕ) (us : List A) (b : ℕ) (vs : List A) → a + length us ≤ length l → b + length vs ≤ length l
      → splice (splice l a us) b vs ≡ sets (sets l a us) b vs
  two_sets l a us b vs h k =
      splice_sets (splice l a us) b vs (omega (arith, length_splice l a us h)) ∙ ap (λ (t : List A). sets t b vs) (splice_sets l a us h)

  -- right after it: one longer splice
  pub splice_splice : (l : List A) (at : ℕ) (vs us : List A) → at + length vs + length us ≤ length l → splice (splice l at vs) (at + length vs) us ≡ splice l at (vs ++ us)
  splice_splice l at vs us h =
      two_sets l at vs (at + length vs) us (omega arith) h
      ∙ sets_append l at vs us
      ∙ sym (splice_sets l at (vs ++ us) (simp length-append (omega arith)))

  -- the same, as a caller has it: t is l with vs at at, and u is t with us at p, right after vs
  pub splice_then : (l t u : List A) (at : ℕ) (vs : List A) (p : ℕ) (us : List A) → t ≡ splice l at vs → u ≡ splice t p us → at + length vs ≡ p → p + length us ≤ length l
      → u ≡ splice l at (vs ++ us)
  splice_then l t u at vs p us e f q h =
      f ∙ ap (λ (x : List A). splice x p us) e ∙ ap (λ (i : ℕ). splice (splice l at vs) i us) (sym q) ∙ splice_splice l at vs us (omega arith)

  -- a store, and a splice right after it; a splice, and a store right after it
  pub splice_cons : (l : List A) (at : ℕ) (v : A) (vs : List A) → at + 1 + length vs ≤ length l → splice (set l at v) (at + 1) vs ≡ splice l at (v ∷ vs)
  splice_cons l at v vs h =
      splice_sets (set l at v) (at + 1) vs (simp length-set (omega arith))
      ∙ ap (λ (i : ℕ). sets (set l at v) i vs) (add-one at)
      ∙ sym (splice_sets l at (v ∷ vs) (omega arith))

  pub splice_snoc : (l : List A) (at : ℕ) (vs : List A) (v : A) → at + length vs < length l → set (splice l at vs) (at + length vs) v ≡ splice l at (vs ++ (v ∷ []))
  splice_snoc l at vs v h =
      set_splice (splice l at vs) (at + length vs) v (omega (arith, length_splice l at vs (omega arith)))
      ∙ splice_splice l at vs (v ∷ []) (omega arith)

  -- over it: the first is forgotten
  pub splice_over : (l : List A) (at : ℕ) (us vs : List A) → length us ≤ length vs → at + length vs ≤ length l → splice (splice l at us) at vs ≡ splice l at vs
  splice_over l at us vs h k = two_sets l at us at vs (omega arith) k ∙ sets_over us vs l at h ∙ sym (splice_sets l at vs k)

  -- elsewhere: in either order
  pub splice_comm : (l : List A) (a : ℕ) (us : List A) (b : ℕ) (vs : List A) → a + length us ≤ length l → b + length vs ≤ length l
      → ((o q : ℕ) → o < length us → q < length vs → b + q ≡ a + o → ⊥) → splice (splice l a us) b vs ≡ splice (splice l b vs) a us
  splice_comm l a us b vs h k d = two_sets l a us b vs h k ∙ sets_comm us vs l a b d ∙ sym (two_sets l b vs a us k h)

  -- and a store elsewhere
  pub set_splice_comm : (l : List A) (at : ℕ) (vs : List A) (j : ℕ) (v : A) → at + length vs ≤ length l → ((q : ℕ) → q < length vs → at + q ≡ j → ⊥)
      → set (splice l at vs) j v ≡ splice (set l j v) at vs
  set_splice_comm l at vs j v h d =
      ap (λ (t : List A). set t j v) (splice_sets l at vs h)
      ∙ sym (sets_set vs l at j v d)
      ∙ sym (splice_sets (set l j v) at vs (omega (arith, length-set l j v)))

  -- ---- within it

  sets_left : (us xs ys : List A) (k : ℕ) → k + length us ≤ length xs → sets (xs ++ ys) k us ≡ sets xs k us ++ ys
  sets_left [] xs ys k h = refl
  sets_left (u ∷ us) xs ys k h =
      ap (λ (t : List A). sets t (suc k) us) (set-append_left xs ys k u (omega arith))
      ∙ sets_left us (set xs k u) ys (suc k) (omega (arith, length-set xs k u))

  set_right : (xs ys : List A) (k : ℕ) (a : A) → set (xs ++ ys) (length xs + k) a ≡ xs ++ set ys k a
  set_right [] ys k a = ap (λ (i : ℕ). set ys i a) (zero-add k)
  set_right (x ∷ xs) ys k a = ap (λ (i : ℕ). set (x ∷ (xs ++ ys)) i a) (suc-add (length xs) k) ∙ ap (λ (t : List A). x ∷ t) (set_right xs ys k a)

  sets_right : (us xs ys : List A) (k : ℕ) → sets (xs ++ ys) (length xs + k) us ≡ xs ++ sets ys k us
  sets_right [] xs ys k = refl
  sets_right (u ∷ us) xs ys k =
      ap (λ (i : ℕ). sets (set (xs ++ ys) (length xs + k) u) i us) (sym (add-suc (length xs) k))
      ∙ ap (λ (t : List A). sets t (length xs + suc k) us) (set_right xs ys k u)
      ∙ sets_right us xs (set ys k u) (suc k)

  -- a splice in the first, or in the second, of two lists
  pub splice_left : (xs ys : List A) (k : ℕ) (us : List A) → k + length us ≤ length xs → splice (xs ++ ys) k us ≡ splice xs k us ++ ys
  splice_left xs ys k us h =
      splice_sets (xs ++ ys) k us (simp length-append (omega arith)) ∙ sets_left us xs ys k h ∙ ap (λ (t : List A). t ++ ys) (sym (splice_sets xs k us h))

  pub splice_right : (xs ys : List A) (k : ℕ) (us : List A) → k + length us ≤ length ys → splice (xs ++ ys) (length xs + k) us ≡ xs ++ splice ys k us
  splice_right xs ys k us h =
      splice_sets (xs ++ ys) (length xs + k) us (simp length-append (omega arith)) ∙ sets_right us xs ys k ∙ ap (λ (t : List A). xs ++ t) (sym (splice_sets ys k us h))

  -- a splice as three lists
  pub splice_three : (l : List A) (at : ℕ) (vs : List A) → splice l at vs ≡ take at l ++ (vs ++ drop (at + length vs) l)
  unfolding splice
  splice_three l at vs = append_assoc (take at l) vs (drop (at + length vs) l)

  -- a splice within what was spliced in
  pub splice_in_splice : (l : List A) (at : ℕ) (vs : List A) (k : ℕ) (us : List A) → k + length us ≤ length vs → at + length vs ≤ length l
      → splice (splice l at vs) (at + k) us ≡ splice l at (splice vs k us)
  splice_in_splice l at vs k us h f =
      let e : length (take at l) ≡ at = length-take-le at l (omega arith) in
      let d : List A = drop (at + length vs) l in
      ap (λ (t : List A). splice t (at + k) us) (splice_three l at vs)
      ∙ ap (λ (i : ℕ). splice (take at l ++ (vs ++ d)) (i + k) us) (sym e)
      ∙ splice_right (take at l) (vs ++ d) k us (simp length-append (omega arith))
      ∙ ap (λ (t : List A). take at l ++ t) (splice_left vs d k us h)
      ∙ ap (λ (n : ℕ). take at l ++ (splice vs k us ++ drop (at + n) l)) (sym (length_splice vs k us h))
      ∙ sym (splice_three l at (splice vs k us))

  -- one store within it
  pub set_in_splice : (l : List A) (at : ℕ) (vs : List A) (k : ℕ) (a : A) → k < length vs → at + length vs ≤ length l → set (splice l at vs) (at + k) a ≡ splice l at (set vs k a)
  set_in_splice l at vs k a h f =
      set_splice (splice l at vs) (at + k) a (omega (arith, length_splice l at vs f))
      ∙ splice_in_splice l at vs k (a ∷ []) (omega arith) f
      ∙ ap (splice l at) (sym (set_splice vs k a h))

  -- a part that was lent, and came back as vs
  pub lent_part : (l : List A) (at e k : ℕ) (vs ws : List A) → e ≡ at + k → vs ≡ ws → length vs ≡ k → put_mid at (e - at) l vs ≡ splice l at ws
  unfolding splice
  lent_part l at e k vs ws h q n =
      let d : e - at ≡ length vs = omega arith in
      ap (λ (j : ℕ). take at l ++ (vs ++ drop j (drop at l))) d
      ∙ ap (λ (x : List A). take at l ++ (vs ++ x)) (drop-drop (length vs) at l)
      ∙ sym (append_assoc (take at l) vs (drop (at + length vs) l))
      ∙ ap (splice l at) q

-- ---- runs compared

false_true : false ≡ true → ⊥
false_true h = let z : ◌≡◌ {A = ℕ} 0 1 = cc in omega arith

not_true : (b : Bool) → (b ≡ true → ⊥) → b ≡ false
not_true true h = absurd (h refl)
not_true false h = refl

pub both_true : (a b : Bool) → both a b ≡ true → (a ≡ true) × (b ≡ true)
both_true true b h = (refl, h)
both_true false b h = absurd (false_true h)

pub alike_refl : (xs : List ℕ) → alike xs xs ≡ true
unfolding alike
alike_refl [] = refl
alike_refl (x ∷ xs) = rw (eq-eqb x x refl) (alike_refl xs)

-- `==` on slices is this test
same_step : (a : Bool) {b c : Bool} → b ≡ c → (a && b) ≡ both a c
same_step true e = e
same_step false e = refl

pub pointwise_alike : (xs ys : List ℕ) → pointwise eqb xs ys ≡ alike xs ys
unfolding alike
pointwise_alike [] [] = refl
pointwise_alike [] (y ∷ ys) = refl
pointwise_alike (x ∷ xs) [] = refl
pointwise_alike (x ∷ xs) (y ∷ ys) = same_step (eqb x y) (pointwise_alike xs ys)

-- the test says yes to equal lists alone
pub alike_true : (xs ys : List ℕ) → alike xs ys ≡ true → xs ≡ ys
unfolding alike
alike_true [] [] h = refl
alike_true [] (y ∷ ys) h = absurd (false_true h)
alike_true (x ∷ xs) [] h = absurd (false_true h)
alike_true (x ∷ xs) (y ∷ ys) h =
    let (p, q) = both_true (eqb x y) (alike xs ys) h in
    ap (λ (z : ℕ). z ∷ xs) (eqb-true x y p) ∙ ap (λ (t : List ℕ). y ∷ t) (alike_true xs ys q)

-- no to lists of different lengths
pub alike_lengths : (xs ys : List ℕ) → (length xs ≡ length ys → ⊥) → alike xs ys ≡ false
alike_lengths xs ys d = not_true (alike xs ys) (λ h. d (ap length (alike_true xs ys h)))

-- and no to lists that differ at one index
pub alike_differ : (xs ys : List ℕ) (i : ℕ) → (get_or xs i 0 ≡ get_or ys i 0 → ⊥) → alike xs ys ≡ false
alike_differ xs ys i d = not_true (alike xs ys) (λ h. d (ap (λ (t : List ℕ). get_or t i 0) (alike_true xs ys h)))
