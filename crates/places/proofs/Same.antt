-- The searches read marks, ids and addresses alone: tables that have those in common give the same answers, and a store to a body has them
-- in common with what was there before.
use mathlib.Core.Path.{◌≡◌, refl, sym, ap, ap₂, ◌∙◌}
use mathlib.Core.Bool.{Bool, ◌&&◌}
use Prim.Native.Nat.{ℕ, zero, suc, ◌+◌, ◌*◌, ◌≤◌, ◌<◌}
use native.Mathlib.Omega.{arith}
use mathlib.Core.List.{List}
use lib.ListN.{length, get_or, set}
use lib.Dec.{eqb}
use Rattle.serialize.specs.Runs.{splice}
use Rattle.serialize.proofs.Search.{first_ext}
use Rattle.addresses.specs.declared.Address.{Address}
use Rattle.addresses.specs.Addresses.{first_word, has_words}
use Rattle.places.specs.Layout.{Shaped, used_mark, used_at, address_at}
use Rattle.places.specs.Finds.{has_address, find_address, has_id, find_id, free_at, find_free, used_count, count_one}
use Rattle.places.specs.Columns.{Bodies, wide, column_at, Field, field, Within, field_at, field_of, mark, id, addr, SameColumns}
use Rattle.places.proofs.Frame.{Apart, put_elsewhere, store_elsewhere, bodies_apart}
use Rattle.places.proofs.Searches.{word_of_lem}

-- a word of a field that two tables have in common
same_word : (t u : List ℕ) (n i : ℕ) (f : Field) → field_of u n i f ≡ field_of t n i f → (k at : ℕ) → k < f.size → field_at f n i + k ≡ at → get_or u at 0 ≡ get_or t at 0
same_word t u n i f e k at h q = sym (word_of_lem u n i f k at h q) ∙ ap (λ (l : List ℕ). get_or l k 0) e ∙ word_of_lem t n i f k at h q

module _ (n : ℕ) (t u : List ℕ) (same : SameColumns n t u) where
  pub same_mark : (i : ℕ) → i < n → get_or u i 0 ≡ get_or t i 0
  same_mark i h = same_word t u n i mark (same.marks i h) 0 i (omega arith) (omega arith)

  same_used : (i : ℕ) → i < n → used_at u i ≡ used_at t i
  same_used i h = ap used_mark (same_mark i h)

  same_has_id : (x i : ℕ) → i < n → has_id u n x i ≡ has_id t n x i
  unfolding has_id
  same_has_id x i h = ap₂ (λ (p : Bool) (y : ℕ). p && eqb y x) (same_used i h) (same_word t u n i id (same.ids i h) 0 (n + i) (omega arith) (omega arith))

  same_words : (i : ℕ) → i < n → (f l g : ℕ) → has_words u (address_at n i) f l g ≡ has_words t (address_at n i) f l g
  unfolding has_words
  same_words i h f l g =
      let at = address_at n i in
      let e = same.addresses i h in
      let a : get_or u at 0 ≡ get_or t at 0 = same_word t u n i addr e 0 at (omega arith) (omega arith) in
      let b : get_or u (at + 1) 0 ≡ get_or t (at + 1) 0 = same_word t u n i addr e 1 (at + 1) (omega arith) (omega arith) in
      let c : get_or u (at + 2) 0 ≡ get_or t (at + 2) 0 = same_word t u n i addr e 2 (at + 2) (omega arith) (omega arith) in
      ap₂ (λ (x y : Bool). x && y) (ap (λ (x : ℕ). eqb x f) a) (ap₂ (λ (x y : ℕ). eqb x l && eqb y g) b c)

  same_has_address : (f l g i : ℕ) → i < n → has_address u n f l g i ≡ has_address t n f l g i
  unfolding has_address
  same_has_address f l g i h = ap₂ (λ (x y : Bool). x && y) (same_used i h) (same_words i h f l g)

  pub same_find_address : (a : Address) → find_address u n a ≡ find_address t n a
  same_find_address a =
      first_ext (has_address u n (first_word a) a.low a.high) (has_address t n (first_word a) a.low a.high) 0 n (λ j _ b. same_has_address (first_word a) a.low a.high j (omega arith))

  pub same_find_id : (x : ℕ) → find_id u n x ≡ find_id t n x
  same_find_id x = first_ext (has_id u n x) (has_id t n x) 0 n (λ j _ b. same_has_id x j (omega arith))

  pub same_find_free : find_free u n ≡ find_free t n
  same_find_free = first_ext (free_at u) (free_at t) 0 n (λ j _ b. let h : j < n = omega arith in ap (λ (x : ℕ). eqb x 0) (same_mark j h))

  same_count_below : (k : ℕ) → k ≤ n → used_count u k ≡ used_count t k
  unfolding used_count
  same_count_below zero h = refl
  same_count_below (suc k) h = ap₂ (λ (x y : ℕ). x + count_one y) (same_count_below k (omega arith)) (same_mark k (omega arith))

  pub same_count : used_count u n ≡ used_count t n
  same_count = same_count_below n (omega arith)

-- ---- a store to a body

module _ (t : List ℕ) (n i : ℕ) (shape : Shaped t n) (here : i < n) (o s : ℕ) (inside : Within (field Bodies o s)) where
  beyond : (g : Field) (j : ℕ) → column_at g.column n j + wide g.column ≤ 5 * n → Within g → j < n → Apart (field Bodies o s) g n i j
  beyond g j c w h = bodies_apart o s g n i j c inside w here h

  -- a field of it written whole
  pub body_put : (at : ℕ) → field_at (field Bodies o s) n i ≡ at → (vs : List ℕ) → length vs ≡ s → SameColumns n t (splice t at vs)
  body_put at e vs k = record {
    marks = λ j h. kept mark j (omega arith) (omega arith) h;
    ids = λ j h. kept id j (omega arith) (omega arith) h;
    addresses = λ j h. kept addr j (omega arith) (omega arith) h;
  }
    where
      kept : (g : Field) (j : ℕ) → column_at g.column n j + wide g.column ≤ 5 * n → Within g → j < n → field_of (splice t at vs) n j g ≡ field_of t n j g
      kept g j c w h =
          ap (λ (x : ℕ). field_of (splice t x vs) n j g) (sym e)
          ∙ put_elsewhere t n i j shape (field Bodies o s) g inside w here h (beyond g j c w h) vs k

  -- one word of it
  pub body_store : (q at v : ℕ) → q < s → field_at (field Bodies o s) n i + q ≡ at → SameColumns n t (set t at v)
  body_store q at v k e = record {
    marks = λ j h. kept mark j (omega arith) (omega arith) h;
    ids = λ j h. kept id j (omega arith) (omega arith) h;
    addresses = λ j h. kept addr j (omega arith) (omega arith) h;
  }
    where
      kept : (g : Field) (j : ℕ) → column_at g.column n j + wide g.column ≤ 5 * n → Within g → j < n → field_of (set t at v) n j g ≡ field_of t n j g
      kept g j c w h =
          ap (λ (x : ℕ). field_of (set t x v) n j g) (sym e)
          ∙ store_elsewhere t n i j shape (field Bodies o s) g inside w here h (beyond g j c w h) q v k

pub same_trans : {n : ℕ} {t u v : List ℕ} → SameColumns n t u → SameColumns n u v → SameColumns n t v
same_trans a b = record {
  marks = λ j h. b.marks j h ∙ a.marks j h;
  ids = λ j h. b.ids j h ∙ a.ids j h;
  addresses = λ j h. b.addresses j h ∙ a.addresses j h;
}
