-- A record is put into a place as four runs, of which none touches another: so each of its fields reads back, and a record that is moved
-- is in the slot what it was where it waited, window and all.
use mathlib.Core.Path.{◌≡◌, refl, sym, ap, ◌∙◌}
use mathlib.Core.Bool.{true}
use Prim.Native.Nat.{ℕ, ◌+◌, ◌<◌}
use native.Mathlib.Nat.{add-zero}
use native.Mathlib.Omega.{arith}
use mathlib.Core.List.{List, [], ◌∷◌}
use lib.ListN.{length, get_or, set, length-set}
use lib.Seq.{get_or-set_same}
use Rattle.serialize.specs.Runs.{part, splice}
use Rattle.serialize.proofs.Lists.{length_part, part_part, part_splice_in, set_splice}
use Rattle.places.specs.Layout.{Shaped, id_at, address_at, body_at, body_words, used_mark, used_at, id_of}
use Rattle.places.specs.Columns.{Elsewhere, Marks, Bodies, Field, field, Within, field_at, field_of, mark, id, addr}
use Rattle.places.proofs.Frame.{shaped_kept, put_reads, put_elsewhere, store_elsewhere, elsewhere_put, fields_apart}
use Rattle.records.specs.Records.{placed, emptied, moved}
use Rattle.records.proofs.Kept.{placed_elsewhere}

-- a mark's store leaves the place's other columns
unmarked : (t : List ℕ) (n i : ℕ) → Shaped t n → i < n → (g : Field) → Within g → (Marks ≡ g.column → ⊥) → (v : ℕ) → field_of (set t i v) n i g ≡ field_of t n i g
unmarked t n i shape here g w d v =
    let e : field_at mark n i + 0 ≡ i = omega arith in
    ap (λ (j : ℕ). field_of (set t j v) n i g) (sym e)
    ∙ store_elsewhere t n i i shape mark g (omega arith) w here here (fields_apart mark g n i i (omega arith) w here here (λ c k. d c)) 0 v (omega arith)

-- so emptying changes nothing else of the place either
pub emptied_rest : (t : List ℕ) (n i : ℕ) → Shaped t n → i < n → (g : Field) → Within g → (Marks ≡ g.column → ⊥) → field_of (emptied t i) n i g ≡ field_of t n i g
emptied_rest t n i shape here g w d = unmarked t n i shape here g w d 0

-- and a body's splice
unembodied : (t : List ℕ) (n i : ℕ) → Shaped t n → i < n → (g : Field) → Within g → (Bodies ≡ g.column → ⊥) → (body : List ℕ) → length body ≡ body_words
    → field_of (splice t (body_at n i) body) n i g ≡ field_of t n i g
unembodied t n i shape here g w d body k =
    let f : Field = field Bodies 0 body_words in
    ap (λ (j : ℕ). field_of (splice t j body) n i g) (sym (add-zero (body_at n i)))
    ∙ put_elsewhere t n i i shape f g (omega arith) w here here (fields_apart f g n i i (omega arith) w here here (λ c q. d c)) body k

module _ (t : List ℕ) (n i : ℕ) (shape : Shaped t n) (here : i < n) (x : ℕ) (words body : List ℕ) (three : length words ≡ 3) (full : length body ≡ body_words) where
  -- id, address and body written
  t1 : List ℕ
  t1 = set t (id_at n i) x

  s1 : Shaped t1 n
  unfolding t1
  s1 = shaped_kept (length-set t (id_at n i) x) shape

  t2 : List ℕ
  t2 = splice t1 (address_at n i) words

  s2 : Shaped t2 n
  unfolding t1 t2
  s2 = shaped_kept (elsewhere_put t1 n i s1 here addr (omega arith) (address_at n i) (omega arith) words three).long s1

  t3 : List ℕ
  t3 = splice t2 (body_at n i) body

  s3 : Shaped t3 n
  unfolding t1 t2 t3
  s3 = shaped_kept (elsewhere_put t2 n i s2 here (field Bodies 0 body_words) (omega arith) (body_at n i) (omega arith) body full).long s2

  -- the mark is 1
  pub placed_mark : get_or (placed t n i x words body) i 0 ≡ 1
  unfolding placed t1 t2 t3
  placed_mark = get_or-set_same t3 i 1 0 (omega (arith, s3.long))

  pub placed_used : used_at (placed t n i x words body) i ≡ true
  placed_used = ap used_mark placed_mark

  -- every field of the body
  pub placed_body : (o s : ℕ) → Within (field Bodies o s) → field_of (placed t n i x words body) n i (field Bodies o s) ≡ part body o s
  unfolding placed t1 t2 t3
  placed_body o s w =
      unmarked t3 n i s3 here (field Bodies o s) w (λ e. let z : ◌≡◌ {A = ℕ} 0 1 = cc in omega arith) 1
      ∙ part_splice_in t2 (body_at n i) body o s (omega (arith, s2.long)) (omega arith)

  pub placed_address : field_of (placed t n i x words body) n i addr ≡ words
  unfolding placed t1 t2 t3
  placed_address =
      unmarked t3 n i s3 here addr (omega arith) (λ e. let z : ◌≡◌ {A = ℕ} 0 1 = cc in omega arith) 1
      ∙ unembodied t2 n i s2 here addr (omega arith) (λ e. let z : ◌≡◌ {A = ℕ} 0 1 = cc in omega arith) body full
      ∙ ap (λ (j : ℕ). field_of (splice t1 j words) n i addr) (sym (add-zero (address_at n i)))
      ∙ put_reads t1 n i s1 here addr (omega arith) words three

  pub placed_id : field_of (placed t n i x words body) n i id ≡ x ∷ []
  unfolding placed t1 t2 t3
  placed_id =
      unmarked t3 n i s3 here id (omega arith) (λ e. let z : ◌≡◌ {A = ℕ} 0 1 = cc in omega arith) 1
      ∙ unembodied t2 n i s2 here id (omega arith) (λ e. let z : ◌≡◌ {A = ℕ} 0 1 = cc in omega arith) body full
      ∙ ap (λ (j : ℕ). field_of (splice t1 j words) n i id) (sym (add-zero (address_at n i)))
      ∙ put_elsewhere t1 n i i s1 addr id (omega arith) (omega arith) here here (fields_apart addr id n i i (omega arith) (omega arith) here here (λ e k. let z : ◌≡◌ {A = ℕ} 0 1 = cc in omega arith)) words three
      ∙ ap (λ (l : List ℕ). field_of l n i id) (set_splice t (id_at n i) x (omega (arith, shape.long)) ∙ ap (λ (j : ℕ). splice t j (x ∷ [])) (sym (add-zero (id_at n i))))
      ∙ put_reads t n i shape here id (omega arith) (x ∷ []) refl

-- ---- a record that was moved: every field but the mark is in the slot what it was where it waited

module _ (slots : List ℕ) (n i : ℕ) (pending : List ℕ) (m j : ℕ) (shape : Shaped slots n) (here : i < n) (from : Shaped pending m) (there : j < m) where
  three : length (part pending (address_at m j) 3) ≡ 3
  three = length_part pending (address_at m j) 3 (omega (arith, from.long))

  full : length (part pending (body_at m j) body_words) ≡ body_words
  full = length_part pending (body_at m j) body_words (omega (arith, from.long))

  pub moved_body : (o s : ℕ) → Within (field Bodies o s) → field_of (moved slots n i pending m j) n i (field Bodies o s) ≡ field_of pending m j (field Bodies o s)
  moved_body o s w =
      placed_body slots n i shape here (id_of pending m j) (part pending (address_at m j) 3) (part pending (body_at m j) body_words) three full o s w
      ∙ part_part pending (body_at m j) body_words o s (omega arith)

  pub moved_address : field_of (moved slots n i pending m j) n i addr ≡ field_of pending m j addr
  moved_address =
      placed_address slots n i shape here (id_of pending m j) (part pending (address_at m j) 3) (part pending (body_at m j) body_words) three full
      ∙ ap (λ (k : ℕ). part pending k 3) (sym (add-zero (address_at m j)))

  pub moved_id : field_of (moved slots n i pending m j) n i id ≡ id_of pending m j ∷ []
  moved_id = placed_id slots n i shape here (id_of pending m j) (part pending (address_at m j) 3) (part pending (body_at m j) body_words) three full

  -- and the other slots are as they were
  pub moved_elsewhere : Elsewhere n i slots (moved slots n i pending m j)
  moved_elsewhere = placed_elsewhere slots n i shape here (id_of pending m j) (part pending (address_at m j) 3) (part pending (body_at m j) body_words) three full
