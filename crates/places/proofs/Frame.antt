-- A field is a run of words, and two fields that are not of one place, or not of one column, or side by side, have no word in common:
-- so what is written to one leaves the other.
use mathlib.Core.Path.{◌≡◌, refl, sym, ap, ◌∙◌}
use mathlib.Core.Logic.{◌⊎◌, ⊎_elim}
use Prim.Native.Nat.{ℕ, ◌+◌, ◌*◌, ◌≤◌, ◌<◌}
use native.Mathlib.Omega.{arith}
use mathlib.Core.List.{List, ◌++◌}
use lib.ListN.{length, set, length-set}
use Rattle.serialize.specs.Runs.{part, splice}
use Rattle.serialize.proofs.Lists.{part_add, length_splice, part_splice_other, part_splice_same, part_set_other}
use Rattle.replay_protection.specs.Ours.{width}
use Rattle.places.specs.Layout.{Shaped, body_at, body_words}
use Rattle.places.specs.Columns.{Column, Marks, Ids, Addresses, Bodies, wide, column_at, Field, field, Within, field_at, field_of, Elsewhere, confirmed, send_key, receive_key, received, sent, timeout, sequence, expiry, user_data, window}

-- ---- where fields lie

-- words a of place i and b of place j of two columns are two words, unless columns and places are the same
columns_apart : (c d : Column) (n i j a b : ℕ) → a < wide c → b < wide d → i < n → j < n → (c ≡ d → i ≡ j → ⊥) → column_at c n i + a ≡ column_at d n j + b → ⊥
columns_apart Marks Marks n i j a b s t p q h e = let k : i ≡ j = omega arith in h refl k
columns_apart Marks Ids n i j a b s t p q h e = omega arith
columns_apart Marks Addresses n i j a b s t p q h e = omega arith
columns_apart Marks Bodies n i j a b s t p q h e = omega arith
columns_apart Ids Marks n i j a b s t p q h e = omega arith
columns_apart Ids Ids n i j a b s t p q h e = let k : i ≡ j = omega arith in h refl k
columns_apart Ids Addresses n i j a b s t p q h e = omega arith
columns_apart Ids Bodies n i j a b s t p q h e = omega arith
columns_apart Addresses Marks n i j a b s t p q h e = omega arith
columns_apart Addresses Ids n i j a b s t p q h e = omega arith
columns_apart Addresses Addresses n i j a b s t p q h e = let k : i ≡ j = omega arith in h refl k
columns_apart Addresses Bodies n i j a b s t p q h e = omega arith
columns_apart Bodies Marks n i j a b s t p q h e = omega arith
columns_apart Bodies Ids n i j a b s t p q h e = omega arith
columns_apart Bodies Addresses n i j a b s t p q h e = omega arith
columns_apart Bodies Bodies n i j a b s t p q h e = let k : i ≡ j = omega arith in h refl k

-- a word of a column lies in the table
column_inside : (c : Column) (t : List ℕ) (n i a : ℕ) → Shaped t n → a ≤ wide c → i < n → column_at c n i + a ≤ length t
column_inside Marks t n i a s h p = omega (arith, s.long)
column_inside Ids t n i a s h p = omega (arith, s.long)
column_inside Addresses t n i a s h p = omega (arith, s.long)
column_inside Bodies t n i a s h p = omega (arith, s.long)

pub field_inside : (f : Field) (t : List ℕ) (n i : ℕ) → Shaped t n → Within f → i < n → field_at f n i + f.size ≤ length t
field_inside f t n i s w p = let h = column_inside f.column t n i (f.offset + f.size) s w p in omega arith

-- no word of field f of place i is a word of field g of place j
abbrev pub Apart : Field → Field → ℕ → ℕ → ℕ → Type 0
Apart f g n i j = (o q : ℕ) → o < g.size → q < f.size → field_at f n i + q ≡ field_at g n j + o → ⊥

-- fields of two places, or of two columns
pub fields_apart : (f g : Field) (n i j : ℕ) → Within f → Within g → i < n → j < n → (f.column ≡ g.column → i ≡ j → ⊥) → Apart f g n i j
fields_apart f g n i j u v p q h o k a b e =
    let r : column_at f.column n i + (f.offset + k) ≡ column_at g.column n j + (g.offset + o) = omega arith in
    columns_apart f.column g.column n i j (f.offset + k) (g.offset + o) (omega arith) (omega arith) p q h r

-- fields of one place side by side, in either order
pub beside_apart : (c : Column) (o s p r n i : ℕ) → (o + s ≤ p) ⊎ (p + r ≤ o) → Apart (field c o s) (field c p r) n i i
beside_apart c o s p r n i h x q a b e = ⊎_elim (λ l. omega arith) (λ l. omega arith) h

-- a body's words are past every column
pub bodies_apart : (o s : ℕ) (g : Field) (n i j : ℕ) → column_at g.column n j + wide g.column ≤ 5 * n → Within (field Bodies o s) → Within g → i < n → j < n → Apart (field Bodies o s) g n i j
bodies_apart o s g n i j c u v p q k b h e = omega arith

-- ---- one write

module _ (t : List ℕ) (n i j : ℕ) (shape : Shaped t n) (f g : Field) (inF : Within f) (inG : Within g) (here : i < n) (there : j < n) (apart : Apart f g n i j) where
  -- a field written whole
  pub put_elsewhere : (vs : List ℕ) → length vs ≡ f.size → field_of (splice t (field_at f n i) vs) n j g ≡ field_of t n j g
  put_elsewhere vs k =
      let a = field_inside f t n i shape inF here in
      let b = field_inside g t n j shape inG there in
      part_splice_other t (field_at f n i) vs (field_at g n j) g.size (omega arith) b (λ o q x y e. apart o q x (omega arith) e)

  -- one word of it
  pub store_elsewhere : (q v : ℕ) → q < f.size → field_of (set t (field_at f n i + q) v) n j g ≡ field_of t n j g
  store_elsewhere q v h =
      let b = field_inside g t n j shape inG there in
      part_set_other t (field_at f n i + q) v (field_at g n j) g.size b (λ o x e. apart o q x h e)

-- what was written reads back
pub put_reads : (t : List ℕ) (n i : ℕ) → Shaped t n → i < n → (f : Field) → Within f → (vs : List ℕ) → length vs ≡ f.size → field_of (splice t (field_at f n i) vs) n i f ≡ vs
put_reads t n i shape here f inF vs k =
    let a = field_inside f t n i shape inF here in
    ap (part (splice t (field_at f n i) vs) (field_at f n i)) (sym k) ∙ part_splice_same t (field_at f n i) vs (omega arith)

-- ---- writes to one place leave the others

pub shaped_kept : {t u : List ℕ} {n : ℕ} → length u ≡ length t → Shaped t n → Shaped u n
shaped_kept e s = record { few = s.few; long = e ∙ s.long }

pub elsewhere_refl : (n i : ℕ) (t : List ℕ) → Elsewhere n i t t
elsewhere_refl n i t = record { long = refl; same = λ j p h g w. refl }

pub elsewhere_trans : {n i : ℕ} {t u v : List ℕ} → Elsewhere n i t u → Elsewhere n i u v → Elsewhere n i t v
elsewhere_trans a b = record { long = b.long ∙ a.long; same = λ j p h g w. b.same j p h g w ∙ a.same j p h g w }

module _ (t : List ℕ) (n i : ℕ) (shape : Shaped t n) (here : i < n) (f : Field) (inF : Within f) where
  -- a field of place i written whole
  pub elsewhere_put : (at : ℕ) → field_at f n i ≡ at → (vs : List ℕ) → length vs ≡ f.size → Elsewhere n i t (splice t at vs)
  elsewhere_put at e vs k =
      let a = field_inside f t n i shape inF here in
      record {
        long = length_splice t at vs (omega arith);
        same = λ j p h g w.
            ap (λ (x : ℕ). field_of (splice t x vs) n j g) (sym e)
            ∙ put_elsewhere t n i j shape f g inF w here p (fields_apart f g n i j inF w here p (λ c. h)) vs k;
      }

  -- one word of it
  pub elsewhere_store : (q at v : ℕ) → q < f.size → field_at f n i + q ≡ at → Elsewhere n i t (set t at v)
  elsewhere_store q at v k e = record {
    long = length-set t at v;
    same = λ j p h g w.
        ap (λ (x : ℕ). field_of (set t x v) n j g) (sym e)
        ∙ store_elsewhere t n i j shape f g inF w here p (fields_apart f g n i j inF w here p (λ c. h)) q v k;
  }

-- ---- a body is its fields, one after the other: they cover it, and none overlaps another

module _ (t : List ℕ) (b : ℕ) where
  -- what is covered so far, and the next field
  next : {l : List ℕ} (m k q r : ℕ) → l ≡ part t (b + 0) m → q ≡ m → m + k ≡ r → l ++ part t (b + q) k ≡ part t (b + 0) r
  next m k q r e f g =
      let p : b + q ≡ b + 0 + m = omega arith in
      ap (λ (x : List ℕ). x ++ part t (b + q) k) e
      ∙ ap (λ (j : ℕ). part t (b + 0) m ++ part t j k) p
      ∙ sym (part_add t (b + 0) m k)
      ∙ ap (part t (b + 0)) g

pub body_tiles : (t : List ℕ) (n i : ℕ)
    → field_of t n i (field Bodies 0 body_words)
    ≡ field_of t n i confirmed ++ field_of t n i send_key ++ field_of t n i receive_key ++ field_of t n i received ++ field_of t n i sent ++ field_of t n i timeout
    ++ field_of t n i sequence ++ field_of t n i expiry ++ field_of t n i user_data ++ field_of t n i window
body_tiles t n i =
    let b = body_at n i in
    let e1 = next t b 1 4 1 5 refl refl refl in
    let e2 = next t b 5 4 5 9 e1 refl refl in
    let e3 = next t b 9 2 9 11 e2 refl refl in
    let e4 = next t b 11 2 11 13 e3 refl refl in
    let e5 = next t b 13 1 13 14 e4 refl refl in
    let e6 = next t b 14 1 14 15 e5 refl refl in
    let e7 = next t b 15 1 15 16 e6 refl refl in
    let e8 = next t b 16 32 16 48 e7 refl refl in
    sym (next t b 48 (1 + width) 48 body_words e8 refl refl)
