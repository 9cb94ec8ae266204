-- Used addresses, and used ids, stay distinct: filling brings a key that no used place has, emptying takes one away, and a store to a body
-- touches none. The count of used places moves with the marks.
use Rattle.std.specs.Prelude.{Some, None}
use mathlib.Core.Path.{◌≡◌, refl, sym, ap, ◌∙◌}
use Prim.Native.Nat.{ℕ, ◌+◌, ◌<◌}
use native.Mathlib.Nat.{zero-add}
use native.Mathlib.Omega.{arith}
use mathlib.Core.List.{List, [], ◌∷◌}
use lib.ListN.{length, get_or, get_or-replicate, length-replicate}
use lib.Seq.{get_or-set_same}
use Rattle.serialize.specs.Runs.{part, splice, zeros}
use Rattle.serialize.proofs.Lists.{length_part, get_or_splice_in}
use Rattle.addresses.specs.Addresses.{words_of}
use Rattle.places.specs.Layout.{Shaped, address_at, body_at, body_words, id_of}
use Rattle.places.specs.Finds.{find_address, find_id, used_count}
use Rattle.places.specs.Columns.{Field, Within, id, addr, Elsewhere}
use Rattle.places.specs.Keys.{Keyed, LowestOf, NoneOf, Distinct}
use Rattle.places.proofs.Frame.{shaped_kept}
use Rattle.places.proofs.Ways.{empty_unused}
use Rattle.places.proofs.Searches.{Free, address_found, address_none, id_found, id_none, true_false}
use Rattle.places.proofs.Counted.{count_taken, count_emptied, all_free_count}
use Rattle.places.proofs.Apart.{mark_kept, used_kept, distinct_emptied, distinct_filled}
use Rattle.records.specs.declared.Connection.{Connection}
use Rattle.records.specs.Records.{body_of, placed, filled, emptied, moved}
use Rattle.records.specs.Reads.{Sized}
use Rattle.records.proofs.Kept.{emptied_elsewhere, placed_elsewhere}
use Rattle.records.proofs.ReadBack.{placed_mark, placed_used, placed_id, placed_address}
use Rattle.records.proofs.Filled.{body_length_lem}

-- ---- emptying

module _ (t : List ℕ) (n i : ℕ) (shape : Shaped t n) (here : i < n) where
  pub emptied_mark : get_or (emptied t i) i 0 ≡ 0
  emptied_mark = get_or-set_same t i 0 0 (omega (arith, shape.long))

  pub emptied_distinct : (key : Field) → Within key → Distinct key t n → Distinct key (emptied t i) n
  emptied_distinct key w d = distinct_emptied n i t (emptied t i) (emptied_elsewhere t n i shape here) key w d (empty_unused (emptied t i) i emptied_mark)

  pub emptied_count : (get_or t i 0 ≡ 0 → ⊥) → used_count (emptied t i) n + 1 ≡ used_count t n
  emptied_count u = count_emptied t (emptied t i) n i (mark_kept n i t (emptied t i) (emptied_elsewhere t n i shape here)) here u emptied_mark

  -- ---- a record put into place i

  module _ (x : ℕ) (words body : List ℕ) (three : length words ≡ 3) (full : length body ≡ body_words) where
    u : List ℕ
    u = placed t n i x words body

    else : Elsewhere n i t u
    unfolding u
    else = placed_elsewhere t n i shape here x words body three full

    pub placed_distinct_addresses : NoneOf (Keyed t n addr words) n → Distinct addr t n → Distinct addr (placed t n i x words body) n
    unfolding u
    placed_distinct_addresses none d = distinct_filled n i t u else addr (omega arith) d words (placed_address t n i shape here x words body three full) none

    pub placed_distinct_ids : NoneOf (Keyed t n id (x ∷ [])) n → Distinct id t n → Distinct id (placed t n i x words body) n
    unfolding u
    placed_distinct_ids none d = distinct_filled n i t u else id (omega arith) d (x ∷ []) (placed_id t n i shape here x words body three full) none

    -- at a free place: one more is used
    pub placed_count : get_or t i 0 ≡ 0 → used_count (placed t n i x words body) n ≡ used_count t n + 1
    unfolding u
    placed_count free =
        let one : get_or u i 0 ≡ 1 = placed_mark t n i shape here x words body three full in
        count_taken t u n i (mark_kept n i t u else) here free (λ e. omega arith)

    -- with an address that no used place had, or an id: the search finds it there
    pub placed_found_address : NoneOf (Keyed t n addr words) n → LowestOf (Keyed (placed t n i x words body) n addr words) n i
    unfolding u
    placed_found_address none = record {
      below = here;
      here = (placed_used t n i shape here x words body three full, placed_address t n i shape here x words body three full);
      none = λ m h k.
          let b : m < n = omega arith in
          let d : i ≡ m → ⊥ = λ e. omega arith in
          none m b (sym (used_kept n i t u else m b d) ∙ k.0, sym (else.same m b d addr (omega arith)) ∙ k.1);
    }

    pub placed_found_id : NoneOf (Keyed t n id (x ∷ [])) n → LowestOf (Keyed (placed t n i x words body) n id (x ∷ [])) n i
    unfolding u
    placed_found_id none = record {
      below = here;
      here = (placed_used t n i shape here x words body three full, placed_id t n i shape here x words body three full);
      none = λ m h k.
          let b : m < n = omega arith in
          let d : i ≡ m → ⊥ = λ e. omega arith in
          none m b (sym (used_kept n i t u else m b d) ∙ k.0, sym (else.same m b d id (omega arith)) ∙ k.1);
    }

-- ---- filling, by what the searches said

module _ (t : List ℕ) (n i : ℕ) (shape : Shaped t n) (here : i < n) (c : Connection) (sized : Sized c) where
  pub filled_distinct_addresses : find_address t n c.addr ≡ None → Distinct addr t n → Distinct addr (filled t n i c) n
  filled_distinct_addresses e = placed_distinct_addresses t n i shape here c.client_id (words_of c.addr) (body_of c) refl (body_length_lem c sized) ((address_none t n shape c.addr).0 e)

  pub filled_distinct_ids : find_id t n c.client_id ≡ None → Distinct id t n → Distinct id (filled t n i c) n
  filled_distinct_ids e = placed_distinct_ids t n i shape here c.client_id (words_of c.addr) (body_of c) refl (body_length_lem c sized) ((id_none t n shape c.client_id).0 e)

  -- the record is found by its address and by its id
  pub filled_finds_address : find_address t n c.addr ≡ None → find_address (filled t n i c) n c.addr ≡ Some i
  filled_finds_address e =
      let whole = body_length_lem c sized in
      let kept = (placed_elsewhere t n i shape here c.client_id (words_of c.addr) (body_of c) refl whole).long in
      (address_found (filled t n i c) n (shaped_kept kept shape) c.addr i).1
      (placed_found_address t n i shape here c.client_id (words_of c.addr) (body_of c) refl whole ((address_none t n shape c.addr).0 e))

  pub filled_finds_id : find_id t n c.client_id ≡ None → find_id (filled t n i c) n c.client_id ≡ Some i
  filled_finds_id e =
      let whole = body_length_lem c sized in
      let kept = (placed_elsewhere t n i shape here c.client_id (words_of c.addr) (body_of c) refl whole).long in
      (id_found (filled t n i c) n (shaped_kept kept shape) c.client_id i).1
      (placed_found_id t n i shape here c.client_id (words_of c.addr) (body_of c) refl whole ((id_none t n shape c.client_id).0 e))

  pub filled_count : get_or t i 0 ≡ 0 → used_count (filled t n i c) n ≡ used_count t n + 1
  filled_count = placed_count t n i shape here c.client_id (words_of c.addr) (body_of c) refl (body_length_lem c sized)

  -- and the other places are as they were
  pub filled_elsewhere : Elsewhere n i t (filled t n i c)
  filled_elsewhere = placed_elsewhere t n i shape here c.client_id (words_of c.addr) (body_of c) refl (body_length_lem c sized)

-- ---- moving, where no used slot has the record's address or its id

module _ (slots : List ℕ) (n i : ℕ) (pending : List ℕ) (m j : ℕ) (shape : Shaped slots n) (here : i < n) (from : Shaped pending m) (there : j < m) where
  words : List ℕ
  words = part pending (address_at m j) 3

  body : List ℕ
  body = part pending (body_at m j) body_words

  pub moved_distinct_addresses : NoneOf (Keyed slots n addr (part pending (address_at m j) 3)) n → Distinct addr slots n → Distinct addr (moved slots n i pending m j) n
  unfolding words body
  moved_distinct_addresses = placed_distinct_addresses slots n i shape here (id_of pending m j) words body (length_part pending (address_at m j) 3 (omega (arith, from.long))) (length_part pending (body_at m j) body_words (omega (arith, from.long)))

  pub moved_distinct_ids : NoneOf (Keyed slots n id (id_of pending m j ∷ [])) n → Distinct id slots n → Distinct id (moved slots n i pending m j) n
  unfolding words body
  moved_distinct_ids = placed_distinct_ids slots n i shape here (id_of pending m j) words body (length_part pending (address_at m j) 3 (omega (arith, from.long))) (length_part pending (body_at m j) body_words (omega (arith, from.long)))

-- ---- set-up: every place is free

module _ (t : List ℕ) (n : ℕ) (shape : Shaped t n) where
  pub set_up_free : (m : ℕ) → m < n → Free (splice t 0 (zeros n)) m
  set_up_free m h =
      let k : length (zeros n) ≡ n = length-replicate n 0 in
      ap (λ (j : ℕ). get_or (splice t 0 (zeros n)) j 0) (sym (zero-add m))
      ∙ get_or_splice_in t 0 (zeros n) m (omega (arith, shape.long)) (omega arith)
      ∙ get_or-replicate n m 0 0 h

  pub set_up_count : used_count (splice t 0 (zeros n)) n ≡ 0
  set_up_count = all_free_count (splice t 0 (zeros n)) n set_up_free

  pub set_up_distinct : (key : Field) → Distinct key (splice t 0 (zeros n)) n
  set_up_distinct key i j h k a b e = absurd (true_false a (empty_unused (splice t 0 (zeros n)) i (set_up_free i h)))
