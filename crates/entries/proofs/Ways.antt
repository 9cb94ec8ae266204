-- What a call's tests and its callees' answers come to, as its promise says it: by cases of the definition, and by runs that lie
-- right after each other.
use Rattle.std.specs.Prelude.{Option, Some, None}
use mathlib.Core.Path.{◌≡◌, sym, ap, ◌∙◌}
use mathlib.Core.Bool.{Bool, true}
use mathlib.Core.List.{List, [], ◌∷◌, ◌++◌}
use Prim.Native.Nat.{ℕ, ◌+◌, ◌%◌, ◌<◌, ◌≤◌}
use native.Mathlib.Omega.{arith}
use lib.ListN.{length, set, length-append}
use Rattle.serialize.specs.Runs.{part, splice}
use Rattle.serialize.specs.Le.{to_le}
use Rattle.serialize.proofs.Lists.{length_part, set_splice, splice_then}
use Rattle.serialize.proofs.Le.{length_to_le, to_le_mod}
use Rattle.serialize.proofs.Search.{found_lowest}
use Rattle.addresses.specs.declared.Address.{Address}
use Rattle.addresses.specs.Addresses.{address, same}
use Rattle.entries.specs.declared.ConnectTokenEntry.{ConnectTokenEntry}
use Rattle.entries.specs.Layout.{Shaped, address_at, body_at, address_bytes, body_of, written}
use Rattle.entries.specs.Finds.{empty_at, find_match, find_empty, oldest, by_found, place_for, Outcome, done, add_entry}

-- a body lies inside the table
pub body_inside : {t : List ℕ} {k i : ℕ} → Shaped t k → i < k → body_at k i + 47 ≤ length t
body_inside s h = omega arith

-- ---- an address read, and an address and a body written, field by field

pub address_fields : {kind port low high kind' port' low' high' : ℕ} → kind ≡ kind' → port ≡ port' → low ≡ low' → high ≡ high'
    → address kind port low high ≡ address kind' port' low' high'
address_fields p q r s = simp (p, q, r, s)

three_long : (xs ys zs : List ℕ) → length (xs ++ ys ++ zs) ≡ length xs + length ys + length zs
three_long xs ys zs = simp length-append

four_long : (xs ys zs us : List ℕ) → length (xs ++ ys ++ zs ++ us) ≡ length xs + length ys + length zs + length us
four_long xs ys zs us = simp length-append

pub length_address : (a : Address) → length (address_bytes a) ≡ 19
length_address a =
    let low : length (to_le 8 a.low) ≡ 8 = length_to_le 8 a.low in
    let high : length (to_le 8 a.high) ≡ 8 = length_to_le 8 a.high in
    let port : length (to_le 2 a.port) ≡ 2 = length_to_le 2 a.port in
    omega (arith, four_long (a.kind ∷ []) (to_le 8 a.low) (to_le 8 a.high) (to_le 2 a.port))

pub length_body : (e : ConnectTokenEntry) → length e.mac ≡ 16 → length (body_of e) ≡ 47
unfolding body_of
length_body e h =
    let secs : length (to_le 8 e.time.secs) ≡ 8 = length_to_le 8 e.time.secs in
    let nanos : length (to_le 4 e.time.nanos) ≡ 4 = length_to_le 4 e.time.nanos in
    let address : length (address_bytes e.address) ≡ 19 = length_address e.address in
    let mac : length (part e.mac 0 16) ≡ 16 = length_part e.mac 0 16 (omega arith) in
    omega (arith, four_long (to_le 8 e.time.secs) (to_le 4 e.time.nanos) (address_bytes e.address) (part e.mac 0 16))

pub address_written : (l t u v : List ℕ) (at : ℕ) (a : Address) → at + 19 ≤ length l → t ≡ splice (set l at a.kind) (at + 1) (to_le 8 a.low)
    → u ≡ splice t (at + 9) (to_le 8 a.high) → v ≡ splice u (at + 17) (to_le 2 a.port) → v ≡ splice l at (address_bytes a)
address_written l t u v at a h p q r =
    let kind : List ℕ = a.kind ∷ [] in
    let low : List ℕ = to_le 8 a.low in
    let high : List ℕ = to_le 8 a.high in
    let port : List ℕ = to_le 2 a.port in
    let n : length low ≡ 8 = length_to_le 8 a.low in
    let m : length high ≡ 8 = length_to_le 8 a.high in
    let e : t ≡ splice l at (kind ++ low) =
    splice_then l (set l at a.kind) t at kind (at + 1) low (set_splice l at a.kind (omega arith)) p (omega arith) (omega arith) in
    let f : u ≡ splice l at (kind ++ low ++ high) =
    splice_then l t u at (kind ++ low) (at + 9) high e q (simp length-append (omega arith)) (omega arith) in
    splice_then l u v at (kind ++ low ++ high) (at + 17) port f r (simp length-append (omega arith)) (omega (arith, length_to_le 2 a.port))

pub body_written : (l t u v w : List ℕ) (at : ℕ) (e : ConnectTokenEntry) → at + 47 ≤ length l → length e.mac ≡ 16
    → t ≡ splice l at (to_le 8 e.time.secs) → u ≡ splice t (at + 8) (to_le 4 (e.time.nanos % 4294967296)) → v ≡ splice u (at + 12) (address_bytes e.address)
    → w ≡ splice v (at + 31) (part e.mac 0 16) → w ≡ splice l at (body_of e)
unfolding body_of
body_written l t u v w at e h k p q r s =
    let secs : List ℕ = to_le 8 e.time.secs in
    let nanos : List ℕ = to_le 4 e.time.nanos in
    let address : List ℕ = address_bytes e.address in
    let n : length secs ≡ 8 = length_to_le 8 e.time.secs in
    let m : length nanos ≡ 4 = length_to_le 4 e.time.nanos in
    let o : length address ≡ 19 = length_address e.address in
    let f : u ≡ splice l at (secs ++ nanos) =
    splice_then l t u at secs (at + 8) nanos p (q ∙ ap (splice t (at + 8)) (to_le_mod 4 e.time.nanos)) (omega arith) (omega arith) in
    let g : v ≡ splice l at (secs ++ nanos ++ address) =
    splice_then l u v at (secs ++ nanos) (at + 12) address f r (simp length-append (omega arith)) (omega arith) in
    splice_then l v w at (secs ++ nanos ++ address) (at + 31) (part e.mac 0 16) g s (omega (arith, three_long secs nanos address))
    (omega (arith, length_part e.mac 0 16 (omega arith)))

-- ---- what a search found decides

module _ (t : List ℕ) (k : ℕ) where
  pub place_empty : {i : ℕ} → find_empty t k ≡ Some i → (i ≡ place_for t k) × (i < k)
  unfolding place_for by_found
  place_empty {i} e =
      (ap (λ (f : Option ℕ). by_found f (λ (j : ℕ). j) (oldest t k)) (sym e), omega (arith, (found_lowest (empty_at t) 0 k i e).below))

  pub place_oldest : {r : ℕ} → find_empty t k ≡ None → r ≡ oldest t k → r ≡ place_for t k
  unfolding place_for by_found
  place_oldest e f = f ∙ ap (λ (g : Option ℕ). by_found g (λ (j : ℕ). j) (oldest t k)) (sym e)

module _ (t : List ℕ) (k : ℕ) (e : ConnectTokenEntry) where
  -- the answer, and the entries left, as the search for a match answers
  by_match : Option ℕ → Outcome
  by_match f = by_found f (λ (i : ℕ). done (same (address_at t k i) e.address) t) (done true (written t k (place_for t k) e))

  pub entry_matched : {i : ℕ} {r : Bool} → find_match t k e.mac ≡ Some i → r ≡ same (address_at t k i) e.address → done r t ≡ add_entry t k e
  unfolding add_entry by_found by_match
  entry_matched p q = ap (λ (b : Bool). done b t) q ∙ ap by_match (sym p)

  pub entry_added : {i : ℕ} {u : List ℕ} → find_match t k e.mac ≡ None → i ≡ place_for t k → u ≡ written t k i e → done true u ≡ add_entry t k e
  unfolding add_entry by_found by_match
  entry_added p q r = ap (done true) (r ∙ ap (λ (j : ℕ). written t k j e) q) ∙ ap by_match (sym p)
