-- What the definitions say of addresses, from the definitions alone: a chain of tests holds where each of them does, an address is its
-- four numbers, which its words and its bytes keep, and a search finds one where there is one.
use Rattle.std.specs.Prelude.{Option, Some, None}
use mathlib.Core.Path.{◌≡◌, refl, sym, ap, ap₂, ◌∙◌}
use mathlib.Core.Logic.{◌⊎◌, inl, inr, ⊎_elim, ◌↔◌}
use mathlib.Core.Bool.{Bool, true, false, ◌&&◌, ◌||◌, true≢false, false≢true, and-eq-true_iff}
use mathlib.Core.List.{List, [], ◌∷◌, ◌++◌}
use Prim.Native.Nat.{ℕ, ◌+◌, ◌*◌, ◌/◌, ◌%◌, ◌^◌, ◌≤◌, ◌<◌}
use native.Mathlib.Nat.{add-zero}
use native.Mathlib.Omega.{arith}
use lib.ListN.{length, get_or}
use lib.Dec.{eqb, ltb}
use borrow.Author.Tests.{eq-eqb, eqb-true, lt-ltb, ltb-true, not-false}
use Rattle.serialize.specs.Choice.{pick}
use Rattle.serialize.specs.Runs.{part, zeros, Below}
use Rattle.serialize.specs.Le.{of_le, to_le}
use Rattle.serialize.specs.Search.{first_from}
use Rattle.serialize.proofs.Choice.{by_test}
use Rattle.serialize.proofs.Lists.{length_part, part_add, part_whole, part_part, part_left, part_right, below_part}
use Rattle.serialize.proofs.Le.{length_to_le, of_le_below, of_le_to_le, to_le_of_le, of_le_zeros, of_le_halves}
use Rattle.serialize.proofs.Search.{found_lowest, found_none, none_found}
use Rattle.addresses.specs.declared.Address.{Address}
use Rattle.addresses.proofs.AddressPartialEq.eq.Reads as equals
use Rattle.addresses.specs.Addresses.{address, of_bytes, to_bytes, well_formed, refusal, same, first_word, of_words, has_words, count, address_at, is_found, malformed_at, find_malformed, list_refusal, holds_at, is_ours, find_ours, any_ours}

both_true : (a b : Bool) → (a && b) ≡ true → (a ≡ true) × (b ≡ true)
both_true a b e = (and-eq-true_iff a b).0 e

true_both : (a b : Bool) → a ≡ true → b ≡ true → (a && b) ≡ true
true_both a b p q = (and-eq-true_iff a b).1 (p, q)

-- ---- an address is its four numbers

fields : {k k' p p' l l' h h' : ℕ} → k ≡ k' → p ≡ p' → l ≡ l' → h ≡ h' → address k p l h ≡ address k' p' l' h'
fields {k' = k'} {p' = p'} {l = l} {h = h} e f g i =
    ap₂ (λ (x y : ℕ). address x y l h) e f ∙ ap₂ (λ (x y : ℕ). address k' p' x y) g i

pub same_exactly : (a b : Address) → (same a b ≡ true) ↔ (a ≡ b)
unfolding same
same_exactly a b = (
  λ e.
      let k = both_true (eqb a.kind b.kind) (eqb a.port b.port && (eqb a.low b.low && eqb a.high b.high)) e in
      let p = both_true (eqb a.port b.port) (eqb a.low b.low && eqb a.high b.high) k.1 in
      let l = both_true (eqb a.low b.low) (eqb a.high b.high) p.1 in
      fields (eqb-true _ _ k.0) (eqb-true _ _ p.0) (eqb-true _ _ l.0) (eqb-true _ _ l.1),
  λ e.
      true_both _ _ (eq-eqb _ _ (ap (λ (x : Address). x.kind) e))
      (true_both _ _ (eq-eqb _ _ (ap (λ (x : Address). x.port) e))
      (true_both _ _ (eq-eqb _ _ (ap (λ (x : Address). x.low) e))
      (eq-eqb _ _ (ap (λ (x : Address). x.high) e)))),
)

-- the code's `==` is this definition
pub same_derived : (a b : Address) → (eqb a.kind b.kind && (eqb a.port b.port && (eqb a.low b.low && eqb a.high b.high))) ≡ same a b
unfolding same
same_derived a b = refl

pub same_ensured : (κs : _) (a : _) (x : _) (e : _) → equals.Post κs a x e → x ≡ same a.0.now a.1.0.now
same_ensured κs a x e p = p ∙ same_derived a.0.now a.1.0.now

-- ---- words

pub words_read_back : (a : Address) → a.kind < 256 → a.port < 65536 → of_words (first_word a) a.low a.high ≡ a
words_read_back a k p =
    let kind : first_word a / 65536 % 256 ≡ a.kind = omega arith in
    let port : first_word a % 65536 ≡ a.port = omega arith in
    fields kind port refl refl

-- two addresses are told apart by their words
pub words_apart : (a b : Address) → a.port < 65536 → b.port < 65536 → first_word a ≡ first_word b → a.low ≡ b.low → a.high ≡ b.high → a ≡ b
words_apart a b p q first low high =
    let kind : a.kind ≡ b.kind = omega arith in
    let port : a.port ≡ b.port = omega arith in
    fields kind port low high

pub has_words_exactly : (t : List ℕ) (at first low high : ℕ)
    → (has_words t at first low high ≡ true) ↔ ((get_or t at 0 ≡ first) × (get_or t (at + 1) 0 ≡ low) × (get_or t (at + 2) 0 ≡ high))
unfolding has_words
has_words_exactly t at first low high = (
  λ e.
      let f = both_true (eqb (get_or t at 0) first) (eqb (get_or t (at + 1) 0) low && eqb (get_or t (at + 2) 0) high) e in
      let l = both_true (eqb (get_or t (at + 1) 0) low) (eqb (get_or t (at + 2) 0) high) f.1 in
      (eqb-true _ _ f.0, eqb-true _ _ l.0, eqb-true _ _ l.1),
  λ e. true_both _ _ (eq-eqb _ _ e.0) (true_both _ _ (eq-eqb _ _ e.1) (eq-eqb _ _ e.2)),
)

-- ---- bytes

-- eight bytes, read and written
word_bytes : (bytes : List ℕ) (at : ℕ) → at + 8 ≤ length bytes → Below 256 bytes → to_le 8 (of_le (part bytes at 8)) ≡ part bytes at 8
word_bytes bytes at h b =
    ap (λ (k : ℕ). to_le k (of_le (part bytes at 8))) (sym (length_part bytes at 8 h)) ∙ to_le_of_le (part bytes at 8) (below_part bytes at 8 b)

pub bytes_read_back : (kind port : ℕ) (bytes : List ℕ) → length bytes ≡ 16 → Below 256 bytes → to_bytes (of_bytes kind bytes port) ≡ bytes
unfolding to_bytes
bytes_read_back kind port bytes n b =
    ap₂ ◌++◌ (word_bytes bytes 0 (omega arith) b) (word_bytes bytes 8 (omega arith) b)
    ∙ sym (part_add bytes 0 8 8)
    ∙ part_whole bytes 16 n

pub address_read_back : (a : Address) → a.low < 2 ^ 64 → a.high < 2 ^ 64 → of_bytes a.kind (to_bytes a) a.port ≡ a
unfolding to_bytes
address_read_back a l h =
    let xs : List ℕ = to_le 8 a.low in
    let ys : List ℕ = to_le 8 a.high in
    let m : length xs ≡ 8 = length_to_le 8 a.low in
    let n : length ys ≡ 8 = length_to_le 8 a.high in
    let low : of_le (part (xs ++ ys) 0 8) ≡ a.low = ap of_le (part_left xs ys 0 8 (omega arith) ∙ part_whole xs 8 m) ∙ of_le_to_le 8 a.low l in
    let high : of_le (part (xs ++ ys) 8 8) ≡ a.high =
    ap (λ (k : ℕ). of_le (part (xs ++ ys) k 8)) (sym (add-zero (length xs) ∙ m))
    ∙ ap of_le (part_right xs ys 0 8 ∙ part_whole ys 8 n)
    ∙ of_le_to_le 8 a.high h in
    fields refl refl low high

-- ---- well-formed

pub well_formed_kinds : (kind low high : ℕ) → well_formed kind low high ≡ true → (kind ≡ 4) ⊎ (kind ≡ 6)
unfolding well_formed
well_formed_kinds kind low high e =
    by_test (eqb kind 6)
    (λ t. inr (eqb-true kind 6 t))
    (λ t.
    let rest : Bool = eqb kind 4 && (ltb low (2 ^ 32) && eqb high 0) in
    let four : rest ≡ true = sym (ap (λ (b : Bool). b || rest) t) ∙ e in
    inl (eqb-true kind 4 (both_true (eqb kind 4) (ltb low (2 ^ 32) && eqb high 0) four).0))

-- kind 6 uses all sixteen bytes
pub six_any : (low high : ℕ) → well_formed 6 low high ≡ true
unfolding well_formed
six_any low high = refl

-- a number is 0 only by its bytes
zero_bytes : (bs : List ℕ) → of_le bs ≡ 0 → bs ≡ zeros (length bs)
unfolding of_le
zero_bytes [] e = refl
zero_bytes (b ∷ bs) e =
    let x : b ≡ 0 = omega arith in
    let y : of_le bs ≡ 0 = omega arith in
    ap₂ ◌∷◌ x (zero_bytes bs y)

-- kind 4 uses the first four bytes, and the rest is zero
pub four_exactly : (bytes : List ℕ) → length bytes ≡ 16 → Below 256 bytes
    → (well_formed 4 (of_le (part bytes 0 8)) (of_le (part bytes 8 8)) ≡ true) ↔ (part bytes 4 12 ≡ zeros 12)
unfolding well_formed
four_exactly bytes n b =
    let low : ℕ = of_le (part bytes 0 8) in
    let high : ℕ = of_le (part bytes 8 8) in
    let halves : low ≡ of_le (part bytes 0 4) + 256 ^ 4 * of_le (part bytes 4 4) = of_le_halves bytes 0 4 4 (omega arith) in (
      λ e.
          let t = both_true (ltb low (2 ^ 32)) (eqb high 0) e in
          let small : low < 2 ^ 32 = ltb-true low (2 ^ 32) t.0 in
          let none : of_le (part bytes 4 4) ≡ 0 = omega arith in
          let four : part bytes 4 4 ≡ zeros 4 = zero_bytes (part bytes 4 4) none ∙ ap zeros (length_part bytes 4 4 (omega arith)) in
          let eight : part bytes 8 8 ≡ zeros 8 = zero_bytes (part bytes 8 8) (eqb-true high 0 t.1) ∙ ap zeros (length_part bytes 8 8 (omega arith)) in
          part_add bytes 4 4 8 ∙ ap₂ ◌++◌ four eight,
      λ e.
          let four : part bytes 4 4 ≡ zeros 4 = sym (part_part bytes 4 12 0 4 (omega arith)) ∙ ap (λ (l : List ℕ). part l 0 4) e in
          let eight : part bytes 8 8 ≡ zeros 8 = sym (part_part bytes 4 12 4 8 (omega arith)) ∙ ap (λ (l : List ℕ). part l 4 8) e in
          let none : of_le (part bytes 4 4) ≡ 0 = ap of_le four ∙ of_le_zeros 4 in
          let rest : high ≡ 0 = ap of_le eight ∙ of_le_zeros 8 in
          let k : length (part bytes 0 4) ≡ 4 = length_part bytes 0 4 (omega arith) in
          let first : of_le (part bytes 0 4) < 256 ^ 4 = rw k at (of_le_below (part bytes 0 4) (below_part bytes 0 4 b)) in
          true_both _ _ (lt-ltb low (2 ^ 32) (omega arith)) (eq-eqb high 0 rest),
    )

-- ---- lists

found_at : (f : Option ℕ) → is_found f ≡ true → (i : ℕ) × (f ≡ Some i)
unfolding is_found
found_at (Some i) e = (i, refl)
found_at None e = absurd (false≢true e)

found_nothing : (f : Option ℕ) → is_found f ≡ false → f ≡ None
unfolding is_found
found_nothing (Some i) e = absurd (true≢false e)
found_nothing None e = refl

taken : (b : Bool) → pick {A = ℕ} b 19 0 ≡ 0 → b ≡ false
unfolding pick
taken true e = absurd (omega arith)
taken false e = refl

-- every address of the list is well-formed
module _ (list : List ℕ) where
  all_formed : list_refusal list ≡ 0 → (i : ℕ) → i < count list → malformed_at list i ≡ false
  unfolding list_refusal
  all_formed e i h =
      let none : find_malformed list ≡ None = found_nothing (find_malformed list) (taken (is_found (find_malformed list)) e) in
      found_none (malformed_at list) 0 (count list) none i (omega arith) (omega arith)

  formed_all : ((i : ℕ) → i < count list → malformed_at list i ≡ false) → list_refusal list ≡ 0
  unfolding list_refusal pick is_found
  formed_all h =
      ap (λ (f : Option ℕ). pick (is_found f) 19 0) (none_found (malformed_at list) 0 (count list) (λ m a b. h m (omega arith)))

  pub list_refusal_exactly : (list_refusal list ≡ 0) ↔ ((i : ℕ) → i < count list → malformed_at list i ≡ false)
  list_refusal_exactly = (all_formed, formed_all)

-- the words of a well-formed address are those of the address that is read from them, and it is well-formed
module _ (list : List ℕ) (i : ℕ) (formed : malformed_at list i ≡ false) where
  words_formed : well_formed (get_or list (3 * i) 0 / 65536) (get_or list (3 * i + 1) 0) (get_or list (3 * i + 2) 0) ≡ true
  unfolding malformed_at
  words_formed = not-false _ formed

  kind_small : get_or list (3 * i) 0 / 65536 < 256
  kind_small = ⊎_elim (λ e. omega arith) (λ e. omega arith) (well_formed_kinds _ _ _ words_formed)

  pub listed_word : first_word (address_at list i) ≡ get_or list (3 * i) 0
  listed_word = omega (arith, kind_small)

  pub listed_well_formed : refusal (address_at list i) ≡ 0
  unfolding refusal pick
  listed_well_formed =
      let same_kind : get_or list (3 * i) 0 / 65536 % 256 ≡ get_or list (3 * i) 0 / 65536 = omega (arith, kind_small) in
      ap (λ (k : ℕ). pick (well_formed k (get_or list (3 * i + 1) 0) (get_or list (3 * i + 2) 0)) 0 19) same_kind
      ∙ ap (λ (b : Bool). pick b 0 19) words_formed

-- address i of the list and address j of ours have the same words
pub record Shared (list ours : List ℕ) : Type 0 where
  pub i : ℕ
  pub j : ℕ
  pub listed : i < count list
  pub own : j < count ours
  pub first : get_or list (3 * i) 0 ≡ get_or ours (3 * j) 0
  pub low : get_or list (3 * i + 1) 0 ≡ get_or ours (3 * j + 1) 0
  pub high : get_or list (3 * i + 2) 0 ≡ get_or ours (3 * j + 2) 0

module _ (list ours : List ℕ) where
  -- address j of ours has the words of address i of the list
  abbrev owned : ℕ → ℕ → Bool
  owned i = holds_at ours (get_or list (3 * i) 0) (get_or list (3 * i + 1) 0) (get_or list (3 * i + 2) 0)

  ours_shared : any_ours list ours ≡ true → Shared list ours
  unfolding any_ours is_ours
  ours_shared e =
      let f = found_at (find_ours list ours) e in
      let i : ℕ = f.0 in
      let x = found_lowest (is_ours list ours) 0 (count list) i f.1 in
      let g = found_at (first_from (owned i) 0 (count ours)) x.holds in
      let j : ℕ = g.0 in
      let y = found_lowest (owned i) 0 (count ours) j g.1 in
      let w = (has_words_exactly ours (3 * j) (get_or list (3 * i) 0) (get_or list (3 * i + 1) 0) (get_or list (3 * i + 2) 0)).0 y.holds in
      record {
        i = i;
        j = j;
        listed = omega (arith, x.below);
        own = omega (arith, y.below);
        first = sym w.0;
        low = sym w.1;
        high = sym w.2;
      }

  shared_has : (s : Shared list ours) → owned s.i s.j ≡ true
  shared_has s =
      (has_words_exactly ours (3 * s.j) (get_or list (3 * s.i) 0) (get_or list (3 * s.i + 1) 0) (get_or list (3 * s.i + 2) 0)).1
      (sym s.first, sym s.low, sym s.high)

  shared_ours : Shared list ours → any_ours list ours ≡ true
  unfolding any_ours is_ours
  shared_ours s =
      by_test (any_ours list ours)
      (λ t. t)
      (λ t.
      let none = found_none (is_ours list ours) 0 (count list) (found_nothing (find_ours list ours) t) s.i (omega arith) (omega (arith, s.listed)) in
      let p : ℕ → Bool = owned s.i in
      let lacks = found_none p 0 (count ours) (found_nothing (first_from p 0 (count ours)) none) s.j (omega arith) (omega (arith, s.own)) in
      absurd (false≢true (sym lacks ∙ shared_has s)))

  pub any_ours_exactly : (any_ours list ours ≡ true) ↔ Shared list ours
  any_ours_exactly = (ours_shared, shared_ours)
