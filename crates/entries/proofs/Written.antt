-- An entry written at place i: its mark and its body are runs of their own, so every other place is as it was, and what place i
-- holds is the entry.
use mathlib.Core.Path.{◌≡◌, refl, sym, ap, ap₂, ◌∙◌}
use mathlib.Core.Bool.{true, not, ◌&&◌}
use mathlib.Core.List.{List, [], ◌∷◌, ◌++◌, append_assoc}
use Prim.Native.Nat.{ℕ, ◌+◌, ◌^◌, ◌<◌, ◌≤◌}
use native.Mathlib.Nat.{add-zero}
use native.Mathlib.Omega.{arith}
use lib.ListN.{length, get_or, set, length-append, length-set}
use lib.Dec.{eqb}
use lib.Seq.{take_at, get_or-set_same, get_or-set_other}
use Rattle.serialize.specs.Runs.{part, splice, alike}
use Rattle.serialize.specs.Le.{of_le, to_le}
use Rattle.serialize.proofs.Lists.{length_part, get_or_part, part_whole, part_part, part_left, part_right, length_splice, get_or_splice_other, part_splice_same, part_splice_other, part_set_other, alike_refl}
use Rattle.serialize.proofs.Le.{length_to_le, of_le_to_le}
use Rattle.times.specs.declared.Time.{Time}
use Rattle.times.specs.Times.{time}
use Rattle.addresses.specs.declared.Address.{Address}
use Rattle.entries.specs.declared.ConnectTokenEntry.{ConnectTokenEntry}
use Rattle.entries.specs.Layout.{Shaped, body_at, time_at, address_at, mac_at, match_at, address_bytes, body_of, written}
use Rattle.entries.proofs.Marks.{used_match}
use Rattle.entries.proofs.Ways.{body_inside, length_address, length_body, address_fields}

-- ---- the table

module _ (t : List ℕ) (k i : ℕ) (e : ConnectTokenEntry) (s : Shaped t k) (h : i < k) (n : length e.mac ≡ 16) where
  -- before the mark is set to used
  half : List ℕ
  half = splice (set t i 0) (body_at k i) (body_of e)

  inside : body_at k i + length (body_of e) ≤ length (set t i 0)
  inside = omega (arith, body_inside s h, length_body e n, length-set t i 0)

  half_long : length half ≡ length t
  unfolding half
  half_long = length_splice (set t i 0) (body_at k i) (body_of e) inside ∙ length-set t i 0

  pub written_length : length (written t k i e) ≡ length t
  unfolding written half
  written_length = length-set half i 1 ∙ half_long

  pub written_shaped : Shaped (written t k i e) k
  written_shaped = record { some = s.some; few = s.few; long = written_length ∙ s.long }

  pub written_body : part (written t k i e) (body_at k i) 47 ≡ body_of e
  unfolding written half
  written_body =
      part_set_other half i 1 (body_at k i) 47 (omega (arith, half_long, body_inside s h)) (λ o l q. omega arith)
      ∙ ap (part half (body_at k i)) (sym (length_body e n))
      ∙ part_splice_same (set t i 0) (body_at k i) (body_of e) inside

  -- another place's mark, and its body
  other_mark : (j : ℕ) → j < k → (j ≡ i → ⊥) → get_or (written t k i e) j 0 ≡ get_or t j 0
  unfolding written half
  other_mark j l d =
      get_or-set_other half i j 1 0 d
      ∙ get_or_splice_other (set t i 0) (body_at k i) (body_of e) j inside (λ q m p. omega arith)
      ∙ get_or-set_other t i j 0 0 d

  other_body : (j : ℕ) → j < k → (j ≡ i → ⊥) → part (written t k i e) (body_at k j) 47 ≡ part t (body_at k j) 47
  unfolding written half
  other_body j l d =
      let in-t : body_at k j + 47 ≤ length t = body_inside s l in
      part_set_other half i 1 (body_at k j) 47 (omega (arith, half_long)) (λ o m p. omega arith)
      ∙ part_splice_other (set t i 0) (body_at k i) (body_of e) (body_at k j) 47 inside (omega (arith, length-set t i 0))
      (λ o q m p f. omega (arith, length_body e n))
      ∙ part_set_other t i 0 (body_at k j) 47 in-t (λ o m p. omega arith)

  -- the mark of place i is 1, and the others are as before
  pub written_marks : (get_or (written t k i e) i 0 ≡ 1) × ((j : ℕ) → j < k → (j ≡ i → ⊥) → get_or (written t k i e) j 0 ≡ get_or t j 0)
  unfolding written half
  written_marks = (get_or-set_same half i 1 0 (omega (arith, half_long, s.long)), other_mark)

  -- mark and body of another place are as before
  pub written_elsewhere : (j : ℕ) → j < k → (j ≡ i → ⊥)
      → (get_or (written t k i e) j 0 ≡ get_or t j 0) × (part (written t k i e) (body_at k j) 47 ≡ part t (body_at k j) 47)
  written_elsewhere j l d = (other_mark j l d, other_body j l d)

-- ---- runs one after the other, and a part of a known part

last_run : (xs ys : List ℕ) (a n : ℕ) → length xs ≡ a → length ys ≡ n → part (xs ++ ys) a n ≡ ys
last_run xs ys a n p q =
    ap (λ (j : ℕ). part (xs ++ ys) j n) (sym (add-zero (length xs) ∙ p)) ∙ part_right xs ys 0 n ∙ part_whole ys n q

module _ (xs ys zs us : List ℕ) (a n : ℕ) where
  run_1 : length xs ≡ n → part (xs ++ ys ++ zs ++ us) 0 n ≡ xs
  run_1 p = simp append_assoc (take_at xs (ys ++ (zs ++ us)) n p)

  run_2 : length xs ≡ a → length ys ≡ n → part (xs ++ ys ++ zs ++ us) a n ≡ ys
  run_2 p q =
      part_left (xs ++ ys ++ zs) us a n (simp length-append (omega arith))
      ∙ part_left (xs ++ ys) zs a n (simp length-append (omega arith))
      ∙ last_run xs ys a n p q

  run_3 : length xs + length ys ≡ a → length zs ≡ n → part (xs ++ ys ++ zs ++ us) a n ≡ zs
  run_3 p q =
      part_left (xs ++ ys ++ zs) us a n (simp length-append (omega arith)) ∙ last_run (xs ++ ys) zs a n (length-append xs ys ∙ p) q

  run_4 : length xs + length ys + length zs ≡ a → length us ≡ n → part (xs ++ ys ++ zs ++ us) a n ≡ us
  run_4 p q = last_run (xs ++ ys ++ zs) us a n (simp length-append p) q

-- the n elements from index q lie at b in a part that starts at index at
part_of_known : (w : List ℕ) (at m : ℕ) {l : List ℕ} (q b n : ℕ) → part w at m ≡ l → b + n ≤ m → at + b ≡ q → part w q n ≡ part l b n
part_of_known w at m q b n e h f =
    ap (λ (j : ℕ). part w j n) (sym f) ∙ sym (part_part w at m b n h) ∙ ap (λ (x : List ℕ). part x b n) e

-- ---- what place i holds

pub record TimeFits (x : Time) : Type 0 where
  pub secs : x.secs < 2 ^ 64
  pub nanos : x.nanos < 2 ^ 32

pub record AddressFits (a : Address) : Type 0 where
  pub port : a.port < 65536
  pub low : a.low < 2 ^ 64
  pub high : a.high < 2 ^ 64

module _ (w : List ℕ) (k i : ℕ) (e : ConnectTokenEntry) (body : part w (body_at k i) 47 ≡ body_of e) (n : length e.mac ≡ 16) where
  abbrev secs : List ℕ
  secs = to_le 8 e.time.secs

  abbrev nanos : List ℕ
  nanos = to_le 4 e.time.nanos

  abbrev kind : List ℕ
  kind = e.address.kind ∷ []

  abbrev low : List ℕ
  low = to_le 8 e.address.low

  abbrev high : List ℕ
  high = to_le 8 e.address.high

  abbrev port : List ℕ
  port = to_le 2 e.address.port

  abbrev place : List ℕ
  place = address_bytes e.address

  abbrev mac : List ℕ
  mac = part e.mac 0 16

  field : (q b m : ℕ) → b + m ≤ 47 → body_at k i + b ≡ q → part w q m ≡ part (body_of e) b m
  field q b m h f = part_of_known w (body_at k i) 47 q b m body h f

  read_secs : of_le (part w (body_at k i) 8) ≡ of_le secs
  unfolding body_of
  read_secs = ap of_le (field (body_at k i) 0 8 (omega arith) (omega arith) ∙ run_1 secs nanos place mac 0 8 (length_to_le 8 e.time.secs))

  read_nanos : of_le (part w (body_at k i + 8) 4) ≡ of_le nanos
  unfolding body_of
  read_nanos =
      ap of_le
      (field (body_at k i + 8) 8 4 (omega arith) refl
      ∙ run_2 secs nanos place mac 8 4 (length_to_le 8 e.time.secs) (length_to_le 4 e.time.nanos))

  read_time : TimeFits e.time → time_at w k i ≡ e.time
  read_time f = ap₂ time (read_secs ∙ of_le_to_le 8 e.time.secs f.secs) (read_nanos ∙ of_le_to_le 4 e.time.nanos f.nanos)

  read_place : part w (body_at k i + 12) 19 ≡ place
  unfolding body_of
  read_place =
      field (body_at k i + 12) 12 19 (omega arith) refl
      ∙ run_3 secs nanos place mac 12 19 (omega (arith, length_to_le 8 e.time.secs, length_to_le 4 e.time.nanos)) (length_address e.address)

  read_mac : mac_at w k i ≡ e.mac
  unfolding body_of
  read_mac =
      field (body_at k i + 31) 31 16 (omega arith) refl
      ∙ run_4 secs nanos place mac 31 16
      (omega (arith, length_to_le 8 e.time.secs, length_to_le 4 e.time.nanos, length_address e.address))
      (length_part e.mac 0 16 (omega arith))
      ∙ part_whole e.mac 16 n

  in_place : (q b m : ℕ) → b + m ≤ 19 → body_at k i + 12 + b ≡ q → part w q m ≡ part place b m
  in_place q b m h f = part_of_known w (body_at k i + 12) 19 q b m read_place h f

  read_kind : get_or w (body_at k i + 12) 0 ≡ e.address.kind
  read_kind =
      ap (λ (j : ℕ). get_or w j 0) (sym (add-zero (body_at k i + 12)))
      ∙ sym (get_or_part w (body_at k i + 12) 19 0 (omega arith))
      ∙ ap (λ (l : List ℕ). get_or l 0 0) read_place

  read_low : of_le (part w (body_at k i + 13) 8) ≡ of_le low
  read_low =
      ap of_le (in_place (body_at k i + 13) 1 8 (omega arith) (omega arith) ∙ run_2 kind low high port 1 8 refl (length_to_le 8 e.address.low))

  read_high : of_le (part w (body_at k i + 21) 8) ≡ of_le high
  read_high =
      ap of_le
      (in_place (body_at k i + 21) 9 8 (omega arith) (omega arith)
      ∙ run_3 kind low high port 9 8 (omega (arith, length_to_le 8 e.address.low)) (length_to_le 8 e.address.high))

  read_port : of_le (part w (body_at k i + 29) 2) ≡ of_le port
  read_port =
      ap of_le
      (in_place (body_at k i + 29) 17 2 (omega arith) (omega arith)
      ∙ run_4 kind low high port 17 2 (omega (arith, length_to_le 8 e.address.low, length_to_le 8 e.address.high))
      (length_to_le 2 e.address.port))

  read_address : AddressFits e.address → address_at w k i ≡ e.address
  read_address f =
      address_fields read_kind
      (read_port ∙ of_le_to_le 2 e.address.port f.port)
      (read_low ∙ of_le_to_le 8 e.address.low f.low)
      (read_high ∙ of_le_to_le 8 e.address.high f.high)

-- ---- the same, of a table in which the entry was written

module _ (t : List ℕ) (k i : ℕ) (e : ConnectTokenEntry) (s : Shaped t k) (h : i < k) (n : length e.mac ≡ 16) where
  body : part (written t k i e) (body_at k i) 47 ≡ body_of e
  body = written_body t k i e s h n

  pub written_time : TimeFits e.time → time_at (written t k i e) k i ≡ e.time
  written_time f = read_time (written t k i e) k i e body n f

  pub written_address : AddressFits e.address → address_at (written t k i e) k i ≡ e.address
  written_address f = read_address (written t k i e) k i e body n f

  pub written_mac : mac_at (written t k i e) k i ≡ e.mac
  written_mac = read_mac (written t k i e) k i e body n

  -- place i is a match for the entry's own sixteen bytes, and any other is one where it was before
  pub written_matches : match_at (written t k i e) k e.mac i ≡ true
  written_matches =
      used_match (written t k i e) k e.mac i (λ z. omega (arith, (written_marks t k i e s h n).0))
      ∙ ap₂ alike written_mac (part_whole e.mac 16 n)
      ∙ alike_refl e.mac

  pub written_match_elsewhere : (mac : List ℕ) (j : ℕ) → j < k → (j ≡ i → ⊥) → match_at (written t k i e) k mac j ≡ match_at t k mac j
  unfolding match_at
  written_match_elsewhere mac j l d =
      let (m, b) = written_elsewhere t k i e s h n j l d in
      let tag : mac_at (written t k i e) k j ≡ mac_at t k j =
      part_of_known (written t k i e) (body_at k j) 47 (body_at k j + 31) 31 16 b (omega arith) refl
      ∙ part_part t (body_at k j) 47 31 16 (omega arith) in
      ap₂ (λ (v : ℕ) (x : List ℕ). not (eqb v 0) && alike x (part mac 0 16)) m tag
