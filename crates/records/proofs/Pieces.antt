-- A record is written piece after piece, each right after the last, so that what was written is one run of words.
use Rattle.std.specs.Int.{from_bool}
use mathlib.Core.Path.{◌≡◌, refl, sym, ap, ap₂, ◌∙◌}
use mathlib.Core.Bool.{Bool, true, false}
use mathlib.Core.List.{List, [], ◌∷◌, ◌++◌}
use Prim.Native.Nat.{ℕ, ◌+◌, ◌*◌, ◌≤◌}
use native.Mathlib.Numerals.{add-one, add-two}
use native.Mathlib.Omega.{arith}
use lib.ListN.{length, set, length-append, length-take, length-drop}
use Rattle.serialize.specs.Choice.{pick}
use Rattle.serialize.specs.Runs.{part, splice}
use Rattle.serialize.specs.Le.{words}
use Rattle.serialize.proofs.Lists.{length_part, length_splice, splice_sets, splice_whole, splice_cons, splice_then}
use Rattle.serialize.proofs.Packed.{length_words, length_bytes_of}
use Rattle.times.specs.declared.Time.{Time}
use Rattle.addresses.specs.declared.Address.{Address}
use Rattle.addresses.specs.Addresses.{first_word, words_of}
use Rattle.replay_protection.specs.Stored.{put_window}
use Rattle.replay_protection.specs.Ours.{window_of}
use Rattle.places.specs.Layout.{id_at, address_at, body_at, body_words}
use Rattle.records.specs.declared.Connection.{Connection}
use Rattle.records.specs.Records.{put_time, bytes_at, bit, numbers_of, body_of, placed}

-- the library's number of a truth value is the definition's
pub bit_from : (b : Bool) → from_bool b ≡ bit b
unfolding bit pick
bit_from true = refl
bit_from false = refl

-- ---- words unpacked over the whole of an array

pub unpacked : (z t : List ℕ) (at n : ℕ) {u : List ℕ} → u ≡ splice z 0 (bytes_at t at n) → length z ≡ n * 8 → at + n ≤ length t → u ≡ bytes_at t at n
unpacked z t at n e k h = e ∙ splice_whole z (bytes_at t at n) (omega (arith, length_bytes_of (part t at n), length_part t at n h))

-- ---- stores in a row

two_stores : (l : List ℕ) (at a b : ℕ) → at + 2 ≤ length l → set (set l at a) (at + 1) b ≡ splice l at (a ∷ b ∷ [])
two_stores l at a b h = ap (λ (i : ℕ). set (set l at a) i b) (add-one at) ∙ sym (splice_sets l at (a ∷ b ∷ []) h)

three_stores : (l : List ℕ) (at p q a b c : ℕ) → at + 1 ≡ p → at + 2 ≡ q → at + 3 ≤ length l → set (set (set l at a) p b) q c ≡ splice l at (a ∷ b ∷ c ∷ [])
three_stores l at p q a b c d e h =
    ap₂ (λ (i j : ℕ). set (set (set l at a) i b) j c) (sym d ∙ add-one at) (sym e ∙ add-two at) ∙ sym (splice_sets l at (a ∷ b ∷ c ∷ []) h)

pub address_written : (l : List ℕ) (at : ℕ) (a : Address) {w : ℕ} → w ≡ first_word a → at + 3 ≤ length l
    → set (set (set l at w) (at + 1) a.low) (at + 2) a.high ≡ splice l at (words_of a)
address_written l at a e h =
    ap (λ (w : ℕ). set (set (set l at w) (at + 1) a.low) (at + 2) a.high) e
    ∙ three_stores l at (at + 1) (at + 2) (first_word a) a.low a.high refl refl h

-- ---- the pieces of a body

pub keys_written : (l t u : List ℕ) (at : ℕ) (b : Bool) (send receive : List ℕ) {x : ℕ} → x ≡ bit b → t ≡ splice (set l at x) (at + 1) (words 4 send)
    → u ≡ splice t (at + 5) (words 4 receive) → at + 9 ≤ length l → u ≡ splice l at ((bit b ∷ []) ++ words 4 send ++ words 4 receive)
keys_written l t u at b send receive e f g h =
    let m : length (words 4 send) ≡ 4 = length_words 4 send in
    let n : length (words 4 receive) ≡ 4 = length_words 4 receive in
    let front : t ≡ splice l at (bit b ∷ words 4 send) =
    f ∙ ap (λ (x : ℕ). splice (set l at x) (at + 1) (words 4 send)) e ∙ splice_cons l at (bit b) (words 4 send) (omega arith) in
    splice_then l t u at (bit b ∷ words 4 send) (at + 5) (words 4 receive) front g (omega arith) (omega arith)

pub numbers_written : (l t u : List ℕ) (at : ℕ) (received sent : Time) (timeout sequence expiry : ℕ) → t ≡ put_time l at received → u ≡ put_time t (at + 2) sent → at + 7 ≤ length l
    → set (set (set u (at + 4) timeout) (at + 5) sequence) (at + 6) expiry
    ≡ splice l at (received.secs ∷ received.nanos ∷ sent.secs ∷ sent.nanos ∷ timeout ∷ sequence ∷ expiry ∷ [])
numbers_written l t u at received sent timeout sequence expiry e f h =
    let times : List ℕ = received.secs ∷ received.nanos ∷ sent.secs ∷ sent.nanos ∷ [] in
    let e₁ : t ≡ splice l at (received.secs ∷ received.nanos ∷ []) = e ∙ two_stores l at received.secs received.nanos (omega arith) in
    let k : length t ≡ length l = ap length e₁ ∙ length_splice l at (received.secs ∷ received.nanos ∷ []) (omega arith) in
    let e₂ : u ≡ splice t (at + 2) (sent.secs ∷ sent.nanos ∷ []) = f ∙ two_stores t (at + 2) sent.secs sent.nanos (omega arith) in
    let e₃ : u ≡ splice l at times = splice_then l t u at (received.secs ∷ received.nanos ∷ []) (at + 2) (sent.secs ∷ sent.nanos ∷ []) e₁ e₂ refl (omega arith) in
    let m : length u ≡ length l = ap length e₃ ∙ length_splice l at times (omega arith) in
    splice_then l u _ at times (at + 4) (timeout ∷ sequence ∷ expiry ∷ []) e₃
    (three_stores u (at + 4) (at + 5) (at + 6) timeout sequence expiry (omega arith) (omega arith) (omega arith)) refl (omega arith)

-- a run whose table kept its length lies inside it
inside : (l : List ℕ) (at : ℕ) (vs : List ℕ) → at ≤ length l → length (splice l at vs) ≡ length l → at + length vs ≤ length l
unfolding splice
inside l at vs h e = let k = simp (length-append, length-take, length-drop) at e in omega arith

pub body_written : (l t u v w : List ℕ) (at : ℕ) (c : Connection)
    → t ≡ splice l at ((bit c.confirmed ∷ []) ++ words 4 c.send_key ++ words 4 c.receive_key)
    → u ≡ splice t (at + 9) (numbers_of c)
    → v ≡ splice u (at + 16) (words 32 c.user_data)
    → w ≡ put_window v (at + 48) (window_of c.replay_protection)
    → length w ≡ length v
    → at + body_words ≤ length l
    → w ≡ splice l at (body_of c)
unfolding body_of put_window
body_written l t u v w at c e f g k n h =
    let front : List ℕ = (bit c.confirmed ∷ []) ++ words 4 c.send_key ++ words 4 c.receive_key in
    let user : List ℕ = words 32 c.user_data in
    let window : List ℕ = (window_of c.replay_protection).most ∷ (window_of c.replay_protection).ring in
    let n₀ : length front ≡ 9 = simp length-append (omega (arith, length_words 4 c.send_key, length_words 4 c.receive_key)) in
    let n₁ : length (front ++ numbers_of c) ≡ 16 = length-append front (numbers_of c) ∙ omega arith in
    let n₂ : length user ≡ 32 = length_words 32 c.user_data in
    let n₃ : length (front ++ numbers_of c ++ user) ≡ 48 = length-append (front ++ numbers_of c) user ∙ omega arith in
    let e₁ : u ≡ splice l at (front ++ numbers_of c) = splice_then l t u at front (at + 9) (numbers_of c) e f (omega arith) (omega arith) in
    let e₂ : v ≡ splice l at (front ++ numbers_of c ++ user) = splice_then l u v at (front ++ numbers_of c) (at + 16) user e₁ g (omega arith) (omega arith) in
    let n₄ : length v ≡ length l = ap length e₂ ∙ length_splice l at (front ++ numbers_of c ++ user) (omega arith) in
    let fits : at + 48 + length window ≤ length v = inside v (at + 48) window (omega arith) (ap length (sym k) ∙ n) in
    splice_then l v w at (front ++ numbers_of c ++ user) (at + 48) window e₂ k (omega arith) (omega arith)

-- ---- a whole record

pub record_written : (t u v : List ℕ) (n i id : ℕ) (addr body : List ℕ) → u ≡ splice (set t (id_at n i) id) (address_at n i) addr → v ≡ splice u (body_at n i) body
    → set v i 1 ≡ placed t n i id addr body
unfolding placed
record_written t u v n i id addr body e f = ap (λ (x : List ℕ). set x i 1) (f ∙ ap (λ (x : List ℕ). splice x (body_at n i) body) e)
