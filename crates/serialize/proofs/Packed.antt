-- The laws of bytes packed eight to a word, by recursion on the words.
use mathlib.Core.Path.{◌≡◌, refl, sym, ap, ◌∙◌}
use Prim.Native.Nat.{ℕ, zero, suc, ◌+◌, ◌*◌, ◌^◌, ◌≤◌, ◌<◌}
use native.Mathlib.Nat.{not-suc-le-zero}
use native.Mathlib.Numerals.{add-one}
use native.Mathlib.Omega.{arith}
use mathlib.Core.List.{List, [], ◌∷◌, ◌++◌, append_assoc, append-nil}
use lib.ListN.{length, take, drop, get_or, set, length-append, length-drop}
use lib.Seq.{take_at, drop_at, take-suc, take-add, drop-drop, get_or-drop, length-take-le}
use Rattle.serialize.specs.Runs.{part, splice, Below}
use Rattle.serialize.specs.Le.{of_le, to_le, words, bytes_of}
use Rattle.serialize.proofs.Lists.{part_splice_same, splice_then, splice_left, splice_right, splice_whole, below_take, below_drop}
use Rattle.serialize.proofs.Le.{length_to_le, of_le_to_le, to_le_of_le}

-- ---- lengths and elements

pub length_words : (n : ℕ) (bs : List ℕ) → length (words n bs) ≡ n
unfolding words
length_words zero bs = refl
length_words (suc n) bs = ap suc (length_words n (drop 8 bs))

pub length_bytes_of : (ws : List ℕ) → length (bytes_of ws) ≡ length ws * 8
unfolding bytes_of
length_bytes_of [] = refl
length_bytes_of (w ∷ ws) = length-append (to_le 8 w) (bytes_of ws) ∙ (omega (arith, length_to_le 8 w, length_bytes_of ws))

pub get_or_words : (n i : ℕ) (bs : List ℕ) → i < n → get_or (words n bs) i 0 ≡ of_le (part bs (i * 8) 8)
unfolding words
get_or_words zero i bs h = absurd (not-suc-le-zero h)
get_or_words (suc n) zero bs h = refl
get_or_words (suc n) (suc i) bs h =
    let e : 8 + i * 8 ≡ suc i * 8 = omega arith in
    get_or_words n i (drop 8 bs) (omega arith) ∙ ap (λ (t : List ℕ). of_le (take 8 t)) (drop-drop (i * 8) 8 bs ∙ ap (λ (k : ℕ). drop k bs) e)

-- word i of those from index at
pub word_at : (n i at : ℕ) (t : List ℕ) → i < n → get_or (words n (drop at t)) i 0 ≡ of_le (part t (at + i * 8) 8)
word_at n i at t h = get_or_words n i (drop at t) h ∙ ap (λ (l : List ℕ). of_le (take 8 l)) (drop-drop (i * 8) at t)

-- ---- there and back

pub bytes_of_words : (n : ℕ) (bs : List ℕ) → Below 256 bs → n * 8 ≤ length bs → bytes_of (words n bs) ≡ take (n * 8) bs
unfolding bytes_of words
bytes_of_words zero bs b h = refl
bytes_of_words (suc n) bs b h =
    let e : 8 + n * 8 ≡ suc n * 8 = omega arith in
    let k : n * 8 ≤ length (drop 8 bs) = simp length-drop (omega arith) in
    let m : length (take 8 bs) ≡ 8 = length-take-le 8 bs (omega arith) in
    let low : Below 256 (take 8 bs) = below_take 8 bs b in
    ap (λ (j : ℕ). to_le j (of_le (take 8 bs)) ++ bytes_of (words n (drop 8 bs))) (sym m)
    ∙ ap (λ (l : List ℕ). l ++ bytes_of (words n (drop 8 bs))) (to_le_of_le (take 8 bs) low)
    ∙ ap (λ (l : List ℕ). take 8 bs ++ l) (bytes_of_words n (drop 8 bs) (λ i. rw get_or-drop (b (8 + i))) k)
    ∙ sym (take-add 8 (n * 8) bs)
    ∙ ap (λ (j : ℕ). take j bs) e

pub words_bytes_of : (ws : List ℕ) → Below (256 ^ 8) ws → words (length ws) (bytes_of ws) ≡ ws
unfolding bytes_of words
words_bytes_of [] b = refl
words_bytes_of (w ∷ ws) b =
    ap (λ (l : List ℕ). of_le l ∷ words (length ws) (drop 8 (to_le 8 w ++ bytes_of ws))) (take_at (to_le 8 w) (bytes_of ws) 8 (length_to_le 8 w))
    ∙ ap (λ (x : ℕ). x ∷ words (length ws) (drop 8 (to_le 8 w ++ bytes_of ws))) (of_le_to_le 8 w (b 0))
    ∙ ap (λ (l : List ℕ). w ∷ words (length ws) l) (drop_at (to_le 8 w) (bytes_of ws) 8 (length_to_le 8 w))
    ∙ ap (λ (l : List ℕ). w ∷ l) (words_bytes_of ws (λ i. b (suc i)))

-- bytes that were packed into a table, unpacked from it
pub packed_unpacks : (t : List ℕ) (at : ℕ) (src : List ℕ) (from n : ℕ) → Below 256 src → at + n ≤ length t → from + n * 8 ≤ length src
    → bytes_of (part (splice t at (words n (drop from src))) at n) ≡ part src from (n * 8)
packed_unpacks t at src from n b h f =
    let k : length (words n (drop from src)) ≡ n = length_words n (drop from src) in
    ap (λ (m : ℕ). bytes_of (part (splice t at (words n (drop from src))) at m)) (sym k)
    ∙ ap bytes_of (part_splice_same t at (words n (drop from src)) (omega arith))
    ∙ bytes_of_words n (drop from src) (below_drop from src b) (simp length-drop (omega arith))

-- ---- one word stored is eight bytes spliced in

pub bytes_of_append : (vs ws : List ℕ) → bytes_of (vs ++ ws) ≡ bytes_of vs ++ bytes_of ws
unfolding bytes_of
bytes_of_append [] ws = refl
bytes_of_append (v ∷ vs) ws = ap (λ (t : List ℕ). to_le 8 v ++ t) (bytes_of_append vs ws) ∙ sym (append_assoc (to_le 8 v) (bytes_of vs) (bytes_of ws))

pub bytes_of_set : (ws : List ℕ) (k v : ℕ) → k < length ws → bytes_of (set ws k v) ≡ splice (bytes_of ws) (k * 8) (to_le 8 v)
unfolding bytes_of
bytes_of_set [] k v h = absurd (not-suc-le-zero h)
bytes_of_set (w ∷ ws) zero v h =
    ap (λ (t : List ℕ). t ++ bytes_of ws) (sym (splice_whole (to_le 8 w) (to_le 8 v) (length_to_le 8 v ∙ sym (length_to_le 8 w))))
    ∙ sym (splice_left (to_le 8 w) (bytes_of ws) 0 (to_le 8 v) (omega (arith, length_to_le 8 v, length_to_le 8 w)))
bytes_of_set (w ∷ ws) (suc k) v h =
    let e : length (to_le 8 w) + k * 8 ≡ suc k * 8 = omega (arith, length_to_le 8 w) in
    ap (λ (t : List ℕ). to_le 8 w ++ t) (bytes_of_set ws k v (omega arith))
    ∙ sym (splice_right (to_le 8 w) (bytes_of ws) (k * 8) (to_le 8 v) (omega (arith, length_to_le 8 v, length_bytes_of ws)))
    ∙ ap (λ (i : ℕ). splice (to_le 8 w ++ bytes_of ws) i (to_le 8 v)) e

-- ---- a turn of the loop that writes words: t has i of them written from at, and u is t with the next one

pub word_turn : (l t u : List ℕ) (at : ℕ) (ws : List ℕ) (i : ℕ) → t ≡ splice l at (bytes_of (take i ws)) → u ≡ splice t (at + i * 8) (to_le 8 (get_or ws i 0))
    → i < length ws → at + length ws * 8 ≤ length l → u ≡ splice l at (bytes_of (take (i + 1) ws))
unfolding bytes_of
word_turn l t u at ws i p q h f =
    let x : ℕ = get_or ws i 0 in
    let n : length (take i ws) ≡ i = length-take-le i ws (omega arith) in
    let k : length (bytes_of (take i ws)) ≡ i * 8 = omega (arith, length_bytes_of (take i ws)) in
    let e : take (i + 1) ws ≡ take i ws ++ (x ∷ []) = rw add-one (take-suc ws i 0 h) in
    splice_then l t u at (bytes_of (take i ws)) (at + i * 8) (to_le 8 x) p q (omega arith) (omega (arith, length_to_le 8 x))
    ∙ ap (splice l at) (sym (ap bytes_of e ∙ bytes_of_append (take i ws) (x ∷ []) ∙ ap (λ (t : List ℕ). bytes_of (take i ws) ++ t) (append-nil (to_le 8 x))))
