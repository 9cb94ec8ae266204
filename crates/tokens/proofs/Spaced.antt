-- Words of a text by their place: where one ends, and where the next starts.
use Rattle.std.proofs.Common.{◌≡◌, ℕ, suc, ◌+◌, ◌<◌, ◌≤◌, Bool, true, false, eqb, List, [], ◌∷◌, length, get_or, take, drop, sym, refl, ap, ◌∙◌, add-one, arith, drop_of_length-le, drop-cons, drop-drop, eq-eqb, ne_eqb}
use Rattle.serialize.specs.Choice.{pick}
use Rattle.tokens.specs.Text.{word, after_word, after_sign_of}

-- ---- a word is the start of its text

word_take_by : (c : ℕ) (cs : List ℕ) (b : Bool) → take (length (word cs)) cs ≡ word cs → take (length (pick b [] (c ∷ word cs))) (c ∷ cs) ≡ pick b [] (c ∷ word cs)
unfolding pick
word_take_by c cs true h = refl
word_take_by c cs false h = ap (λ (t : List ℕ). c ∷ t) h

pub word_take : (l : List ℕ) → take (length (word l)) l ≡ word l
unfolding word
word_take [] = refl
word_take (c ∷ cs) = word_take_by c cs (eqb c 32) (word_take cs)

-- ---- and the rest starts one further

after_by : (c : ℕ) (cs : List ℕ) (b : Bool) → after_word cs ≡ drop (suc (length (word cs))) cs → pick b cs (after_word cs) ≡ drop (suc (length (pick b [] (c ∷ word cs)))) (c ∷ cs)
unfolding pick
after_by c cs true h = refl
after_by c cs false h = h

pub after_drop : (l : List ℕ) → after_word l ≡ drop (suc (length (word l))) l
unfolding word after_word
after_drop [] = refl
after_drop (c ∷ cs) = after_by c cs (eqb c 32) (after_drop cs)

-- ---- by an index: a space ends the word, another character is of it, and so is the text's end

pub cons_at : (l : List ℕ) (i : ℕ) → i < length l → drop i l ≡ get_or l i 0 ∷ drop (i + 1) l
cons_at l i h = rw (add-one, drop-cons l i 0)

pub word_ends : (l : List ℕ) (i : ℕ) → i < length l → get_or l i 0 ≡ 32 → length (word (drop i l)) ≡ 0
unfolding word pick
word_ends l i h e = ap (λ (t : List ℕ). length (word t)) (cons_at l i h) ∙ rw (eq-eqb (get_or l i 0) 32 e) refl

pub word_goes_on : (l : List ℕ) (i : ℕ) → i < length l → (get_or l i 0 ≡ 32 → ⊥) → length (word (drop i l)) ≡ length (word (drop (i + 1) l)) + 1
unfolding word pick
word_goes_on l i h d = ap (λ (t : List ℕ). length (word t)) (cons_at l i h) ∙ rw (ne_eqb (get_or l i 0) 32 d) (sym (add-one _))

pub word_none : (l : List ℕ) (i : ℕ) → length l ≤ i → length (word (drop i l)) ≡ 0
unfolding word
word_none l i h = ap (λ (t : List ℕ). length (word t)) (drop_of_length-le l h)

-- ---- the next word's place

pub after_at : (l : List ℕ) (at end : ℕ) → end ≡ at + length (word (drop at l)) → after_word (drop at l) ≡ drop (end + 1) l
after_at l at end e =
    let q : at + suc (length (word (drop at l))) ≡ end + 1 = omega (arith, add-one (length (word (drop at l)))) in
    after_drop (drop at l) ∙ drop-drop (suc (length (word (drop at l)))) at l ∙ ap (λ (k : ℕ). drop k l) q

pub after_end : (l : List ℕ) (at end : ℕ) → end ≡ at + length (word (drop at l)) → length l ≤ end → drop end l ≡ after_word (drop at l)
after_end l at end e h = drop_of_length-le l h ∙ sym (drop_of_length-le l {i = end + 1} (omega arith)) ∙ sym (after_at l at end e)

-- ---- the sign, likewise

pub sign_here : (l : List ℕ) (i : ℕ) → i < length l → get_or l i 0 ≡ 61 → after_sign_of (drop i l) ≡ 1
unfolding after_sign_of pick
sign_here l i h e = ap after_sign_of (cons_at l i h) ∙ rw (eq-eqb (get_or l i 0) 61 e) refl

pub sign_later : (l : List ℕ) (i : ℕ) → i < length l → (get_or l i 0 ≡ 61 → ⊥) → after_sign_of (drop i l) ≡ suc (after_sign_of (drop (i + 1) l))
unfolding after_sign_of pick
sign_later l i h d = ap after_sign_of (cons_at l i h) ∙ rw (ne_eqb (get_or l i 0) 61 d) refl

pub sign_nowhere : (l : List ℕ) (i : ℕ) → length l ≤ i → after_sign_of (drop i l) ≡ 0
unfolding after_sign_of
sign_nowhere l i h = ap after_sign_of (drop_of_length-le l h)
