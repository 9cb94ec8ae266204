-- What a caller learns of a callee's answer decides its own: a number goes by a test, and two writes of eight bytes fill sixteen.
use Rattle.std.specs.Prelude.{Option, Some, None, is_some}
use mathlib.Core.Path.{◌≡◌, refl, sym, ap, ◌∙◌}
use mathlib.Core.Bool.{Bool, true, false}
use mathlib.Core.List.{List, ◌++◌}
use Prim.Native.Nat.{ℕ, ◌+◌, ◌*◌}
use native.Mathlib.Omega.{arith}
use lib.ListN.{length, get_or, length-append}
use Rattle.serialize.specs.Choice.{pick}
use Rattle.serialize.specs.Runs.{splice}
use Rattle.serialize.specs.Le.{to_le}
use Rattle.serialize.proofs.Lists.{splice_then, splice_whole}
use Rattle.serialize.proofs.Le.{length_to_le}
use Rattle.addresses.specs.declared.Address.{Address}
use Rattle.addresses.specs.Addresses.{to_bytes, well_formed, refusal, is_found, find_malformed, list_refusal, find_words, is_ours, find_ours, any_ours}

-- two writes into sixteen bytes leave nothing of what stood there
pub bytes_written : (a : Address) (l t u : List ℕ) → length l ≡ 16 → t ≡ splice l 0 (to_le 8 a.low) → u ≡ splice t 8 (to_le 8 a.high) → u ≡ to_bytes a
unfolding to_bytes
bytes_written a l t u n p q =
    let low : length (to_le 8 a.low) ≡ 8 = length_to_le 8 a.low in
    let high : length (to_le 8 a.high) ≡ 8 = length_to_le 8 a.high in
    splice_then l t u 0 (to_le 8 a.low) 8 (to_le 8 a.high) p q (omega arith) (omega arith)
    ∙ splice_whole l (to_le 8 a.low ++ to_le 8 a.high) (simp length-append (omega arith))

module _ (a : Address) where
  pub address_taken : well_formed a.kind a.low a.high ≡ true → 0 ≡ refusal a
  unfolding refusal pick
  address_taken t = ap (λ (b : Bool). pick b 0 19) (sym t)

  pub address_refused : well_formed a.kind a.low a.high ≡ false → 19 ≡ refusal a
  unfolding refusal pick
  address_refused t = ap (λ (b : Bool). pick b 0 19) (sym t)

module _ {f : Option ℕ} where
  found_true : {i : ℕ} → f ≡ Some i → is_found f ≡ true
  unfolding is_found
  found_true e = ap is_found e

  found_false : f ≡ None → is_found f ≡ false
  unfolding is_found
  found_false e = ap is_found e

-- the library's question whether something was found is the definition's
pub some_found : (f : Option ℕ) → is_some f ≡ is_found f
unfolding is_found
some_found (Some i) = refl
some_found None = refl

module _ (list : List ℕ) where
  -- as the code asks it
  pub list_found : is_found (find_malformed list) ≡ true → 19 ≡ list_refusal list
  unfolding list_refusal pick
  list_found e = ap (λ (b : Bool). pick b 19 0) (sym e)

  pub list_unfound : is_found (find_malformed list) ≡ false → 0 ≡ list_refusal list
  unfolding list_refusal pick
  list_unfound e = ap (λ (b : Bool). pick b 19 0) (sym e)

  pub list_refused : {i : ℕ} → find_malformed list ≡ Some i → 19 ≡ list_refusal list
  list_refused e = list_found (found_true e)

  pub list_taken : find_malformed list ≡ None → 0 ≡ list_refusal list
  list_taken e = list_unfound (found_false e)

module _ (list ours : List ℕ) where
  -- address i of the list, as the search for its words among ours answers
  pub address_ours : (i : ℕ) {j : ℕ} → find_words ours (get_or list (3 * i) 0) (get_or list (3 * i + 1) 0) (get_or list (3 * i + 2) 0) ≡ Some j → true ≡ is_ours list ours i
  unfolding is_ours
  address_ours i e = sym (found_true e)

  pub address_other : (i : ℕ) → find_words ours (get_or list (3 * i) 0) (get_or list (3 * i + 1) 0) (get_or list (3 * i + 2) 0) ≡ None → false ≡ is_ours list ours i
  unfolding is_ours
  address_other i e = sym (found_false e)

  pub some_ours : {i : ℕ} → find_ours list ours ≡ Some i → true ≡ any_ours list ours
  unfolding any_ours
  some_ours e = sym (found_true e)

  pub none_ours : find_ours list ours ≡ None → false ≡ any_ours list ours
  unfolding any_ours
  none_ours e = sym (found_false e)
