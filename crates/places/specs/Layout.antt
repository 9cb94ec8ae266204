-- A table of n places as words (document 01, "What must change shape": a lent table of places; its layout is ours): n marks, n ids, n
-- addresses of three words, n bodies. A body: confirmed, two keys of 4, received and sent time of 2, timeout, sequence, expiry, user data
-- of 32, the window.
use Rattle.std.specs.Prelude.{ℕ, ◌+◌, ◌*◌, ◌/◌, ◌%◌, ◌≤◌, ◌≡◌, Bool, not, List, length, get_or, eqb, ltb}
use Rattle.serialize.specs.Choice.{pick}
use Rattle.addresses.specs.declared.Address.{Address}
use Rattle.addresses.specs.Addresses.{of_words}
use Rattle.replay_protection.specs.Ours.{width}

-- ---- lengths

-- words of a body, and of a place
abbrev pub body_words : ℕ
body_words = 49 + width

abbrev pub place_words : ℕ
place_words = 5 + body_words

abbrev pub count : List ℕ → ℕ
count t = length t / place_words

-- document 01's 23: no whole number of places, none, or over most; 0 otherwise
unfoldable pub places_refusal : List ℕ → ℕ → ℕ
places_refusal t most = pick (not (eqb (length t % place_words) 0)) 23 (pick (eqb (count t) 0) 23 (pick (ltb most (count t)) 23 0))

-- n places, as set-up has tested them
pub record Shaped (t : List ℕ) (n : ℕ) : Type 0 where
  pub few : n ≤ 4096
  pub long : length t ≡ n * place_words

-- ---- where things lie, in a table of n places; the mark of place i is word i

abbrev pub id_at : ℕ → ℕ → ℕ
id_at n i = n + i

abbrev pub address_at : ℕ → ℕ → ℕ
address_at n i = 2 * n + 3 * i

abbrev pub body_at : ℕ → ℕ → ℕ
body_at n i = 5 * n + body_words * i

abbrev pub confirmed_at : ℕ → ℕ → ℕ
confirmed_at n i = body_at n i + 0

abbrev pub send_key_at : ℕ → ℕ → ℕ
send_key_at n i = body_at n i + 1

abbrev pub receive_key_at : ℕ → ℕ → ℕ
receive_key_at n i = body_at n i + 5

abbrev pub received_at : ℕ → ℕ → ℕ
received_at n i = body_at n i + 9

abbrev pub sent_at : ℕ → ℕ → ℕ
sent_at n i = body_at n i + 11

abbrev pub timeout_at : ℕ → ℕ → ℕ
timeout_at n i = body_at n i + 13

abbrev pub sequence_at : ℕ → ℕ → ℕ
sequence_at n i = body_at n i + 14

abbrev pub expiry_at : ℕ → ℕ → ℕ
expiry_at n i = body_at n i + 15

abbrev pub user_data_at : ℕ → ℕ → ℕ
user_data_at n i = body_at n i + 16

abbrev pub window_place : ℕ → ℕ → ℕ
window_place n i = body_at n i + 48

-- ---- what stands there

-- document 01: a mark of 0 is empty and any other is used
abbrev pub used_mark : ℕ → Bool
used_mark m = not (eqb m 0)

abbrev pub used_at : List ℕ → ℕ → Bool
used_at t i = used_mark (get_or t i 0)

abbrev pub word_of : List ℕ → ℕ → ℕ
word_of t at = get_or t at 0

abbrev pub id_of : List ℕ → ℕ → ℕ → ℕ
id_of t n i = word_of t (id_at n i)

abbrev pub address_of : List ℕ → ℕ → ℕ → Address
address_of t n i = of_words (word_of t (address_at n i)) (word_of t (address_at n i + 1)) (word_of t (address_at n i + 2))
