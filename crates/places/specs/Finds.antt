-- The searches (document 01, "How the host answers": searches by address, id or free place take the lowest; a connected count equals the
-- used marks).
use Rattle.std.specs.Prelude.{ℕ, zero, suc, ◌+◌, Bool, ◌&&◌, List, get_or, eqb, Option}
use Rattle.serialize.specs.Choice.{pick}
use Rattle.serialize.specs.Search.{first_from}
use Rattle.addresses.specs.declared.Address.{Address}
use Rattle.addresses.specs.Addresses.{first_word, has_words}
use Rattle.places.specs.Layout.{used_at, id_of, address_at}

-- place i is used and its address is these three words
unfoldable pub has_address : List ℕ → ℕ → ℕ → ℕ → ℕ → ℕ → Bool
has_address t n first low high i = used_at t i && has_words t (address_at n i) first low high

abbrev pub find_address : List ℕ → ℕ → Address → Option ℕ
find_address t n a = first_from (has_address t n (first_word a) a.low a.high) 0 n

-- place i is used and has the id
unfoldable pub has_id : List ℕ → ℕ → ℕ → ℕ → Bool
has_id t n id i = used_at t i && eqb (id_of t n i) id

abbrev pub find_id : List ℕ → ℕ → ℕ → Option ℕ
find_id t n id = first_from (has_id t n id) 0 n

abbrev pub free_at : List ℕ → ℕ → Bool
free_at t i = eqb (get_or t i 0) 0

abbrev pub find_free : List ℕ → ℕ → Option ℕ
find_free t n = first_from (free_at t) 0 n

-- 1 for a used mark, 0 for an empty one
unfoldable pub count_one : ℕ → ℕ
count_one mark = pick (eqb mark 0) 0 1

-- how many of the first n places are used
unfoldable pub used_count : List ℕ → ℕ → ℕ
used_count t zero = 0
used_count t (suc n) = used_count t n + count_one (get_or t n 0)
