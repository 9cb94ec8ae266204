-- Whole records (document 01, "How the host answers": filling marks 1, emptying marks 0 and changes nothing else).
use Rattle.std.specs.Prelude.{ℕ, ◌+◌, Bool, List, [], ◌∷◌, ◌++◌, set}
use Rattle.serialize.specs.Choice.{pick}
use Rattle.serialize.specs.Runs.{part, splice}
use Rattle.serialize.specs.Le.{words, bytes_of}
use Rattle.times.specs.declared.Time.{Time}
use Rattle.times.specs.Times.{time}
use Rattle.addresses.specs.Addresses.{words_of}
use Rattle.replay_protection.specs.Ours.{window_of}
use Rattle.records.specs.declared.Connection.{Connection}
use Rattle.places.specs.Layout.{id_at, address_at, body_at, body_words, id_of, word_of}

-- ---- fields of more than a word

-- two words as a time, and a time stored in two words
abbrev pub time_at : List ℕ → ℕ → Time
time_at t at = time (word_of t at) (word_of t (at + 1))

abbrev pub put_time : List ℕ → ℕ → Time → List ℕ
put_time t at v = set (set t at v.secs) (at + 1) v.nanos

-- n words as their bytes
abbrev pub bytes_at : List ℕ → ℕ → ℕ → List ℕ
bytes_at t at n = bytes_of (part t at n)

-- ---- whole records

unfoldable pub bit : Bool → ℕ
bit b = pick b 1 0

-- two times and three numbers, in a row
abbrev pub numbers_of : Connection → List ℕ
numbers_of c =
    c.last_packet_received_time.secs ∷ c.last_packet_received_time.nanos
    ∷ c.last_packet_send_time.secs ∷ c.last_packet_send_time.nanos
    ∷ c.timeout_seconds ∷ c.sequence ∷ c.expire_timestamp ∷ []

-- the words of a body
unfoldable pub body_of : Connection → List ℕ
body_of c =
    (bit c.confirmed ∷ []) ++ words 4 c.send_key ++ words 4 c.receive_key ++ numbers_of c ++ words 32 c.user_data
    ++ ((window_of c.replay_protection).most ∷ (window_of c.replay_protection).ring)

-- the table with a record at place i, given as its id, the words of its address and its body
unfoldable pub placed : List ℕ → ℕ → ℕ → ℕ → List ℕ → List ℕ → List ℕ
placed t n i id addr body = set (splice (splice (set t (id_at n i) id) (address_at n i) addr) (body_at n i) body) i 1

abbrev pub filled : List ℕ → ℕ → ℕ → Connection → List ℕ
filled t n i c = placed t n i c.client_id (words_of c.addr) (body_of c)

-- emptying marks 0 and changes nothing else
abbrev pub emptied : List ℕ → ℕ → List ℕ
emptied t i = set t i 0

-- the slots with, at place i, the record at place j of the pending ones: id, address and body, window and all
abbrev pub moved : List ℕ → ℕ → ℕ → List ℕ → ℕ → ℕ → List ℕ
moved slots n i pending m j = placed slots n i (id_of pending m j) (part pending (address_at m j) 3) (part pending (body_at m j) body_words)
