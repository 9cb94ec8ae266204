-- The pending record that a challenge leaves (document 01, "How a connection lives", Request: an existing pending entry keeps its keys and id;
-- only its two times move), and the slot that a first keep-alive leaves (Pending address: the lowest free slot takes the record, with the
-- pending id and the challenge's user data; the window moves with it).
use Rattle.std.specs.Prelude.{ℕ, ◌+◌, false, List, set, Option, Some, None}
use Rattle.serialize.specs.Runs.{splice}
use Rattle.serialize.specs.Le.{words}
use Rattle.times.specs.declared.Time.{Time}
use Rattle.addresses.specs.declared.Address.{Address}
use Rattle.replay_protection.specs.Replay.{fresh}
use Rattle.replay_protection.specs.Ours.{width, protection}
use Rattle.places.specs.Layout.{received_at, sent_at, sequence_at, user_data_at}
use Rattle.places.specs.Finds.{find_address, find_free}
use Rattle.records.specs.declared.Connection.{Connection}
use Rattle.records.specs.Records.{put_time, filled, moved}
use Rattle.server.specs.Held.{held_id, held_expiry, held_timeout, held_send_key, held_receive_key, held_user_data}

-- a new record: what is held of the token, no packet received or sent, a fresh window
abbrev pub newcomer : List ℕ → Address → Time → Connection
newcomer held addr now = record {
  confirmed = false;
  client_id = held_id held;
  send_key = held_send_key held;
  receive_key = held_receive_key held;
  user_data = held_user_data held;
  addr = addr;
  last_packet_received_time = now;
  last_packet_send_time = now;
  timeout_seconds = held_timeout held;
  sequence = 0;
  expire_timestamp = held_expiry held;
  replay_protection = protection (fresh width);
}

-- the lowest free place takes it. Where none is free, which only a table altered by other hands is now, nobody waits.
unfoldable pub by_place : List ℕ → ℕ → List ℕ → Address → Time → Option ℕ → List ℕ
by_place pending m held addr now (Some j) = filled pending m j (newcomer held addr now)
by_place pending m held addr now None = pending

-- the place that the address has already: its two times move
unfoldable pub by_same : List ℕ → ℕ → List ℕ → Address → Time → Option ℕ → List ℕ
by_same pending m held addr now (Some j) = put_time (put_time pending (received_at m j) now) (sent_at m j) now
by_same pending m held addr now None = by_place pending m held addr now (find_free pending m)

abbrev pub waits : List ℕ → ℕ → List ℕ → Address → Time → List ℕ
waits pending m held addr now = by_same pending m held addr now (find_address pending m addr)

-- a packet was sent under the sequence: the record's next counter, and its sent time
abbrev pub sent_under : List ℕ → ℕ → ℕ → ℕ → Time → List ℕ
sent_under t n i sequence now = put_time (set t (sequence_at n i) (sequence + 1)) (sent_at n i) now

-- the slots with, at i, the record of pending place j, the challenge's user data, and its first packet sent
abbrev pub connected : List ℕ → ℕ → ℕ → List ℕ → ℕ → ℕ → List ℕ → ℕ → Time → List ℕ
connected slots n i pending m j held sequence now =
    sent_under (splice (moved slots n i pending m j) (user_data_at n i) (words 32 (held_user_data held))) n i sequence now
