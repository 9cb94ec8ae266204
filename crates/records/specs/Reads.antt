-- What it means that a place reads as a record: every reader of `fields` gives that record's value.
use Rattle.std.specs.Prelude.{ℕ, ◌*◌, ◌%◌, ◌<◌, ◌≡◌, true, not, List, length, eqb}
use Rattle.serialize.specs.Runs.{Below}
use Rattle.replay_protection.specs.Stored.{window_at}
use Rattle.replay_protection.specs.Ours.{width, window_of}
use Rattle.places.specs.Layout.{used_at, word_of, id_of, address_of, confirmed_at, send_key_at, receive_key_at, received_at, sent_at, timeout_at, sequence_at, expiry_at, user_data_at, window_place}
use Rattle.records.specs.declared.Connection.{Connection}
use Rattle.records.specs.Records.{time_at, bytes_at}

-- what every `Connection` of the code has by its type
pub record Sized (c : Connection) : Type 0 where
  pub kind : c.addr.kind < 256
  pub port : c.addr.port < 65536
  pub timeout : c.timeout_seconds < 4294967296
  pub send : length c.send_key ≡ 4 * 8
  pub send_bytes : Below 256 c.send_key
  pub receive : length c.receive_key ≡ 4 * 8
  pub receive_bytes : Below 256 c.receive_key
  pub user : length c.user_data ≡ 32 * 8
  pub user_bytes : Below 256 c.user_data
  pub ring : length (window_of c.replay_protection).ring ≡ width

pub record ReadsAs (t : List ℕ) (n i : ℕ) (c : Connection) : Type 0 where
  pub used : used_at t i ≡ true
  pub client_id : id_of t n i ≡ c.client_id
  pub address : address_of t n i ≡ c.addr
  pub confirmed : not (eqb (word_of t (confirmed_at n i)) 0) ≡ c.confirmed
  pub send_key : bytes_at t (send_key_at n i) 4 ≡ c.send_key
  pub receive_key : bytes_at t (receive_key_at n i) 4 ≡ c.receive_key
  pub received : time_at t (received_at n i) ≡ c.last_packet_received_time
  pub sent : time_at t (sent_at n i) ≡ c.last_packet_send_time
  pub timeout : word_of t (timeout_at n i) % 4294967296 ≡ c.timeout_seconds
  pub sequence : word_of t (sequence_at n i) ≡ c.sequence
  pub expiry : word_of t (expiry_at n i) ≡ c.expire_timestamp
  pub user_data : bytes_at t (user_data_at n i) 32 ≡ c.user_data
  pub replay : window_at width t (window_place n i) ≡ window_of c.replay_protection
