-- Any two outcomes that satisfy a promise coincide (document 01, "What every promise pins down"): each promise is an equation for the
-- reply, and for the list that a query can write. `Post` is the function's `ensures`, of its arguments a, its result x and its slices at
-- exit e.
use mathlib.Core.Path.{◌≡◌}
use Rattle.serialize.proofs.Determined.{coincide}
use Rattle.queries.specs.Queries.{told}
use Rattle.queries.proofs.clients.connected_clients.Reads as connected-clients
use Rattle.queries.proofs.clients.is_client_connected.Reads as is-client-connected
use Rattle.queries.proofs.clients.client_addr.Reads as client-addr
use Rattle.queries.proofs.clients.time_since_last_received_packet.Reads as time-since-last-received-packet
use Rattle.queries.proofs.clients.user_data.Reads as user-data
use Rattle.queries.proofs.lists.clients_id.Reads as clients-id
use Rattle.queries.proofs.lists.clients_slot.Reads as clients-slot
use Rattle.queries.proofs.lists.addresses.Reads as addresses
use Rattle.queries.proofs.server_itself.max_clients.Reads as max-clients
use Rattle.queries.proofs.server_itself.current_time.Reads as current-time
use Rattle.queries.proofs.Reply.number.Reads as number
use Rattle.queries.proofs.Reply.words.Reads as words

pub connected_clients_determined : (κs : _) (a : _) (x y : _) (e f : _) → connected-clients.Post κs a x e → connected-clients.Post κs a y f → x ≡ y
connected_clients_determined κs a x y e f p q = coincide p q

pub is_client_connected_determined : (κs : _) (a : _) (x y : _) (e f : _) → is-client-connected.Post κs a x e → is-client-connected.Post κs a y f → x ≡ y
is_client_connected_determined κs a x y e f p q = coincide p q

pub client_addr_determined : (κs : _) (a : _) (x y : _) (e f : _) → client-addr.Post κs a x e → client-addr.Post κs a y f → x ≡ y
client_addr_determined κs a x y e f p q = coincide p q

pub time_since_last_received_packet_determined : (κs : _) (a : _) (x y : _) (e f : _) → time-since-last-received-packet.Post κs a x e → time-since-last-received-packet.Post κs a y f → x ≡ y
time_since_last_received_packet_determined κs a x y e f p q = coincide p q

pub user_data_determined : (κs : _) (a : _) (x y : _) (e f : _) → user-data.Post κs a x e → user-data.Post κs a y f → told x e.1.1.1.0.now ≡ told y f.1.1.1.0.now
user_data_determined κs a x y e f p q = coincide p q

pub clients_id_determined : (κs : _) (a : _) (x y : _) (e f : _) → clients-id.Post κs a x e → clients-id.Post κs a y f → told x e.1.1.0.now ≡ told y f.1.1.0.now
clients_id_determined κs a x y e f p q = coincide p q

pub clients_slot_determined : (κs : _) (a : _) (x y : _) (e f : _) → clients-slot.Post κs a x e → clients-slot.Post κs a y f → told x e.1.1.0.now ≡ told y f.1.1.0.now
clients_slot_determined κs a x y e f p q = coincide p q

pub addresses_determined : (κs : _) (a : _) (x y : _) (e f : _) → addresses.Post κs a x e → addresses.Post κs a y f → told x e.1.1.0.now ≡ told y f.1.1.0.now
addresses_determined κs a x y e f p q = coincide p q

pub max_clients_determined : (κs : _) (a : _) (x y : _) (e f : _) → max-clients.Post κs a x e → max-clients.Post κs a y f → x ≡ y
max_clients_determined κs a x y e f p q = coincide p q

pub current_time_determined : (κs : _) (a : _) (x y : _) (e f : _) → current-time.Post κs a x e → current-time.Post κs a y f → x ≡ y
current_time_determined κs a x y e f p q = coincide p q

pub number_determined : (κs : _) (a : _) (x y : _) (e f : _) → number.Post κs a x e → number.Post κs a y f → x ≡ y
number_determined κs a x y e f p q = coincide p q

pub words_determined : (κs : _) (a : _) (x y : _) (e f : _) → words.Post κs a x e → words.Post κs a y f → x ≡ y
words_determined κs a x y e f p q = coincide p q
