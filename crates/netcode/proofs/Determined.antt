-- Any two outcomes that satisfy a promise coincide (document 01, "What every promise pins down"): each promise is an equation for the number
-- and for all that a call can write. `Post` is the function's `ensures`, of its arguments a, its result x and its slices at exit e. The tests of
-- the short way (`look`, `is_payload`, `can_send`, `is_sent`, `is_quiet`) are left out: they may say no to anything, and the call then comes to the
-- same the general way.
use mathlib.Core.Path.{◌≡◌}
use mathlib.Core.List.{[]}
use Rattle.serialize.proofs.Determined.{coincide}
use Rattle.netcode.specs.Told.{desk}
use Rattle.netcode.specs.Calls.{started, stepped, moved, wrote, booked, spoke, attended, replied}
use Rattle.netcode.specs.Quick.{heard}
use Rattle.netcode.specs.Speaking.{noted}
use Rattle.netcode.proofs.sizes.netcode_slots_words.Reads as netcode-slots-words
use Rattle.netcode.proofs.sizes.netcode_pending_words.Reads as netcode-pending-words
use Rattle.netcode.proofs.sizes.netcode_entries_bytes.Reads as netcode-entries-bytes
use Rattle.netcode.proofs.sizes.netcode_addresses_words.Reads as netcode-addresses-words
use Rattle.netcode.proofs.standing.netcode_set_up.Reads as netcode-set-up
use Rattle.netcode.proofs.standing.netcode_update.Reads as netcode-update
use Rattle.netcode.proofs.standing.netcode_set_max_clients.Reads as netcode-set-max-clients
use Rattle.netcode.proofs.datagrams.netcode_process_packet.Reads as netcode-process-packet
use Rattle.netcode.proofs.datagrams.netcode_answer_open.Reads as netcode-answer-open
use Rattle.netcode.proofs.datagrams.netcode_answer_token.Reads as netcode-answer-token
use Rattle.netcode.proofs.datagrams.netcode_answer_seal.Reads as netcode-answer-seal
use Rattle.netcode.proofs.clients.netcode_generate_payload_packet.Reads as netcode-generate-payload-packet
use Rattle.netcode.proofs.clients.netcode_update_client.Reads as netcode-update-client
use Rattle.netcode.proofs.clients.netcode_disconnect.Reads as netcode-disconnect
use Rattle.netcode.proofs.asking.netcode_server_itself.Reads as netcode-server-itself
use Rattle.netcode.proofs.asking.netcode_connected_clients.Reads as netcode-connected-clients
use Rattle.netcode.proofs.asking.netcode_is_client_connected.Reads as netcode-is-client-connected
use Rattle.netcode.proofs.asking.netcode_client_addr.Reads as netcode-client-addr
use Rattle.netcode.proofs.asking.netcode_time_since_last_received_packet.Reads as netcode-time-since-last-received-packet
use Rattle.netcode.proofs.asking.netcode_user_data.Reads as netcode-user-data
use Rattle.netcode.proofs.asking.netcode_clients_id.Reads as netcode-clients-id
use Rattle.netcode.proofs.asking.netcode_clients_slot.Reads as netcode-clients-slot
use Rattle.netcode.proofs.asking.netcode_addresses.Reads as netcode-addresses
use Rattle.netcode.proofs.stages.stage_in.Reads as stage-in
use Rattle.netcode.proofs.stages.stage_words.Reads as stage-words
use Rattle.netcode.proofs.record.read.Reads as read
use Rattle.netcode.proofs.record.places_only.Reads as places-only
use Rattle.netcode.proofs.record.tables_refusal.Reads as tables-refusal
use Rattle.netcode.proofs.record.lay.Reads as lay
use Rattle.netcode.proofs.record.lay_whole.Reads as lay-whole
use Rattle.netcode.proofs.told.lay_answer.Reads as lay-answer
use Rattle.netcode.proofs.told.lay_ask.Reads as lay-ask
use Rattle.netcode.proofs.told.lay_turn.Reads as lay-turn
use Rattle.netcode.proofs.told.lay_step.Reads as lay_step
use Rattle.netcode.proofs.steps.lay_asking.Reads as lay-asking
use Rattle.netcode.proofs.steps.lay_quiet.Reads as lay-quiet
use Rattle.netcode.proofs.hearing.ask_open.Reads as ask-open
use Rattle.netcode.proofs.hearing.hear.Reads as hear
use Rattle.netcode.proofs.speaking.send_payload.Reads as send-payload
use Rattle.netcode.proofs.speaking.note_sent.Reads as note-sent
use Rattle.netcode.proofs.speaking.rest.Reads as rest

pub netcode_slots_words_determined : (κs : _) (a : _) (x y : _) (e f : _) → netcode-slots-words.Post κs a x e → netcode-slots-words.Post κs a y f
    → x ≡ y
netcode_slots_words_determined κs a x y e f p q = coincide p q

pub netcode_pending_words_determined : (κs : _) (a : _) (x y : _) (e f : _) → netcode-pending-words.Post κs a x e → netcode-pending-words.Post κs a y f
    → x ≡ y
netcode_pending_words_determined κs a x y e f p q = coincide p q

pub netcode_entries_bytes_determined : (κs : _) (a : _) (x y : _) (e f : _) → netcode-entries-bytes.Post κs a x e → netcode-entries-bytes.Post κs a y f
    → x ≡ y
netcode_entries_bytes_determined κs a x y e f p q = coincide p q

pub netcode_addresses_words_determined : (κs : _) (a : _) (x y : _) (e f : _) → netcode-addresses-words.Post κs a x e → netcode-addresses-words.Post κs a y f
    → x ≡ y
netcode_addresses_words_determined κs a x y e f p q = coincide p q

pub netcode_set_up_determined : (κs : _) (a : _) (x y : _) (e f : _) → netcode-set-up.Post κs a x e → netcode-set-up.Post κs a y f
    → started x e.0.now e.1.1.1.1.1.1.1.1.0.now e.1.1.1.1.1.1.1.1.1.0.now e.1.1.1.1.1.1.1.1.1.1.0.now ≡ started y f.0.now f.1.1.1.1.1.1.1.1.0.now f.1.1.1.1.1.1.1.1.1.0.now f.1.1.1.1.1.1.1.1.1.1.0.now
netcode_set_up_determined κs a x y e f p q = coincide p q

pub netcode_update_determined : (κs : _) (a : _) (x y : _) (e f : _) → netcode-update.Post κs a x e → netcode-update.Post κs a y f
    → stepped e.0.now e.1.1.1.1.0.now e.1.0.now ≡ stepped f.0.now f.1.1.1.1.0.now f.1.0.now
netcode_update_determined κs a x y e f p q = coincide p q

pub netcode_set_max_clients_determined : (κs : _) (a : _) (x y : _) (e f : _) → netcode-set-max-clients.Post κs a x e → netcode-set-max-clients.Post κs a y f
    → stepped e.0.now e.1.1.0.now [] ≡ stepped f.0.now f.1.1.0.now []
netcode_set_max_clients_determined κs a x y e f p q = coincide p q

pub netcode_process_packet_determined : (κs : _) (a : _) (x y : _) (e f : _) → netcode-process-packet.Post κs a x e → netcode-process-packet.Post κs a y f
    → moved (desk e.0.now e.1.1.1.1.1.1.1.1.0.now e.1.1.1.1.1.1.1.1.1.0.now) e.1.1.1.1.0.now e.1.1.1.1.1.0.now ≡ moved (desk f.0.now f.1.1.1.1.1.1.1.1.0.now f.1.1.1.1.1.1.1.1.1.0.now) f.1.1.1.1.0.now f.1.1.1.1.1.0.now
netcode_process_packet_determined κs a x y e f p q = coincide p q

pub netcode_answer_open_determined : (κs : _) (a : _) (x y : _) (e f : _) → netcode-answer-open.Post κs a x e → netcode-answer-open.Post κs a y f
    → wrote (moved (desk e.0.now e.1.1.1.1.1.1.1.0.now e.1.1.1.1.1.1.1.1.0.now) e.1.1.0.now e.1.1.1.0.now) e.1.1.1.1.0.now e.1.1.1.1.1.0.now ≡ wrote (moved (desk f.0.now f.1.1.1.1.1.1.1.0.now f.1.1.1.1.1.1.1.1.0.now) f.1.1.0.now f.1.1.1.0.now) f.1.1.1.1.0.now f.1.1.1.1.1.0.now
netcode_answer_open_determined κs a x y e f p q = coincide p q

pub netcode_answer_token_determined : (κs : _) (a : _) (x y : _) (e f : _) → netcode-answer-token.Post κs a x e → netcode-answer-token.Post κs a y f
    → booked (wrote (moved (desk e.0.now e.1.1.1.1.1.1.1.1.1.1.1.1.1.1.1.0.now e.1.1.1.1.1.1.1.1.1.1.1.1.1.1.1.1.0.now) a.1.1.1.1.1.1.1.1.0.now e.1.1.1.1.1.1.1.1.1.0.now) e.1.1.1.1.1.1.1.1.1.1.1.1.0.now e.1.1.1.1.1.1.1.1.1.1.1.1.1.0.now) e.1.1.1.1.1.1.1.1.1.1.0.now ≡ booked (wrote (moved (desk f.0.now f.1.1.1.1.1.1.1.1.1.1.1.1.1.1.1.0.now f.1.1.1.1.1.1.1.1.1.1.1.1.1.1.1.1.0.now) a.1.1.1.1.1.1.1.1.0.now f.1.1.1.1.1.1.1.1.1.0.now) f.1.1.1.1.1.1.1.1.1.1.1.1.0.now f.1.1.1.1.1.1.1.1.1.1.1.1.1.0.now) f.1.1.1.1.1.1.1.1.1.1.0.now
netcode_answer_token_determined κs a x y e f p q = coincide p q

pub netcode_answer_seal_determined : (κs : _) (a : _) (x y : _) (e f : _) → netcode-answer-seal.Post κs a x e → netcode-answer-seal.Post κs a y f
    → moved (desk e.0.now e.1.1.1.1.1.1.0.now e.1.1.1.1.1.1.1.0.now) e.1.1.0.now e.1.1.1.0.now ≡ moved (desk f.0.now f.1.1.1.1.1.1.0.now f.1.1.1.1.1.1.1.0.now) f.1.1.0.now f.1.1.1.0.now
netcode_answer_seal_determined κs a x y e f p q = coincide p q

pub netcode_generate_payload_packet_determined : (κs : _) (a : _) (x y : _) (e f : _) → netcode-generate-payload-packet.Post κs a x e → netcode-generate-payload-packet.Post κs a y f
    → spoke (desk e.0.now e.1.1.1.1.1.0.now e.1.1.1.1.1.1.0.now) e.1.1.1.1.0.now ≡ spoke (desk f.0.now f.1.1.1.1.1.0.now f.1.1.1.1.1.1.0.now) f.1.1.1.1.0.now
netcode_generate_payload_packet_determined κs a x y e f p q = coincide p q

pub netcode_update_client_determined : (κs : _) (a : _) (x y : _) (e f : _) → netcode-update-client.Post κs a x e → netcode-update-client.Post κs a y f
    → attended (desk e.0.now e.1.1.1.1.0.now e.1.1.1.1.1.0.now) e.1.1.0.now e.1.1.1.0.now ≡ attended (desk f.0.now f.1.1.1.1.0.now f.1.1.1.1.1.0.now) f.1.1.0.now f.1.1.1.0.now
netcode_update_client_determined κs a x y e f p q = coincide p q

pub netcode_disconnect_determined : (κs : _) (a : _) (x y : _) (e f : _) → netcode-disconnect.Post κs a x e → netcode-disconnect.Post κs a y f
    → attended (desk e.0.now e.1.1.1.1.0.now e.1.1.1.1.1.0.now) e.1.1.0.now e.1.1.1.0.now ≡ attended (desk f.0.now f.1.1.1.1.0.now f.1.1.1.1.1.0.now) f.1.1.0.now f.1.1.1.0.now
netcode_disconnect_determined κs a x y e f p q = coincide p q

pub netcode_server_itself_determined : (κs : _) (a : _) (x y : _) (e f : _) → netcode-server-itself.Post κs a x e → netcode-server-itself.Post κs a y f
    → e.1.0.now ≡ f.1.0.now
netcode_server_itself_determined κs a x y e f p q = coincide p q

pub netcode_connected_clients_determined : (κs : _) (a : _) (x y : _) (e f : _) → netcode-connected-clients.Post κs a x e → netcode-connected-clients.Post κs a y f
    → e.1.1.0.now ≡ f.1.1.0.now
netcode_connected_clients_determined κs a x y e f p q = coincide p q

pub netcode_is_client_connected_determined : (κs : _) (a : _) (x y : _) (e f : _) → netcode-is-client-connected.Post κs a x e → netcode-is-client-connected.Post κs a y f
    → e.1.1.1.0.now ≡ f.1.1.1.0.now
netcode_is_client_connected_determined κs a x y e f p q = coincide p q

pub netcode_client_addr_determined : (κs : _) (a : _) (x y : _) (e f : _) → netcode-client-addr.Post κs a x e → netcode-client-addr.Post κs a y f
    → e.1.1.1.0.now ≡ f.1.1.1.0.now
netcode_client_addr_determined κs a x y e f p q = coincide p q

pub netcode_time_since_last_received_packet_determined : (κs : _) (a : _) (x y : _) (e f : _) → netcode-time-since-last-received-packet.Post κs a x e → netcode-time-since-last-received-packet.Post κs a y f
    → e.1.1.1.0.now ≡ f.1.1.1.0.now
netcode_time_since_last_received_packet_determined κs a x y e f p q = coincide p q

pub netcode_user_data_determined : (κs : _) (a : _) (x y : _) (e f : _) → netcode-user-data.Post κs a x e → netcode-user-data.Post κs a y f
    → replied e.1.1.1.1.0.now e.1.1.1.0.now ≡ replied f.1.1.1.1.0.now f.1.1.1.0.now
netcode_user_data_determined κs a x y e f p q = coincide p q

pub netcode_clients_id_determined : (κs : _) (a : _) (x y : _) (e f : _) → netcode-clients-id.Post κs a x e → netcode-clients-id.Post κs a y f
    → replied e.1.1.1.0.now e.1.1.0.now ≡ replied f.1.1.1.0.now f.1.1.0.now
netcode_clients_id_determined κs a x y e f p q = coincide p q

pub netcode_clients_slot_determined : (κs : _) (a : _) (x y : _) (e f : _) → netcode-clients-slot.Post κs a x e → netcode-clients-slot.Post κs a y f
    → replied e.1.1.1.0.now e.1.1.0.now ≡ replied f.1.1.1.0.now f.1.1.0.now
netcode_clients_slot_determined κs a x y e f p q = coincide p q

pub netcode_addresses_determined : (κs : _) (a : _) (x y : _) (e f : _) → netcode-addresses.Post κs a x e → netcode-addresses.Post κs a y f
    → replied e.1.1.1.0.now e.1.1.0.now ≡ replied f.1.1.1.0.now f.1.1.0.now
netcode_addresses_determined κs a x y e f p q = coincide p q

pub stage_in_determined : (κs : _) (a : _) (x y : _) (e f : _) → stage-in.Post κs a x e → stage-in.Post κs a y f
    → x ≡ y
stage_in_determined κs a x y e f p q = coincide p q

pub stage_words_determined : (κs : _) (a : _) (x y : _) (e f : _) → stage-words.Post κs a x e → stage-words.Post κs a y f
    → x ≡ y
stage_words_determined κs a x y e f p q = coincide p q

pub read_determined : (κs : _) (a : _) (x y : _) (e f : _) → read.Post κs a x e → read.Post κs a y f
    → x ≡ y
read_determined κs a x y e f p q = coincide p q

pub places_only_determined : (κs : _) (a : _) (x y : _) (e f : _) → places-only.Post κs a x e → places-only.Post κs a y f
    → x ≡ y
places_only_determined κs a x y e f p q = coincide p q

pub tables_refusal_determined : (κs : _) (a : _) (x y : _) (e f : _) → tables-refusal.Post κs a x e → tables-refusal.Post κs a y f
    → x ≡ y
tables_refusal_determined κs a x y e f p q = coincide p q

pub lay_determined : (κs : _) (a : _) (x y : _) (e f : _) → lay.Post κs a x e → lay.Post κs a y f
    → e.0.now ≡ f.0.now
lay_determined κs a x y e f p q = coincide p q

pub lay_whole_determined : (κs : _) (a : _) (x y : _) (e f : _) → lay-whole.Post κs a x e → lay-whole.Post κs a y f
    → e.0.now ≡ f.0.now
lay_whole_determined κs a x y e f p q = coincide p q

pub lay_answer_determined : (κs : _) (a : _) (x y : _) (e f : _) → lay-answer.Post κs a x e → lay-answer.Post κs a y f
    → e.0.now ≡ f.0.now
lay_answer_determined κs a x y e f p q = coincide p q

pub lay_ask_determined : (κs : _) (a : _) (x y : _) (e f : _) → lay-ask.Post κs a x e → lay-ask.Post κs a y f
    → e.0.now ≡ f.0.now
lay_ask_determined κs a x y e f p q = coincide p q

pub lay_turn_determined : (κs : _) (a : _) (x y : _) (e f : _) → lay-turn.Post κs a x e → lay-turn.Post κs a y f
    → desk e.1.0.now e.1.1.0.now e.1.1.1.0.now ≡ desk f.1.0.now f.1.1.0.now f.1.1.1.0.now
lay_turn_determined κs a x y e f p q = coincide p q

pub lay_step_determined : (κs : _) (a : _) (x y : _) (e f : _) → lay_step.Post κs a x e → lay_step.Post κs a y f
    → stepped e.1.0.now e.1.1.0.now [] ≡ stepped f.1.0.now f.1.1.0.now []
lay_step_determined κs a x y e f p q = coincide p q

pub lay_asking_determined : (κs : _) (a : _) (x y : _) (e f : _) → lay-asking.Post κs a x e → lay-asking.Post κs a y f
    → desk e.0.now e.1.1.1.1.1.1.0.now e.1.1.1.1.1.1.1.0.now ≡ desk f.0.now f.1.1.1.1.1.1.0.now f.1.1.1.1.1.1.1.0.now
lay_asking_determined κs a x y e f p q = coincide p q

pub lay_quiet_determined : (κs : _) (a : _) (x y : _) (e f : _) → lay-quiet.Post κs a x e → lay-quiet.Post κs a y f
    → desk e.0.now e.1.1.1.1.0.now e.1.1.1.1.1.0.now ≡ desk f.0.now f.1.1.1.1.0.now f.1.1.1.1.1.0.now
lay_quiet_determined κs a x y e f p q = coincide p q

pub ask_open_determined : (κs : _) (a : _) (x y : _) (e f : _) → ask-open.Post κs a x e → ask-open.Post κs a y f
    → desk e.0.now e.1.1.1.1.1.0.now e.1.1.1.1.1.1.0.now ≡ desk f.0.now f.1.1.1.1.1.0.now f.1.1.1.1.1.1.0.now
ask_open_determined κs a x y e f p q = coincide p q

pub hear_determined : (κs : _) (a : _) (x y : _) (e f : _) → hear.Post κs a x e → hear.Post κs a y f
    → heard (desk e.0.now e.1.1.1.0.now e.1.1.1.1.0.now) e.1.0.now ≡ heard (desk f.0.now f.1.1.1.0.now f.1.1.1.1.0.now) f.1.0.now
hear_determined κs a x y e f p q = coincide p q

pub send_payload_determined : (κs : _) (a : _) (x y : _) (e f : _) → send-payload.Post κs a x e → send-payload.Post κs a y f
    → spoke (desk e.0.now e.1.1.1.1.1.0.now e.1.1.1.1.1.1.0.now) e.1.1.1.1.0.now ≡ spoke (desk f.0.now f.1.1.1.1.1.0.now f.1.1.1.1.1.1.0.now) f.1.1.1.1.0.now
send_payload_determined κs a x y e f p q = coincide p q

pub note_sent_determined : (κs : _) (a : _) (x y : _) (e f : _) → note-sent.Post κs a x e → note-sent.Post κs a y f
    → noted (desk e.0.now e.1.1.0.now e.1.1.1.0.now) e.1.0.now ≡ noted (desk f.0.now f.1.1.0.now f.1.1.1.0.now) f.1.0.now
note_sent_determined κs a x y e f p q = coincide p q

pub rest_determined : (κs : _) (a : _) (x y : _) (e f : _) → rest.Post κs a x e → rest.Post κs a y f
    → desk e.0.now e.1.0.now e.1.1.0.now ≡ desk f.0.now f.1.0.now f.1.1.0.now
rest_determined κs a x y e f p q = coincide p q
