-- Any two outcomes that satisfy a promise coincide (document 01, "What every promise pins down"): each promise is an equation for the
-- result, or for the bytes that a call writes. `Post` is the function's `ensures`, of its arguments a, its result x and its slices at
-- exit e.
use mathlib.Core.Path.{◌≡◌}
use Rattle.serialize.proofs.Determined.{coincide}
use Rattle.server.proofs.rebuild.with_ask.Reads as with-ask
use Rattle.server.proofs.rebuild.with_clock.Reads as with-clock
use Rattle.server.proofs.rebuild.with_limit.Reads as with-limit
use Rattle.server.proofs.rebuild.with_counters.Reads as with-counters
use Rattle.server.proofs.ready.slots_refusal.Reads as slots-refusal
use Rattle.server.proofs.ready.pending_refusal.Reads as pending-refusal
use Rattle.server.proofs.ready.both_tables_refusal.Reads as both-tables-refusal
use Rattle.server.proofs.ready.list_refusal.Reads as list-refusal
use Rattle.server.proofs.ready.all_tables_refusal.Reads as all-tables-refusal
use Rattle.server.proofs.ready.call_refusal.Reads as call-refusal
use Rattle.server.proofs.ready.answer_refusal.Reads as answer-refusal
use Rattle.server.proofs.Answer.number.Reads as number
use Rattle.server.proofs.Answer.words.Reads as words
use Rattle.server.proofs.asking.no_ask.Reads as no-ask
use Rattle.server.proofs.asking.packet_ask.Reads as packet-ask
use Rattle.server.proofs.asking.private_token_ask.Reads as private-token-ask
use Rattle.server.proofs.held.held_client_id.Reads as held-client-id
use Rattle.server.proofs.held.held_expiry.Reads as held-expiry
use Rattle.server.proofs.held.held_timeout.Reads as held-timeout
use Rattle.server.proofs.held.held_send_key.Reads as held-send-key
use Rattle.server.proofs.held.held_receive_key.Reads as held-receive-key
use Rattle.server.proofs.held.held_user_data.Reads as held-user-data
use Rattle.server.proofs.held.hold_token.Reads as hold-token
use Rattle.server.proofs.held.hold_challenge.Reads as hold-challenge

pub with_ask_determined : (κs : _) (a : _) (x y : _) (e f : _) → with-ask.Post κs a x e → with-ask.Post κs a y f → x ≡ y
with_ask_determined κs a x y e f p q = coincide p q

pub with_clock_determined : (κs : _) (a : _) (x y : _) (e f : _) → with-clock.Post κs a x e → with-clock.Post κs a y f → x ≡ y
with_clock_determined κs a x y e f p q = coincide p q

pub with_limit_determined : (κs : _) (a : _) (x y : _) (e f : _) → with-limit.Post κs a x e → with-limit.Post κs a y f → x ≡ y
with_limit_determined κs a x y e f p q = coincide p q

pub with_counters_determined : (κs : _) (a : _) (x y : _) (e f : _) → with-counters.Post κs a x e → with-counters.Post κs a y f → x ≡ y
with_counters_determined κs a x y e f p q = coincide p q

pub slots_refusal_determined : (κs : _) (a : _) (x y : _) (e f : _) → slots-refusal.Post κs a x e → slots-refusal.Post κs a y f → x ≡ y
slots_refusal_determined κs a x y e f p q = coincide p q

pub pending_refusal_determined : (κs : _) (a : _) (x y : _) (e f : _) → pending-refusal.Post κs a x e → pending-refusal.Post κs a y f → x ≡ y
pending_refusal_determined κs a x y e f p q = coincide p q

pub both_tables_refusal_determined : (κs : _) (a : _) (x y : _) (e f : _) → both-tables-refusal.Post κs a x e → both-tables-refusal.Post κs a y f → x ≡ y
both_tables_refusal_determined κs a x y e f p q = coincide p q

pub list_refusal_determined : (κs : _) (a : _) (x y : _) (e f : _) → list-refusal.Post κs a x e → list-refusal.Post κs a y f → x ≡ y
list_refusal_determined κs a x y e f p q = coincide p q

pub all_tables_refusal_determined : (κs : _) (a : _) (x y : _) (e f : _) → all-tables-refusal.Post κs a x e → all-tables-refusal.Post κs a y f → x ≡ y
all_tables_refusal_determined κs a x y e f p q = coincide p q

pub call_refusal_determined : (κs : _) (a : _) (x y : _) (e f : _) → call-refusal.Post κs a x e → call-refusal.Post κs a y f → x ≡ y
call_refusal_determined κs a x y e f p q = coincide p q

pub answer_refusal_determined : (κs : _) (a : _) (x y : _) (e f : _) → answer-refusal.Post κs a x e → answer-refusal.Post κs a y f → x ≡ y
answer_refusal_determined κs a x y e f p q = coincide p q

pub number_determined : (κs : _) (a : _) (x y : _) (e f : _) → number.Post κs a x e → number.Post κs a y f → x ≡ y
number_determined κs a x y e f p q = coincide p q

pub words_determined : (κs : _) (a : _) (x y : _) (e f : _) → words.Post κs a x e → words.Post κs a y f → x ≡ y
words_determined κs a x y e f p q = coincide p q

pub no_ask_determined : (κs : _) (a : _) (x y : _) (e f : _) → no-ask.Post κs a x e → no-ask.Post κs a y f → x ≡ y
no_ask_determined κs a x y e f p q = coincide p q

pub packet_ask_determined : (κs : _) (a : _) (x y : _) (e f : _) → packet-ask.Post κs a x e → packet-ask.Post κs a y f → x ≡ y
packet_ask_determined κs a x y e f p q = coincide p q

pub private_token_ask_determined : (κs : _) (a : _) (x y : _) (e f : _) → private-token-ask.Post κs a x e → private-token-ask.Post κs a y f → x ≡ y
private_token_ask_determined κs a x y e f p q = coincide p q

pub held_client_id_determined : (κs : _) (a : _) (x y : _) (e f : _) → held-client-id.Post κs a x e → held-client-id.Post κs a y f → x ≡ y
held_client_id_determined κs a x y e f p q = coincide p q

pub held_expiry_determined : (κs : _) (a : _) (x y : _) (e f : _) → held-expiry.Post κs a x e → held-expiry.Post κs a y f → x ≡ y
held_expiry_determined κs a x y e f p q = coincide p q

pub held_timeout_determined : (κs : _) (a : _) (x y : _) (e f : _) → held-timeout.Post κs a x e → held-timeout.Post κs a y f → x ≡ y
held_timeout_determined κs a x y e f p q = coincide p q

pub held_send_key_determined : (κs : _) (a : _) (x y : _) (e f : _) → held-send-key.Post κs a x e → held-send-key.Post κs a y f → x ≡ y
held_send_key_determined κs a x y e f p q = coincide p q

pub held_receive_key_determined : (κs : _) (a : _) (x y : _) (e f : _) → held-receive-key.Post κs a x e → held-receive-key.Post κs a y f → x ≡ y
held_receive_key_determined κs a x y e f p q = coincide p q

pub held_user_data_determined : (κs : _) (a : _) (x y : _) (e f : _) → held-user-data.Post κs a x e → held-user-data.Post κs a y f → x ≡ y
held_user_data_determined κs a x y e f p q = coincide p q

pub hold_token_determined : (κs : _) (a : _) (x y : _) (e f : _) → hold-token.Post κs a x e → hold-token.Post κs a y f → e.0.now ≡ f.0.now
hold_token_determined κs a x y e f p q = coincide p q

pub hold_challenge_determined : (κs : _) (a : _) (x y : _) (e f : _) → hold-challenge.Post κs a x e → hold-challenge.Post κs a y f → e.0.now ≡ f.0.now
hold_challenge_determined κs a x y e f p q = coincide p q
