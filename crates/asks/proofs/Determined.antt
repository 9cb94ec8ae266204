-- Any two outcomes that satisfy a promise coincide (document 01, "What every promise pins down"): each promise is an equation for
-- all that a call can change. `Post` is the function's `ensures`, of its arguments a, its result x and its slices at exit e.
use mathlib.Core.Path.{◌≡◌}
use Rattle.serialize.proofs.Determined.{coincide}
use Rattle.asks.proofs.no_ask.Reads as no-ask
use Rattle.asks.proofs.past.Reads as past
use Rattle.asks.proofs.unlike.Reads as unlike
use Rattle.asks.proofs.packet_ask.Reads as packet-ask
use Rattle.asks.proofs.token_ask.Reads as token-ask

-- ---- functions that return a value and write nothing

pub no_ask_determined : (κs : _) (a : _) (x y : _) (e f : _) → no-ask.Post κs a x e → no-ask.Post κs a y f → x ≡ y
no_ask_determined κs a x y e f p q = coincide p q

pub past_determined : (κs : _) (a : _) (x y : _) (e f : _) → past.Post κs a x e → past.Post κs a y f → x ≡ y
past_determined κs a x y e f p q = coincide p q

pub unlike_determined : (κs : _) (a : _) (x y : _) (e f : _) → unlike.Post κs a x e → unlike.Post κs a y f → x ≡ y
unlike_determined κs a x y e f p q = coincide p q

pub packet_ask_determined : (κs : _) (a : _) (x y : _) (e f : _) → packet-ask.Post κs a x e → packet-ask.Post κs a y f → x ≡ y
packet_ask_determined κs a x y e f p q = coincide p q

pub token_ask_determined : (κs : _) (a : _) (x y : _) (e f : _) → token-ask.Post κs a x e → token-ask.Post κs a y f → x ≡ y
token_ask_determined κs a x y e f p q = coincide p q
