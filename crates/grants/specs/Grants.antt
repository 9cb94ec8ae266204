-- The host's answer to an ask to open a private token (document 01, "How the host answers": the private token's yes brings its fields: client
-- id, timeout as i32, 0 to 32 addresses, two keys, user data; "When the server says no": 17, 23, 18 (wrong kind, length or field range); 8; 13
-- where the server is secure and no token address is ours).
use Rattle.std.specs.Prelude.{ℕ, ◌%◌, Bool, not, ◌&&◌, ◌||◌, List, length, eqb, ltb}
use Rattle.serialize.specs.Choice.{pick}
use Rattle.addresses.specs.Addresses as addresses
use Rattle.server.specs.declared.SetUp.{SetUp}
use Rattle.server.specs.declared.Stage.{Stage}
use Rattle.server.specs.declared.Stage.TheVariants.{Idle, Packet, Token, Challenge, Seal}
use Rattle.server.specs.declared.Answer.TheVariants.{Refused}
use Rattle.server.specs.Ready.{before, all_refusal}
use Rattle.turns.specs.Outcomes.{closed, State, Outcome, came, leaves, refuses, open_refusal}
use Rattle.grants.specs.declared.PrivateConnectToken.{PrivateConnectToken}
use Rattle.grants.specs.Tokens.{Admitted, considered}

-- what a call gives that is lent entries, held bytes and output too
pub record Granted : Type 0 where
  pub outcome : Outcome
  pub entries : List ℕ
  pub held : List ℕ
  pub out : List ℕ

abbrev pub granted : Outcome → List ℕ → List ℕ → List ℕ → Granted
granted o entries held out = record { outcome = o; entries = entries; held = held; out = out }

-- ---- 18: the fields of a yes

-- three words an address, 32 addresses at most, none malformed
unfoldable pub list_unfit : List ℕ → Bool
list_unfit list = not (eqb (length list % 3) 0) || (ltb 32 (addresses.count list) || not (eqb (addresses.list_refusal list) 0))

unfoldable pub fields_refusal : Bool → List ℕ → ℕ
fields_refusal given list = pick (given && list_unfit list) 18 0

-- 17, 23, 18
unfoldable pub grant_refusal : State → ℕ → ℕ → ℕ → ℕ → Bool → List ℕ → ℕ
grant_refusal t entries public datagram out given list =
    before (open_refusal t.server (all_refusal t.server.set (length t.slots) (length t.pending) entries public) 2 datagram out)
    (fields_refusal given list)

-- ---- 13

unfoldable pub foreign : SetUp → List ℕ → List ℕ → Bool
foreign set list public = set.secure && not (addresses.any_ours list public)

-- ---- the whole

abbrev pub from_token : State → Admitted → Granted
from_token t a = granted (came a.met.turn t.slots a.met.pending) a.entries a.met.held a.met.out

-- the ask's stage, after a yes. Only a private token's gets here: `grant_refusal` has refused the others as 17 or 18.
unfoldable pub granted_at : State → PrivateConnectToken → List ℕ → List ℕ → List ℕ → List ℕ → List ℕ → ℕ → Stage → Granted
granted_at t p list entries public held out datagram Idle = granted (refuses t 17) entries held out
granted_at t p list entries public held out datagram (Packet connected place kind sequence start) = granted (refuses t 18) entries held out
granted_at t p list entries public held out datagram (Token addr expiry low high) =
    pick (foreign t.server.set list public) (granted (leaves t (closed t.server (Refused 13))) entries held out)
    (from_token t (considered t.server datagram addr expiry low high p t.slots t.pending entries held out))
granted_at t p list entries public held out datagram (Challenge place start) = granted (refuses t 18) entries held out
granted_at t p list entries public held out datagram (Seal goal sequence end) = granted (refuses t 18) entries held out

-- the answer: yes or no, the token's fields, and what is lent now
unfoldable pub grants : State → Bool → PrivateConnectToken → List ℕ → List ℕ → List ℕ → List ℕ → List ℕ → ℕ → Granted
grants t given p list entries public held out datagram =
    pick (eqb (grant_refusal t (length entries) (length public) datagram (length out) given list) 0)
    (pick given (granted_at t p list entries public held out datagram t.server.ask.stage)
    (granted (leaves t (closed t.server (Refused 8))) entries held out))
    (granted (refuses t (grant_refusal t (length entries) (length public) datagram (length out) given list)) entries held out)
