-- What is done with a private token that the host opened (document 01, "How a connection lives", Request).
use Rattle.std.specs.Prelude.{ℕ, ◌+◌, ◌-◌, ◌^◌, Bool, not, ◌&&◌, ◌||◌, List, ◌++◌, length, eqb, leb, Option, Some, None}
use Rattle.serialize.specs.Choice.{pick}
use Rattle.serialize.specs.Runs.{splice}
use Rattle.serialize.specs.Le.{to_le}
use Rattle.prefix.specs.Head.{fewest, head_bytes}
use Rattle.bodies.specs.Tokens.{token, token_clear}
use Rattle.asks.specs.declared.Work.TheVariants as work
use Rattle.asks.specs.Asks.{token_ask}
use Rattle.addresses.specs.declared.Address.{Address}
use Rattle.addresses.specs.Addresses.{is_found}
use Rattle.times.specs.declared.Time.{Time}
use Rattle.places.specs.Finds.{find_address, find_id, find_free, used_count}
use Rattle.records.specs.Records.{emptied}
use Rattle.entries.specs.declared.ConnectTokenEntry.{ConnectTokenEntry}
use Rattle.entries.specs.Finds as entry
use Rattle.server.specs.declared.NetcodeServer.{NetcodeServer}
use Rattle.server.specs.declared.Ask.{Ask}
use Rattle.server.specs.declared.Goal.TheVariants.{ChallengeToken}
use Rattle.server.specs.declared.Stage.TheVariants.{Seal}
use Rattle.server.specs.declared.Answer.TheVariants as answer
use Rattle.server.specs.State.{with_counters, counted}
use Rattle.server.specs.Asking.{asked}
use Rattle.server.specs.Held.{held_token}
use Rattle.turns.specs.declared.Turn.{Turn}
use Rattle.turns.specs.Outcomes.{closed, asking}
use Rattle.turns.specs.Packets.{Prepared, prepared, holding, denied}
use Rattle.grants.specs.declared.PrivateConnectToken.{PrivateConnectToken}

-- what a function gives that is lent the pending table, held bytes and output
pub record Met : Type 0 where
  pub turn : Turn
  pub pending : List ℕ
  pub held : List ℕ
  pub out : List ℕ

abbrev pub met : Turn → List ℕ → List ℕ → List ℕ → Met
met r pending held out = record { turn = r; pending = pending; held = held; out = out }

-- ---- the challenge packet: head, token sequence, token in clear. The places of both tags stay as they are.

abbrev pub token_start : ℕ → ℕ
token_start global = 1 + fewest global + 8

abbrev pub challenge_end : ℕ → ℕ
challenge_end global = token_start global + 300 + 16

unfoldable pub challenge_out : List ℕ → ℕ → ℕ → ℕ → List ℕ → List ℕ
challenge_out out global sequence id user = splice out 0 (head_bytes 2 global ++ to_le 8 sequence ++ token_clear (token id user))

-- the ask to seal the token in it: its own sequence is the nonce, no additional data
unfoldable pub challenge_ask : ℕ → ℕ → List ℕ → Ask
challenge_ask global sequence key = asked (token_ask work.Seal key sequence (token_start global) (token_start global + 300))

-- ---- room: the challenge counter is tested for 15 and raised, the global one is tested for 15, then the packet is written

abbrev pub held_of : ℕ → PrivateConnectToken → List ℕ
held_of expiry p = held_token p.client_id expiry p.timeout_seconds p.server_to_client_key p.client_to_server_key p.user_data

-- s is the record with the challenge counter raised
unfoldable pub challenge_sent : NetcodeServer → ℕ → Address → ℕ → PrivateConnectToken → List ℕ → List ℕ → Prepared
challenge_sent s datagram addr expiry p held out =
    pick (eqb s.counters.global_sequence (2 ^ 64 - 1)) (prepared (closed s (answer.Refused 15)) held out)
    (prepared
    (asking s (Seal (ChallengeToken addr) s.counters.global_sequence (challenge_end s.counters.global_sequence)) datagram (length out)
    (challenge_ask s.counters.global_sequence s.counters.challenge_sequence s.set.challenge_key))
    (held_of expiry p)
    (challenge_out out s.counters.global_sequence s.counters.challenge_sequence p.client_id p.user_data))

abbrev pub raised : NetcodeServer → NetcodeServer
raised s = with_counters s (counted s.counters.global_sequence (s.counters.challenge_sequence + 1))

unfoldable pub challenged : NetcodeServer → ℕ → Address → ℕ → PrivateConnectToken → List ℕ → List ℕ → Prepared
challenged s datagram addr expiry p held out =
    pick (eqb s.counters.challenge_sequence (2 ^ 64 - 1)) (prepared (closed s (answer.Refused 15)) held out)
    (challenge_sent (raised s) datagram addr expiry p held out)

-- ---- no room: drop pending, send denied

-- the pending place of an address, if there is one, emptied
unfoldable pub dropped : List ℕ → Option ℕ → List ℕ
dropped pending (Some j) = emptied pending j
dropped pending None = pending

-- what was prepared, and the pending table
abbrev pub beside : List ℕ → Prepared → Met
beside pending x = met x.turn pending x.held x.out

-- connected count >= client limit: drop pending, send denied under the token's key; else the challenge
unfoldable pub welcomed : NetcodeServer → ℕ → Address → ℕ → PrivateConnectToken → List ℕ → List ℕ → List ℕ → List ℕ → Met
welcomed s datagram addr expiry p slots pending held out =
    pick (leb s.max_clients (used_count slots s.set.slots))
    (beside (dropped pending (find_address pending s.set.pending addr)) (holding held (denied s datagram out p.server_to_client_key addr)))
    (beside pending (challenged s datagram addr expiry p held out))

-- ---- silently nothing

-- the address or the id is connected
unfoldable pub is_connected : NetcodeServer → List ℕ → Address → ℕ → Bool
is_connected s slots addr id = is_found (find_address slots s.set.slots addr) || is_found (find_id slots s.set.slots id)

-- the address is not pending and no pending place is free
unfoldable pub no_place : NetcodeServer → List ℕ → Address → Bool
no_place s pending addr = not (is_found (find_address pending s.set.pending addr)) && not (is_found (find_free pending s.set.pending))

-- a token's use: now, from this address, with these last 16 private bytes
abbrev pub use_of : Time → Address → ℕ → ℕ → ConnectTokenEntry
use_of time addr low high = record { time = time; address = addr; mac = to_le 8 low ++ to_le 8 high }

-- with the entries
pub record Admitted : Type 0 where
  pub met : Met
  pub entries : List ℕ

abbrev pub admitted : Met → List ℕ → Admitted
admitted m entries = record { met = m; entries = entries }

-- the last entry with the same bytes has another address: nothing; a match writes no entry, else one is written before the count is
-- looked at
unfoldable pub by_entry : NetcodeServer → ℕ → Address → ℕ → PrivateConnectToken → List ℕ → List ℕ → List ℕ → List ℕ → entry.Outcome → Admitted
by_entry s datagram addr expiry p slots pending held out e =
    pick e.answer (admitted (welcomed s datagram addr expiry p slots pending held out) e.entries)
    (admitted (met (closed s answer.Nothing) pending held out) e.entries)

unfoldable pub considered : NetcodeServer → ℕ → Address → ℕ → ℕ → ℕ → PrivateConnectToken → List ℕ → List ℕ → List ℕ → List ℕ → List ℕ → Admitted
considered s datagram addr expiry low high p slots pending entries held out =
    pick (is_connected s slots addr p.client_id || no_place s pending addr) (admitted (met (closed s answer.Nothing) pending held out) entries)
    (by_entry s datagram addr expiry p slots pending held out (entry.add_entry entries s.set.entries (use_of s.current_time addr low high)))
