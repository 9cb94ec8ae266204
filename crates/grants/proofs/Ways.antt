-- Each way out of an answer to an ask for a private token is a case of its definition, by the tests and the callees' answers that led there.
use mathlib.Core.Path.{◌≡◌, sym, ap, ap₂, ◌∙◌}
use mathlib.Core.Bool.{Bool, true, false, ◌||◌}
use Prim.Native.Nat.{ℕ, ◌≤◌, ◌<◌}
use native.Mathlib.Omega.{arith}
use mathlib.Core.List.{List, ◌++◌}
use lib.ListN.{length, length-append}
use borrow.Author.Tests.{eq-eqb, ne_eqb, le-leb, lt-leb}
use Rattle.serialize.specs.Choice.{pick}
use Rattle.serialize.specs.Runs.{splice}
use Rattle.serialize.specs.Le.{to_le}
use Rattle.serialize.proofs.Lists.{splice_then, splice_whole}
use Rattle.serialize.proofs.Le.{length_to_le}
use Rattle.asks.proofs.Lent.{told}
use Rattle.bodies.specs.declared.PacketType.{PacketType}
use Rattle.addresses.specs.declared.Address.{Address}
use Rattle.times.specs.declared.Time.{Time}
use Rattle.places.specs.Finds.{find_address, used_count}
use Rattle.entries.specs.declared.ConnectTokenEntry.{ConnectTokenEntry}
use Rattle.entries.specs.Finds as entry
use Rattle.server.specs.declared.NetcodeServer.{NetcodeServer}
use Rattle.server.specs.declared.Goal.{Goal}
use Rattle.server.specs.declared.Stage.{Stage}
use Rattle.server.specs.declared.Stage.TheVariants.{Idle, Packet, Token, Challenge, Seal}
use Rattle.server.specs.declared.Answer.TheVariants.{Refused, Nothing}
use Rattle.turns.specs.declared.Turn.{Turn}
use Rattle.turns.specs.Outcomes.{refused, closed, state, came}
use Rattle.turns.specs.Packets.{Spoken, spoken, Prepared, prepared, denied}
use Rattle.grants.specs.declared.PrivateConnectToken.{PrivateConnectToken}
use Rattle.grants.specs.Tokens.{Met, met, dropped, welcomed, challenged, is_connected, no_place, use_of, admitted, by_entry, considered}
use Rattle.grants.specs.Grants.{Granted, granted, grant_refusal, foreign, from_token, granted_at, grants}

-- ---- a token's use: two writes into sixteen bytes leave nothing of what stood there

pub use_written : (time : Time) (addr : Address) (low high : ℕ) (l t u : List ℕ) → length l ≡ 16 → t ≡ splice l 0 (to_le 8 low) → u ≡ splice t 8 (to_le 8 high)
    → ◌≡◌ {A = ConnectTokenEntry} (record { time = time; address = addr; mac = u }) (use_of time addr low high)
use_written time addr low high l t u n p q =
    let a = length_to_le 8 low in
    let b = length_to_le 8 high in
    ap (λ (m : List ℕ). record { time = time; address = addr; mac = m })
    (splice_then l t u 0 (to_le 8 low) 8 (to_le 8 high) p q (omega arith) (omega arith)
    ∙ splice_whole l (to_le 8 low ++ to_le 8 high) (simp length-append (omega arith)))

-- ---- denied, or the challenge: k is how many are connected

module _ (s : NetcodeServer) (datagram : ℕ) (addr : Address) (expiry : ℕ) (p : PrivateConnectToken) (slots pending held out : List ℕ) where
  module _ (k : ℕ) (counted : k ≡ used_count slots s.set.slots) where
    pub welcome_denied : s.max_clients ≤ k → (pending' : List ℕ) → pending' ≡ dropped pending (find_address pending s.set.pending addr)
        → (r : Turn) (out' : List ℕ) → spoken r out' ≡ denied s datagram out p.server_to_client_key addr
        → met r pending' held out' ≡ welcomed s datagram addr expiry p slots pending held out
    unfolding welcomed pick
    welcome_denied h pending' e r out' f =
        let full : s.max_clients ≤ used_count slots s.set.slots = omega arith in
        ap₂ (λ (x : Spoken) (y : List ℕ). met x.turn y held x.out) f e ∙ simp (le-leb s.max_clients (used_count slots s.set.slots) full)

    pub welcome_challenged : k < s.max_clients → (r : Turn) (held' out' : List ℕ)
        → prepared r held' out' ≡ challenged s datagram addr expiry p held out
        → met r pending held' out' ≡ welcomed s datagram addr expiry p slots pending held out
    unfolding welcomed pick
    welcome_challenged h r held' out' e =
        let room : used_count slots s.set.slots < s.max_clients = omega arith in
        ap (λ (x : Prepared). met x.turn pending x.held x.out) e ∙ simp (lt-leb s.max_clients (used_count slots s.set.slots) room)

  -- ---- the whole token: b is whether it is silently nothing, x the entry's answer

  module _ (low high : ℕ) (entries : List ℕ) (b : Bool) (tested : b ≡ is_connected s slots addr p.client_id || no_place s pending addr) where
    pub ignored : b ≡ true → (r : Turn) → r ≡ closed s Nothing
        → admitted (met r pending held out) entries ≡ considered s datagram addr expiry low high p slots pending entries held out
    unfolding considered pick
    ignored h r e = ap (λ (x : Turn). admitted (met x pending held out) entries) e ∙ simp (told tested h)

    module _ (heeded : b ≡ false) (e : ConnectTokenEntry) (used : e ≡ use_of s.current_time addr low high)
        (x : Bool) (entries' : List ℕ) (added : entry.done x entries' ≡ entry.add_entry entries s.set.entries e) where
      goes_on : by_entry s datagram addr expiry p slots pending held out (entry.done x entries')
          ≡ considered s datagram addr expiry low high p slots pending entries held out
      unfolding considered pick
      goes_on =
          ap (by_entry s datagram addr expiry p slots pending held out) (added ∙ ap (entry.add_entry entries s.set.entries) used)
          ∙ simp (told tested heeded)

      pub let_in : x ≡ true → (r : Turn) (pending' held' out' : List ℕ)
          → met r pending' held' out' ≡ welcomed s datagram addr expiry p slots pending held out
          → admitted (met r pending' held' out') entries' ≡ considered s datagram addr expiry low high p slots pending entries held out
      unfolding by_entry pick
      let_in h r pending' held' out' f = ap (λ (m : Met). admitted m entries') f ∙ laid ∙ goes_on
        where
          laid : admitted (welcomed s datagram addr expiry p slots pending held out) entries'
              ≡ by_entry s datagram addr expiry p slots pending held out (entry.done x entries')
          laid = simp h

      pub shut_out : x ≡ false → (r : Turn) → r ≡ closed s Nothing
          → admitted (met r pending held out) entries' ≡ considered s datagram addr expiry low high p slots pending entries held out
      unfolding by_entry pick
      shut_out h r f = ap (λ (y : Turn). admitted (met y pending held out) entries') f ∙ laid ∙ goes_on
        where
          laid : admitted (met (closed s Nothing) pending held out) entries'
              ≡ by_entry s datagram addr expiry p slots pending held out (entry.done x entries')
          laid = simp h

-- ---- by the ask's stage

module _ (s : NetcodeServer) (p : PrivateConnectToken) (list slots pending entries public held out : List ℕ) (datagram : ℕ) where
  abbrev kept : Turn → Granted
  kept r = granted (came r slots pending) entries held out

  abbrev by_stage_lem : Stage → Granted
  by_stage_lem = granted_at (state s slots pending) p list entries public held out datagram

  module _ (stage : Stage) where
    abbrev goal : Granted
    goal = by_stage_lem stage

    pub at_idle : stage ≡ Idle → (r : Turn) → r ≡ refused s 17 → kept r ≡ goal
    unfolding granted_at
    at_idle e r f = ap kept f ∙ ap by_stage_lem (sym e)

    pub at_packet : (connected : Bool) (place : ℕ) (kind : PacketType) (sequence start : ℕ) → stage ≡ Packet connected place kind sequence start
        → (r : Turn) → r ≡ refused s 18 → kept r ≡ goal
    unfolding granted_at
    at_packet connected place kind sequence start e r f = ap kept f ∙ ap by_stage_lem (sym e)

    pub at_challenge : (place start : ℕ) → stage ≡ Challenge place start → (r : Turn) → r ≡ refused s 18 → kept r ≡ goal
    unfolding granted_at
    at_challenge place start e r f = ap kept f ∙ ap by_stage_lem (sym e)

    pub at_seal : (wish : Goal) (sequence end : ℕ) → stage ≡ Seal wish sequence end → (r : Turn) → r ≡ refused s 18 → kept r ≡ goal
    unfolding granted_at
    at_seal wish sequence end e r f = ap kept f ∙ ap by_stage_lem (sym e)

    module _ (addr : Address) (expiry low high : ℕ) (e : stage ≡ Token addr expiry low high)
        (b : Bool) (tested : b ≡ foreign s.set list public) where
      pub token_foreign : b ≡ true → (r : Turn) → r ≡ closed s (Refused 13) → kept r ≡ goal
      unfolding granted_at pick
      token_foreign h r f = ap kept f ∙ laid ∙ ap by_stage_lem (sym e)
        where
          laid : kept (closed s (Refused 13)) ≡ by_stage_lem (Token addr expiry low high)
          laid = simp (told tested h)

      pub token_considered : b ≡ false → (r : Turn) (pending' entries' held' out' : List ℕ)
          → admitted (met r pending' held' out') entries' ≡ considered s datagram addr expiry low high p slots pending entries held out
          → granted (came r slots pending') entries' held' out' ≡ goal
      unfolding granted_at pick
      token_considered h r pending' entries' held' out' f = ap (from_token (state s slots pending)) f ∙ laid ∙ ap by_stage_lem (sym e)
        where
          laid : from_token (state s slots pending) (considered s datagram addr expiry low high p slots pending entries held out)
              ≡ by_stage_lem (Token addr expiry low high)
          laid = simp (told tested h)

  -- ---- the answer: n is what its tests gave

  module _ (given : Bool) (n : ℕ)
      (tested : n ≡ grant_refusal (state s slots pending) (length entries) (length public) datagram (length out) given list) where
    abbrev refusal : ℕ
    refusal = grant_refusal (state s slots pending) (length entries) (length public) datagram (length out) given list

    abbrev whole : Granted
    whole = grants (state s slots pending) given p list entries public held out datagram

    abbrev way : Bool → Bool → Granted
    way free agreed = pick free (pick agreed (by_stage_lem s.ask.stage) (kept (closed s (Refused 8)))) (kept (refused s refusal))

    pub answer_refused : (n ≡ 0 → ⊥) → (r : Turn) → r ≡ refused s n → kept r ≡ whole
    unfolding grants pick
    answer_refused z r f = ap kept (f ∙ ap (refused s) tested) ∙ sym (ap (λ (x : Bool). way x given) (ne_eqb refusal 0 (λ q. z (tested ∙ q))))

    module _ (free : n ≡ 0) where
      pub answer_yes : given ≡ true → (r : Turn) (pending' entries' held' out' : List ℕ)
          → granted (came r slots pending') entries' held' out' ≡ by_stage_lem s.ask.stage
          → granted (came r slots pending') entries' held' out' ≡ whole
      unfolding grants pick
      answer_yes h r pending' entries' held' out' f = f ∙ sym (ap₂ way (eq-eqb refusal 0 (told tested free)) h)

      pub answer_no : given ≡ false → (r : Turn) → r ≡ closed s (Refused 8) → kept r ≡ whole
      unfolding grants pick
      answer_no h r f = ap kept f ∙ sym (ap₂ way (eq-eqb refusal 0 (told tested free)) h)
