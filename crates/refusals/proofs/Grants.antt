-- An answer to an ask to open a private token is refused exactly where document 01's table says: the shared tests and the fields' decide the
-- first numbers and a no is 8; after a yes only a token for another server is refused, by 13, and a sender who may be answered, but for whom the
-- counter is spent, by 15.
use mathlib.Core.Path.{◌≡◌, refl, sym, ap, subst, ◌∙◌}
use mathlib.Core.Logic.{◌↔◌}
use mathlib.Core.Bool.{Bool, true, false}
use Prim.Native.Nat.{ℕ, ◌-◌, ◌^◌, ◌≤◌, ◌<◌}
use native.Mathlib.Omega.{arith}
use mathlib.Core.List.{List}
use lib.ListN.{length}
use lib.Dec.{eqb, leb}
use borrow.Author.Tests.{eq-eqb, ne_eqb, le-leb, lt-leb, eqb-true, eqb-false, leb-true, leb-false}
use Rattle.serialize.specs.Choice.{pick}
use Rattle.serialize.proofs.Choice.{by_test}
use Rattle.addresses.specs.declared.Address.{Address}
use Rattle.places.specs.Finds.{find_address, used_count}
use Rattle.entries.specs.Finds as entry
use Rattle.server.specs.declared.Answer.TheVariants as answer
use Rattle.server.specs.declared.Answer.TheVariants.{Refused}
use Rattle.server.specs.declared.Stage.{Stage}
use Rattle.server.specs.declared.Stage.TheVariants as stage
use Rattle.server.specs.State.{with_counters}
use Rattle.server.specs.Ready.{kind_of, before}
use Rattle.turns.specs.Outcomes.{State, state, leaves, refuses, closed, open_refusal}
use Rattle.turns.specs.Packets.{holding, denied}
use Rattle.grants.specs.declared.PrivateConnectToken.{PrivateConnectToken}
use Rattle.grants.specs.Tokens.{Met, met, beside, raised, challenge_sent, challenged, dropped, welcomed, is_connected, no_place, use_of, Admitted, admitted, by_entry, considered}
use Rattle.grants.specs.Grants.{Granted, granted, list_unfit, fields_refusal, grant_refusal, foreign, from_token, granted_at, grants}
use Rattle.refusals.specs.Answering.{OpenFit, all_of, Admits, GrantSpent, full, challenge, global, GrantSays, grants_17, grants_23, grants_18, grants_18_fields, grants_8, grants_13, grants_15, GrantLeaves, nothing, closed_8, closed_13, dropped_15, challenge_15, raised_15}
use Rattle.refusals.proofs.Answers.{same_refusal, not_asked, not_nothing, all_23, open_17, open_tables, open_0, open_18, by_open}

-- ---- a sender who may be answered: denied where there is no room, else the challenge

module _ (t : State) (datagram : ℕ) (addr : Address) (expiry : ℕ) (p : PrivateConnectToken) (held out : List ℕ) where
  abbrev room : ℕ
  room = used_count t.slots t.server.set.slots

  abbrev limit : ℕ
  limit = t.server.max_clients

  abbrev globally : ℕ
  globally = t.server.counters.global_sequence

  abbrev challenges : ℕ
  challenges = t.server.counters.challenge_sequence

  abbrev welcome : Met
  welcome = welcomed t.server datagram addr expiry p t.slots t.pending held out

  to_denied : limit ≤ room
      → welcome ≡ beside (dropped t.pending (find_address t.pending t.server.set.pending addr)) (holding held (denied t.server datagram out p.server_to_client_key addr))
  unfolding welcomed pick
  to_denied h = simp (le-leb limit room h)

  to_challenged : room < limit → welcome ≡ beside t.pending (challenged t.server datagram addr expiry p held out)
  unfolding welcomed pick
  to_challenged h = simp (lt-leb limit room h)

  to_sent : room < limit → (challenges ≡ 2 ^ 64 - 1 → ⊥) → welcome ≡ beside t.pending (challenge_sent (raised t.server) datagram addr expiry p held out)
  unfolding challenged pick
  to_sent h c = to_challenged h ∙ simp (ne_eqb challenges (2 ^ 64 - 1) c)

  denied_15 : limit ≤ room → globally ≡ 2 ^ 64 - 1
      → welcome ≡ met (closed t.server (Refused 15)) (dropped t.pending (find_address t.pending t.server.set.pending addr)) held out
  unfolding denied pick
  denied_15 h c = to_denied h ∙ simp (eq-eqb globally (2 ^ 64 - 1) c)

  challenged_15 : room < limit → challenges ≡ 2 ^ 64 - 1 → welcome ≡ met (closed t.server (Refused 15)) t.pending held out
  unfolding challenged pick
  challenged_15 h c = to_challenged h ∙ simp (eq-eqb challenges (2 ^ 64 - 1) c)

  sent_15 : room < limit → (challenges ≡ 2 ^ 64 - 1 → ⊥) → globally ≡ 2 ^ 64 - 1 → welcome ≡ met (closed (raised t.server) (Refused 15)) t.pending held out
  unfolding challenge_sent with_counters pick
  sent_15 h c g = to_sent h c ∙ simp (eq-eqb globally (2 ^ 64 - 1) g)

  -- 15 where the counter is spent
  record Spent (m : Met) : Type 0 where
    answer : m.turn.answer ≡ Refused 15
    left : GrantLeaves t 15 (state m.turn.server t.slots m.pending)
    held_same : m.held ≡ held
    out_same : m.out ≡ out

  spent : (low high : ℕ) → t.server.ask.stage ≡ stage.Token addr expiry low high → GrantSpent t → Spent welcome
  spent low high s (full h c) =
      subst Spent (sym (denied_15 h c)) (record { answer = refl; left = dropped_15 addr expiry low high s h; held_same = refl; out_same = refl })
  spent low high s (challenge h c) = subst Spent (sym (challenged_15 h c)) (record { answer = refl; left = challenge_15 h c; held_same = refl; out_same = refl })
  spent low high s (global h c g) = subst Spent (sym (sent_15 h c g)) (record { answer = refl; left = raised_15 h c; held_same = refl; out_same = refl })

  -- and else it is an ask
  data Welcome : Type 0 where
    spends : GrantSpent t → Welcome
    asks : welcome.turn.answer ≡ answer.Ask → Welcome

  by_welcome : Welcome
  unfolding denied challenge_sent with_counters pick
  by_welcome =
      by_test (leb limit room)
      (λ b.
      let h : limit ≤ room = leb-true limit room b in
      by_test (eqb globally (2 ^ 64 - 1))
      (λ c. spends (full h (eqb-true globally (2 ^ 64 - 1) c)))
      (λ c. asks (ap (λ (m : Met). m.turn.answer) (to_denied h) ∙ simp c)))
      (λ b.
      let h : room < limit = leb-false limit room b in
      by_test (eqb challenges (2 ^ 64 - 1))
      (λ c. spends (challenge h (eqb-true challenges (2 ^ 64 - 1) c)))
      (λ c.
      let n = eqb-false challenges (2 ^ 64 - 1) c in
      by_test (eqb globally (2 ^ 64 - 1))
      (λ g. spends (global h n (eqb-true globally (2 ^ 64 - 1) g)))
      (λ g. asks (ap (λ (m : Met). m.turn.answer) (to_sent h n) ∙ simp g))))

module _ (t : State) (given : Bool) (p : PrivateConnectToken) (list entries public held out : List ℕ) (datagram : ℕ) where
  -- the entries with the token's use
  abbrev used : Address → ℕ → ℕ → entry.Outcome
  used addr low high = entry.add_entry entries t.server.set.entries (use_of t.server.current_time addr low high)

  -- refused by a number, which leaves what its line says; held bytes and output as they were, and the entries unless the number is 15
  record Told (n : ℕ) (w : Granted) : Type 0 where
    answer : w.outcome.answer ≡ Refused n
    left : GrantLeaves t n w.outcome.state
    kept : (n ≡ 15 → ⊥) → w.entries ≡ entries
    added : n ≡ 15 → (addr : Address) (expiry low high : ℕ) → t.server.ask.stage ≡ stage.Token addr expiry low high → w.entries ≡ (used addr low high).entries
    held_same : w.held ≡ held
    out_same : w.out ≡ out

  abbrev whole : Granted
  whole = grants t given p list entries public held out datagram

  abbrev r : ℕ
  r = grant_refusal t (length entries) (length public) datagram (length out) given list

  abbrev Fits : Type 0
  Fits = OpenFit t 2 (all_of t entries public) datagram (length out)

  abbrev q : ℕ
  q = open_refusal t.server (all_of t entries public) 2 datagram (length out)

  -- ---- the tests

  test_stops : (n : ℕ) → (n ≡ 0 → ⊥) → q ≡ n → r ≡ n
  unfolding grant_refusal before pick
  test_stops n z e = simp (e, ne_eqb n 0 z)

  test_passes : Fits → r ≡ fields_refusal given list
  unfolding grant_refusal before pick
  test_passes f = simp (eq-eqb q 0 (open_0 t (all_of t entries public) 2 datagram (length out) f))

  fields_18 : Fits → given ≡ true → list_unfit list ≡ true → r ≡ 18
  unfolding fields_refusal pick
  fields_18 f g l = test_passes f ∙ simp (g, l)

  fields_0 : Fits → given ≡ true → list_unfit list ≡ false → r ≡ 0
  unfolding fields_refusal pick
  fields_0 f g l = test_passes f ∙ simp (g, l)

  no_fields : Fits → given ≡ false → r ≡ 0
  unfolding fields_refusal pick
  no_fields f g = test_passes f ∙ simp g

  stopped : (n : ℕ) → (n ≡ 0 → ⊥) → r ≡ n → whole ≡ granted (refuses t n) entries held out
  unfolding grants pick
  stopped n z e = simp (e, ne_eqb n 0 z)

  stops : (n : ℕ) → 17 ≤ n → n ≤ 23 → r ≡ n → Told n whole
  stops n a b e =
      subst (Told n) (sym (stopped n (λ z. omega arith) e))
      (record { answer = refl; left = nothing n a b; kept = λ z. refl; added = λ z. absurd (omega arith); held_same = refl; out_same = refl })

  passed : r ≡ 0
      → whole
      ≡ pick given (granted_at t p list entries public held out datagram t.server.ask.stage) (granted (leaves t (closed t.server (Refused 8))) entries held out)
  unfolding grants pick
  passed e = simp (eq-eqb r 0 e)

  at_no : Fits → given ≡ false → whole ≡ granted (leaves t (closed t.server (Refused 8))) entries held out
  unfolding pick
  at_no f g = passed (no_fields f g) ∙ simp g

  at_yes : Fits → given ≡ true → list_unfit list ≡ false → (x : Stage) → t.server.ask.stage ≡ x → whole ≡ granted_at t p list entries public held out datagram x
  unfolding pick
  at_yes f g l x e = passed (fields_0 f g l) ∙ simp g (ap (granted_at t p list entries public held out datagram) e)

  -- ---- a token

  module _ (f : Fits) (g : given ≡ true) (l : list_unfit list ≡ false) (addr : Address) (expiry low high : ℕ) (s : t.server.ask.stage ≡ stage.Token addr expiry low high) where
    abbrev case : Admitted
    case = considered t.server datagram addr expiry low high p t.slots t.pending entries held out

    at_foreign : foreign t.server.set list public ≡ true → whole ≡ granted (leaves t (closed t.server (Refused 13))) entries held out
    unfolding granted_at pick
    at_foreign o = at_yes f g l (stage.Token addr expiry low high) s ∙ simp o

    at_ours : foreign t.server.set list public ≡ false → whole ≡ from_token t case
    unfolding granted_at pick
    at_ours o = at_yes f g l (stage.Token addr expiry low high) s ∙ simp o

    at_admitted : foreign t.server.set list public ≡ false → Admits t entries p addr low high
        → whole ≡ from_token t (admitted (welcome t datagram addr expiry p held out) (used addr low high).entries)
    unfolding considered by_entry pick
    at_admitted o a = at_ours o ∙ simp (a.free, a.place, a.entry)

    -- silently nothing
    abbrev silence : List ℕ → Admitted
    silence left = admitted (met (closed t.server answer.Nothing) t.pending held out) left

    at_silence : foreign t.server.set list public ≡ false → (left : List ℕ) → case ≡ silence left → whole.outcome.answer ≡ answer.Nothing
    at_silence o left e = ap (λ (w : Granted). w.outcome.answer) (at_ours o ∙ ap (from_token t) e)

    at_connected : is_connected t.server t.slots addr p.client_id ≡ true → case ≡ silence entries
    unfolding considered pick
    at_connected c = simp c

    at_crowded : is_connected t.server t.slots addr p.client_id ≡ false → no_place t.server t.pending addr ≡ true → case ≡ silence entries
    unfolding considered pick
    at_crowded c n = simp (c, n)

    at_taken : is_connected t.server t.slots addr p.client_id ≡ false → no_place t.server t.pending addr ≡ false → (used addr low high).answer ≡ false
        → case ≡ silence (used addr low high).entries
    unfolding considered by_entry pick
    at_taken c n e = simp (c, n, e)

    -- the entry is the one that the ask's stage says
    entry_same : (addr2 : Address) (expiry2 low2 high2 : ℕ) → t.server.ask.stage ≡ stage.Token addr2 expiry2 low2 high2
        → (used addr low high).entries ≡ (used addr2 low2 high2).entries
    entry_same addr2 expiry2 low2 high2 e =
        let a : addr ≡ addr2 = cc in
        let b : low ≡ low2 = cc in
        let c : high ≡ high2 = cc in
        rw a (rw b (rw c refl))

    spent_told : foreign t.server.set list public ≡ false → Admits t entries p addr low high → GrantSpent t → Told 15 whole
    spent_told o a x =
        let k = spent t datagram addr expiry p held out low high s x in
        subst (Told 15) (sym (at_admitted o a))
        (record { answer = k.answer; left = k.left; kept = λ z. absurd (z refl); added = λ z. entry_same; held_same = k.held_same; out_same = k.out_same })

  foreign_told : Fits → given ≡ true → list_unfit list ≡ false → foreign t.server.set list public ≡ true → (x : Stage) → t.server.ask.stage ≡ x → kind_of x ≡ 2
      → Told 13 whole
  unfolding kind_of
  foreign_told f g l o stage.Idle s k = absurd (omega arith)
  foreign_told f g l o (stage.Packet a b c d e) s k = absurd (omega arith)
  foreign_told f g l o (stage.Token addr expiry low high) s k =
      subst (Told 13) (sym (at_foreign f g l addr expiry low high s o))
      (record { answer = refl; left = closed_13; kept = λ z. refl; added = λ z. absurd (omega arith); held_same = refl; out_same = refl })
  foreign_told f g l o (stage.Challenge a b) s k = absurd (omega arith)
  foreign_told f g l o (stage.Seal a b c) s k = absurd (omega arith)

  -- ---- a line of the table gives its number

  line_told : (n : ℕ) → GrantSays t given p list entries public out datagram n → Told n whole
  line_told n (grants_17 e) = stops 17 (omega arith) (omega arith) (test_stops 17 (λ z. omega arith) (open_17 t (all_of t entries public) 2 datagram (length out) e))
  line_told n (grants_23 o z) =
      stops 23 (omega arith) (omega arith)
      (test_stops 23 (λ y. omega arith)
      (open_tables t (all_of t entries public) 2 datagram (length out) o z
      ∙ all_23 t.server.set (length t.slots) (length t.pending) (length entries) (length public) z))
  line_told n (grants_18 o e f) =
      stops 18 (omega arith) (omega arith) (test_stops 18 (λ z. omega arith) (open_18 t (all_of t entries public) 2 datagram (length out) o e f))
  line_told n (grants_18_fields f g l) = stops 18 (omega arith) (omega arith) (fields_18 f g l)
  line_told n (grants_8 f g) =
      subst (Told 8) (sym (at_no f g)) (record { answer = refl; left = closed_8; kept = λ z. refl; added = λ z. absurd (omega arith); held_same = refl; out_same = refl })
  line_told n (grants_13 f g l o) = foreign_told f g l o t.server.ask.stage refl f.fit.wanted
  line_told n (grants_15 f g l o addr expiry low high s a x) = spent_told f g l addr expiry low high s o a x

  -- ---- every answer meets a line, or is not refused

  data Verdict : Type 0 where
    line : (n : ℕ) → GrantSays t given p list entries public out datagram n → Verdict
    none : ((n : ℕ) → whole.outcome.answer ≡ Refused n → ⊥) → Verdict

  by_token : Fits → given ≡ true → list_unfit list ≡ false → (addr : Address) (expiry low high : ℕ) → t.server.ask.stage ≡ stage.Token addr expiry low high → Verdict
  by_token f g l addr expiry low high s =
      by_test (foreign t.server.set list public)
      (λ o. line 13 (grants_13 f g l o))
      (λ o. by_test (is_connected t.server t.slots addr p.client_id)
      (λ c. silent o entries (at_connected f g l addr expiry low high s c))
      (λ c. by_test (no_place t.server t.pending addr)
      (λ n. silent o entries (at_crowded f g l addr expiry low high s c n))
      (λ n. by_test (used addr low high).answer
      (λ e. welcomes o (record { free = c; place = n; entry = e }) (by_welcome t datagram addr expiry p held out))
      (λ e. silent o (used addr low high).entries (at_taken f g l addr expiry low high s c n e)))))
    where
      silent : foreign t.server.set list public ≡ false → (left : List ℕ) → case f g l addr expiry low high s ≡ silence f g l addr expiry low high s left → Verdict
      silent o left e = none (λ n h. not_nothing (sym (at_silence f g l addr expiry low high s o left e) ∙ h))

      welcomes : foreign t.server.set list public ≡ false → Admits t entries p addr low high → Welcome t datagram addr expiry p held out → Verdict
      welcomes o a (spends x) = line 15 (grants_15 f g l o addr expiry low high s a x)
      welcomes o a (asks e) =
          none (λ n h. not_asked (sym (ap (λ (w : Granted). w.outcome.answer) (at_admitted f g l addr expiry low high s o a) ∙ e) ∙ h))

  by_stage_lem : Fits → given ≡ true → list_unfit list ≡ false → (x : Stage) → t.server.ask.stage ≡ x → kind_of x ≡ 2 → Verdict
  unfolding kind_of
  by_stage_lem f g l stage.Idle s k = absurd (omega arith)
  by_stage_lem f g l (stage.Packet a b c d e) s k = absurd (omega arith)
  by_stage_lem f g l (stage.Token addr expiry low high) s k = by_token f g l addr expiry low high s
  by_stage_lem f g l (stage.Challenge a b) s k = absurd (omega arith)
  by_stage_lem f g l (stage.Seal a b c) s k = absurd (omega arith)

  verdict : Verdict
  verdict =
      by_open t (all_of t entries public) 2 datagram (length out)
      (λ e. line 17 (grants_17 e))
      (λ o z. line 23 (grants_23 o z))
      (λ o e f. line 18 (grants_18 o e f))
      (λ f. by_test given
      (λ g. by_test (list_unfit list)
      (λ l. line 18 (grants_18_fields f g l))
      (λ l. by_stage_lem f g l t.server.ask.stage refl f.fit.wanted))
      (λ g. line 8 (grants_8 f g)))

  settle : (n : ℕ) → Verdict → whole.outcome.answer ≡ Refused n → GrantSays t given p list entries public out datagram n
  settle n (line m s) e = subst (GrantSays t given p list entries public out datagram) (same_refusal (sym (line_told m s).answer ∙ e)) s
  settle n (none f) e = absurd (f n e)

-- the answer refuses by n exactly when the table says n
pub grants_exactly : (t : State) (given : Bool) (p : PrivateConnectToken) (list entries public held out : List ℕ) (datagram n : ℕ)
    → ((grants t given p list entries public held out datagram).outcome.answer ≡ Refused n) ↔ GrantSays t given p list entries public out datagram n
grants_exactly t given p list entries public held out datagram n = (
  settle t given p list entries public held out datagram n (verdict t given p list entries public held out datagram),
  λ s. (line_told t given p list entries public held out datagram n s).answer,
)

-- and it then leaves what the number's line says, with held bytes and output as they were; 15 alone comes after the entry was added
pub grants_leave : (t : State) (given : Bool) (p : PrivateConnectToken) (list entries public held out : List ℕ) (datagram n : ℕ)
    → (grants t given p list entries public held out datagram).outcome.answer ≡ Refused n
    → GrantLeaves t n (grants t given p list entries public held out datagram).outcome.state
    × ((grants t given p list entries public held out datagram).held ≡ held)
    × ((grants t given p list entries public held out datagram).out ≡ out)
    × ((n ≡ 15 → ⊥) → (grants t given p list entries public held out datagram).entries ≡ entries)
    × (n ≡ 15 → (addr : Address) (expiry low high : ℕ) → t.server.ask.stage ≡ stage.Token addr expiry low high
    → (grants t given p list entries public held out datagram).entries
    ≡ (entry.add_entry entries t.server.set.entries (use_of t.server.current_time addr low high)).entries)
grants_leave t given p list entries public held out datagram n e =
    let k = line_told t given p list entries public held out datagram n
    (settle t given p list entries public held out datagram n (verdict t given p list entries public held out datagram) e) in
    (k.left, k.held_same, k.out_same, k.kept, k.added)
