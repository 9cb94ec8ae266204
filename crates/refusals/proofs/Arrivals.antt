-- Each number is given exactly when document 01's table says, and leaves what its line says: a line of the table decides the definition's tests up
-- to its own, and the tests, taken one by one, always come to a line or to no refusal.
use Rattle.std.specs.Prelude.{Result, Ok, Err}
use mathlib.Core.Path.{◌≡◌, refl, sym, ap, subst, ◌∙◌}
use mathlib.Core.Logic.{◌⊎◌, inl, inr, ◌↔◌}
use mathlib.Core.Bool.{Bool, true, false}
use Prim.Native.Nat.{ℕ, ◌+◌, ◌%◌, ◌^◌, ◌≤◌, ◌<◌}
use native.Mathlib.Omega.{arith}
use mathlib.Core.List.{List}
use lib.ListN.{length, get_or}
use lib.Dec.{eqb, ltb, leb}
use borrow.Author.Tests.{eq-eqb, ne_eqb, lt-ltb, le-ltb, le-leb, lt-leb, eqb-true, eqb-false, ltb-true, ltb-false, leb-true, leb-false}
use Rattle.serialize.specs.Choice.{pick}
use Rattle.serialize.specs.Runs.{part, alike}
use Rattle.serialize.proofs.Choice.{by_test}
use Rattle.serialize.proofs.Lists.{alike_refl, alike_true}
use Rattle.replay_protection.specs.Replay.{refusal_by, refuses}
use Rattle.replay_protection.specs.Stored.{window_at}
use Rattle.replay_protection.specs.Ours.{width}
use Rattle.bodies.specs.declared.PacketType.{PacketType}
use Rattle.bodies.specs.Kinds.{type_of, windowed, is_request}
use Rattle.bodies.proofs.Back.{type_reads_back, typed_number, untyped_number, number_untyped}
use Rattle.prefix.specs.Sealed.{version}
use Rattle.addresses.specs.declared.Address.{Address}
use Rattle.addresses.specs.Addresses.{well_formed, refusal}
use Rattle.places.specs.Layout.{received_at, window_place}
use Rattle.places.proofs.Searches.{true_false}
use Rattle.records.specs.Records.{put_time}
use Rattle.decode.specs.Decodes.{type_at, count_of, sequence_of, start_at}
use Rattle.server.specs.declared.NetcodeServer.{NetcodeServer}
use Rattle.server.specs.declared.Answer.TheVariants.{Refused, Ask, Nothing}
use Rattle.server.specs.declared.Stage.TheVariants.{Idle}
use Rattle.server.specs.Asking.{no_ask}
use Rattle.server.specs.Ready.{before, both_refusal, kind_of}
use Rattle.server.proofs.Inversions.{idle_only, idle_is_0, idle_passes, open_refused}
use Rattle.turns.specs.declared.Turn.{Turn}
use Rattle.turns.specs.Outcomes.{State, state, Outcome, outcome, came, leaves, refused, refuses as refusesBy}
use Rattle.arrivals.specs.declared.Sender.{Sender}
use Rattle.arrivals.specs.declared.Sender.TheVariants.{Connected, Pending, Unknown}
use Rattle.arrivals.specs.Requests.{version_in, protocol_in, expiry_in, request_refusal, token_asked, request_read}
use Rattle.arrivals.specs.Arrivals.{lent_refusal, arrival_refusal, window_refusal, open_asked, sealed_at, by_start, sealed_from, request_from, sender_in, kind_arrives, by_kind, arrives}
use Rattle.refusals.proofs.Answers.{same_refusal, not_asked, not_nothing, both_23}
use Rattle.refusals.specs.Arriving.{Idly, Tabled, Taken, Typed, Asking, Stands, in_slot, waits, Sent, Passes, ArrivalSays, says_16, says_23, says_14, says_19, says_1, says_2, says_9, says_10, says_11, says_12, says_3, says_4, says_5, says_6, says_7, ArrivalLeaves, nothing, received}

-- ---- senders that are not the same

not_pending : {j : ℕ} → Unknown ≡ Pending j → ⊥
not_pending e = let z : ◌≡◌ {A = ℕ} 0 1 = cc in omega arith

same_pending : {j k : ℕ} → Pending j ≡ Pending k → j ≡ k
same_pending e = cc

stranger_pending : {i j : ℕ} → Pending j ≡ Connected i → ⊥
stranger_pending e = let z : ◌≡◌ {A = ℕ} 0 1 = cc in omega arith

stranger_unknown : {i : ℕ} → Unknown ≡ Connected i → ⊥
stranger_unknown e = let z : ◌≡◌ {A = ℕ} 0 1 = cc in omega arith

-- ---- what a number leaves is one state

no_other : (n : ℕ) → 10 ≤ n → n ≤ 12 → (n ≡ 10 → ⊥) × (n ≡ 11 → ⊥) × (n ≡ 12 → ⊥) → ⊥
no_other n a b f = let (x, y, z) = f in omega (arith, x, y, z)

pub one_state : (t : State) (addr : Address) (n : ℕ) (u v : State) → ArrivalLeaves t addr n u → ArrivalLeaves t addr n v → u ≡ v
one_state t addr n u v (nothing a f) (nothing b g) = a ∙ sym b
one_state t addr n u v (nothing a f) (received j e l h b) = absurd (no_other n l h (f j e))
one_state t addr n u v (received j e l h a) (nothing b f) = absurd (no_other n l h (f j e))
one_state t addr n u v (received j e l h a) (received k f p q b) =
    let z : j ≡ k = same_pending (sym e ∙ f) in
    let set : ℕ → State = λ x. state t.server t.slots (put_time t.pending (received_at t.server.set.pending x) t.server.current_time) in
    a ∙ ap set z ∙ sym b

-- ---- the window's number

module _ (table : List ℕ) (n i : ℕ) (kind : PacketType) (sequence : ℕ) where
  window_5 : windowed kind ≡ true → 2 ^ 64 ≤ sequence + width → window_refusal table n i kind sequence ≡ 5
  unfolding window_refusal refusal_by pick
  window_5 w h = simp (w, le-leb (2 ^ 64) (sequence + width) h)

  window_6 : windowed kind ≡ true → sequence + width < 2 ^ 64 → refuses width (window_at width table (window_place n i)) sequence ≡ true
      → window_refusal table n i kind sequence ≡ 6
  unfolding window_refusal refusal_by pick
  window_6 w h r = simp (w, lt-leb (2 ^ 64) (sequence + width) h, r)

  window_0 : Passes table n i kind sequence → window_refusal table n i kind sequence ≡ 0
  unfolding window_refusal refusal_by pick
  window_0 p = by_test (windowed kind) (λ w. simp (w, lt-leb (2 ^ 64) (sequence + width) (p.below w), p.new w)) (λ w. simp w)

-- ---- no type has no other number

abbrev Untyped : Result PacketType ℕ → Type 0
Untyped (Ok kind) = Unit {0}
Untyped (Err m) = m ≡ 2

either : (b : Bool) (x y : Result PacketType ℕ) → Untyped x → Untyped y → Untyped (pick b x y)
unfolding pick
either true x y p q = p
either false x y p q = q

untyped : (n : ℕ) → Untyped (type_of n)
unfolding type_of
untyped n =
    either (eqb n 0) _ _ tt
    (either (eqb n 1) _ _ tt
    (either (eqb n 2) _ _ tt (either (eqb n 3) _ _ tt (either (eqb n 4) _ _ tt (either (eqb n 5) _ _ tt (either (eqb n 6) _ _ tt refl))))))

only_2 : (n m : ℕ) → type_of n ≡ Err m → m ≡ 2
only_2 n m e = subst Untyped e (untyped n)

-- ---- a request's number

module _ (s : NetcodeServer) (d : List ℕ) where
  same_version : version_in d ≡ version → alike (version_in d) (part version 0 13) ≡ true
  same_version e = ap (λ (l : List ℕ). alike l version) e ∙ alike_refl version

  other_version : (version_in d ≡ version → ⊥) → alike (version_in d) (part version 0 13) ≡ false
  other_version f = by_test (alike (version_in d) version) (λ e. absurd (f (alike_true (version_in d) version e))) (λ e. e)

  request_10 : (version_in d ≡ version → ⊥) → request_refusal s d ≡ 10
  unfolding request_refusal pick
  request_10 f = simp (other_version f)

  request_11 : version_in d ≡ version → (protocol_in d ≡ s.set.protocol_id → ⊥) → request_refusal s d ≡ 11
  unfolding request_refusal pick
  request_11 v f = simp (same_version v, ne_eqb (protocol_in d) s.set.protocol_id f)

  request_12 : version_in d ≡ version → protocol_in d ≡ s.set.protocol_id → expiry_in d ≤ s.current_time.secs → request_refusal s d ≡ 12
  unfolding request_refusal pick
  request_12 v p h = simp (same_version v, eq-eqb (protocol_in d) s.set.protocol_id p, le-leb (expiry_in d) s.current_time.secs h)

  request_0 : version_in d ≡ version → protocol_in d ≡ s.set.protocol_id → s.current_time.secs < expiry_in d → request_refusal s d ≡ 0
  unfolding request_refusal pick
  request_0 v p h = simp (same_version v, eq-eqb (protocol_in d) s.set.protocol_id p, lt-leb (expiry_in d) s.current_time.secs h)

  read_refused : (addr : Address) (out n : ℕ) → request_refusal s d ≡ n → 10 ≤ n → request_read s addr out d ≡ refused s n
  unfolding request_read pick
  read_refused addr out n e h = let z : n ≡ 0 → ⊥ = λ k. omega arith in simp (e, ne_eqb n 0 z)

  read_asked : (addr : Address) (out : ℕ) → request_refusal s d ≡ 0 → request_read s addr out d ≡ token_asked s addr out d
  unfolding request_read pick
  read_asked addr out e = simp (eq-eqb (request_refusal s d) 0 e)

module _ (t : State) (addr : Address) (out : ℕ) (d : List ℕ) where
  -- ---- what the definition comes to, test by test

  abbrev both : ℕ
  both = both_refusal t.server.set (length t.slots) (length t.pending)

  -- the tests before the datagram: 16, 23, 14, 19

  arrival_16 : (t.server.ask.stage ≡ Idle → ⊥) → arrival_refusal t addr out ≡ 16
  unfolding arrival_refusal before pick
  arrival_16 f = simp (open_refused t.server.ask both f)

  arrival_23 : Idly t → (both ≡ 0 → ⊥) → arrival_refusal t addr out ≡ 23
  unfolding arrival_refusal before pick
  arrival_23 k f = simp (idle_passes t.server.ask both k.idle ∙ both_23 t.server.set (length t.slots) (length t.pending) f)

  arrival_lent : Tabled t → arrival_refusal t addr out ≡ lent_refusal addr out
  unfolding arrival_refusal before pick
  arrival_lent k = simp (idle_passes t.server.ask both k.idly.idle ∙ k.tables)

  lent_14 : out < 1400 → lent_refusal addr out ≡ 14
  unfolding lent_refusal pick
  lent_14 h = simp (lt-ltb out 1400 h)

  lent_19 : 1400 ≤ out → well_formed addr.kind addr.low addr.high ≡ false → lent_refusal addr out ≡ 19
  unfolding lent_refusal refusal pick
  lent_19 h e = simp (le-ltb out 1400 h, e)

  lent_0 : 1400 ≤ out → well_formed addr.kind addr.low addr.high ≡ true → lent_refusal addr out ≡ 0
  unfolding lent_refusal refusal pick
  lent_0 h e = simp (le-ltb out 1400 h, e)

  arrives_refused : (n : ℕ) → arrival_refusal t addr out ≡ n → 0 < n → arrives t addr out d ≡ refusesBy t n
  unfolding arrives pick
  arrives_refused n e h = let z : n ≡ 0 → ⊥ = λ k. omega arith in simp (e, ne_eqb n 0 z)

  -- the datagram's head: 1, 2

  arrives_taken : Taken t addr out → arrives t addr out d ≡ by_kind t addr out d (type_at d)
  unfolding arrives pick
  arrives_taken k = simp (arrival_lent k.tabled ∙ lent_0 k.room k.formed)

  arrives_typed : (kind : PacketType) → Typed t addr out d kind → arrives t addr out d ≡ kind_arrives t addr out d kind
  unfolding type_at by_kind pick
  arrives_typed kind k =
      arrives_taken k.taken
      ∙ simp (le-ltb (length d) 18 k.long) (ap (by_kind t addr out d) (ap type_of k.type ∙ type_reads_back kind))

  -- a request: 9, then by its sender

  arrives_request : (kind : PacketType) → Typed t addr out d kind → is_request kind ≡ true → 1078 ≤ length d
      → arrives t addr out d ≡ request_from t addr out d (sender_in t addr)
  unfolding kind_arrives pick
  arrives_request kind k r h = arrives_typed kind k ∙ simp (r, le-ltb (length d) 1078 h)

  -- a sealed packet: by its sender; 4; then by its window

  arrives_sealed : (kind : PacketType) → Typed t addr out d kind → is_request kind ≡ false
      → arrives t addr out d ≡ leaves t (sealed_from t out kind d (sender_in t addr))
  unfolding kind_arrives pick
  arrives_sealed kind k r = arrives_typed kind k ∙ simp r

  in_slots : {table : List ℕ} {n i : ℕ} → Stands t addr table n i → Bool
  in_slots (in_slot i e) = true
  in_slots (waits j e) = false

  stands_by : (kind : PacketType) (table : List ℕ) (n i : ℕ) (k : Stands t addr table n i)
      → sealed_from t out kind d (sender_in t addr) ≡ by_start t.server table n (in_slots k) i kind out d (start_at d)
  unfolding sealed_from in_slots
  stands_by kind table n i (in_slot p e) = ap (sealed_from t out kind d) e
  stands_by kind table n i (waits p e) = ap (sealed_from t out kind d) e

  arrives_sent : (kind : PacketType) (table : List ℕ) (n i : ℕ) (k : Sent t addr out d kind table n i)
      → arrives t addr out d ≡ leaves t (by_start t.server table n (in_slots k.stands) i kind out d (start_at d))
  arrives_sent kind table n i k = arrives_sealed kind k.typed k.sealed ∙ ap (leaves t) (stands_by kind table n i k.stands)

  arrives_started : (kind : PacketType) (table : List ℕ) (n i : ℕ) (k : Sent t addr out d kind table n i) → count_of d ≤ 8
      → arrives t addr out d ≡ leaves t (sealed_at t.server table n (in_slots k.stands) i kind (sequence_of d) (1 + count_of d) out d)
  unfolding start_at by_start pick
  arrives_started kind table n i k h = arrives_sent kind table n i k ∙ simp (le-ltb 8 (count_of d) h)

  arrives_windowed : (kind : PacketType) (table : List ℕ) (n i m : ℕ) → Sent t addr out d kind table n i → count_of d ≤ 8
      → window_refusal table n i kind (sequence_of d) ≡ m → 0 < m → arrives t addr out d ≡ refusesBy t m
  unfolding sealed_at pick
  arrives_windowed kind table n i m k h e o =
      let z : m ≡ 0 → ⊥ = λ y. omega arith in
      arrives_started kind table n i k h ∙ simp (e, ne_eqb m 0 z)

  -- ---- a line of the table gives its number, and leaves what it says

  record Gives (n : ℕ) : Type 0 where
    left : State
    is : arrives t addr out d ≡ outcome (Refused n) no_ask left
    leaving : ArrivalLeaves t addr n left

  low : (n : ℕ) → arrives t addr out d ≡ refusesBy t n → n < 10 → Gives n
  low n e h = record { left = t; is = e; leaving = nothing refl (λ j k. ((λ z. omega arith), (λ z. omega arith), (λ z. omega arith))) }

  high : (n : ℕ) → arrives t addr out d ≡ refusesBy t n → 12 < n → Gives n
  high n e h = record { left = t; is = e; leaving = nothing refl (λ j k. ((λ z. omega arith), (λ z. omega arith), (λ z. omega arith))) }

  -- 10, 11 and 12, by the sender
  unread : (n : ℕ) → arrives t addr out d ≡ request_from t addr out d (sender_in t addr) → request_read t.server addr out d ≡ refused t.server n
      → 10 ≤ n → n ≤ 12 → ((i : ℕ) → sender_in t addr ≡ Connected i → ⊥) → (x : Sender) → sender_in t addr ≡ x → Gives n
  unfolding request_from
  unread n e r a b f (Connected i) x = absurd (f i x)
  unread n e r a b f (Pending j) x =
      let after : List ℕ = put_time t.pending (received_at t.server.set.pending j) t.server.current_time in
      record {
        left = state t.server t.slots after;
        is = e ∙ ap (request_from t addr out d) x ∙ ap (λ (y : Turn). came y t.slots after) r;
        leaving = received j x a b refl;
      }
  unread n e r a b f Unknown x = record {
    left = t;
    is = e ∙ ap (request_from t addr out d) x ∙ ap (leaves t) r;
    leaving = nothing refl (λ j k. absurd (not_pending (sym x ∙ k)));
  }

  asking_gives : (n : ℕ) → Asking t addr out d → request_refusal t.server d ≡ n → 10 ≤ n → n ≤ 12 → Gives n
  asking_gives n k e a b =
      unread n (arrives_request k.kind k.typed k.request k.whole) (read_refused t.server d addr out n e a) a b k.stranger (sender_in t addr) refl

  gives : (n : ℕ) → ArrivalSays t addr out d n → Gives n
  unfolding type_at by_kind kind_arrives sealed_from start_at by_start sealed_at pick
  gives n (says_16 f) = high 16 (arrives_refused 16 (arrival_16 f) (omega arith)) (omega arith)
  gives n (says_23 k f) = high 23 (arrives_refused 23 (arrival_23 k f) (omega arith)) (omega arith)
  gives n (says_14 k h) = high 14 (arrives_refused 14 (arrival_lent k ∙ lent_14 h) (omega arith)) (omega arith)
  gives n (says_19 k h e) = high 19 (arrives_refused 19 (arrival_lent k ∙ lent_19 h e) (omega arith)) (omega arith)
  gives n (says_1 k h) = low 1 (arrives_taken k ∙ simp (lt-ltb (length d) 18 h)) (omega arith)
  gives n (says_2 k h o) = low 2 (arrives_taken k ∙ simp (le-ltb (length d) 18 h, number_untyped (get_or d 0 0 % 16) o)) (omega arith)
  gives n (says_9 kind k r h) = low 9 (arrives_typed kind k ∙ simp (r, lt-ltb (length d) 1078 h)) (omega arith)
  gives n (says_10 k f) = asking_gives 10 k (request_10 t.server d f) (omega arith) (omega arith)
  gives n (says_11 k v f) = asking_gives 11 k (request_11 t.server d v f) (omega arith) (omega arith)
  gives n (says_12 k v p h) = asking_gives 12 k (request_12 t.server d v p h) (omega arith) (omega arith)
  gives n (says_3 kind k r e) = low 3 (arrives_sealed kind k r ∙ ap (λ (x : Sender). leaves t (sealed_from t out kind d x)) e) (omega arith)
  gives n (says_4 kind table m i k h) = low 4 (arrives_sent kind table m i k ∙ simp (lt-ltb 8 (count_of d) h)) (omega arith)
  gives n (says_5 kind table m i k h w o) = low 5 (arrives_windowed kind table m i 5 k h (window_5 table m i kind (sequence_of d) w o) (omega arith)) (omega arith)
  gives n (says_6 kind table m i k h w o r) = low 6 (arrives_windowed kind table m i 6 k h (window_6 table m i kind (sequence_of d) w o r) (omega arith)) (omega arith)
  gives n (says_7 kind table m i k h p o) =
      low 7
      (arrives_started kind table m i k h
      ∙ simp (eq-eqb (window_refusal table m i kind (sequence_of d)) 0 (window_0 table m i kind (sequence_of d) p), lt-ltb (length d) (1 + count_of d + 16) o))
      (omega arith)

  gives_answer : (n : ℕ) → ArrivalSays t addr out d n → (arrives t addr out d).answer ≡ Refused n
  gives_answer n s = ap (λ (o : Outcome). o.answer) (gives n s).is

  -- ---- a datagram meets a line, or ends in an ask or in nothing

  data Verdict : Type 0 where
    line : (n : ℕ) → ArrivalSays t addr out d n → Verdict
    asks : (arrives t addr out d).answer ≡ Ask → Verdict
    silent : (arrives t addr out d).answer ≡ Nothing → Verdict

  -- a sealed packet

  past_window : (kind : PacketType) (table : List ℕ) (n i : ℕ) → Sent t addr out d kind table n i → count_of d ≤ 8 → Passes table n i kind (sequence_of d) → Verdict
  unfolding sealed_at open_asked pick
  past_window kind table n i k h p =
      by_test (ltb (length d) (1 + count_of d + 16))
      (λ e. line 7 (says_7 kind table n i k h p (ltb-true (length d) (1 + count_of d + 16) e)))
      (λ e. asks
      (ap (λ (o : Outcome). o.answer) (arrives_started kind table n i k h)
      ∙ simp (eq-eqb (window_refusal table n i kind (sequence_of d)) 0 (window_0 table n i kind (sequence_of d) p), e)))

  past_head : (kind : PacketType) (table : List ℕ) (n i : ℕ) → Sent t addr out d kind table n i → count_of d ≤ 8 → Verdict
  past_head kind table n i k h =
      let s : ℕ = sequence_of d in
      by_test (windowed kind)
      (λ w. by_test (leb (2 ^ 64) (s + width))
      (λ e. line 5 (says_5 kind table n i k h w (leb-true (2 ^ 64) (s + width) e)))
      (λ e.
      let o : s + width < 2 ^ 64 = leb-false (2 ^ 64) (s + width) e in
      by_test (refuses width (window_at width table (window_place n i)) s)
      (λ r. line 6 (says_6 kind table n i k h w o r))
      (λ r. past_window kind table n i k h (record { below = λ x. o; new = λ x. r }))))
      (λ w. past_window kind table n i k h (record { below = λ x. absurd (true_false x w); new = λ x. absurd (true_false x w) }))

  past_sender : (kind : PacketType) (table : List ℕ) (n i : ℕ) → Sent t addr out d kind table n i → Verdict
  past_sender kind table n i k =
      by_test (ltb 8 (count_of d))
      (λ e. line 4 (says_4 kind table n i k (ltb-true 8 (count_of d) e)))
      (λ e. past_head kind table n i k (ltb-false 8 (count_of d) e))

  past_sealed : (kind : PacketType) → Typed t addr out d kind → is_request kind ≡ false → (x : Sender) → sender_in t addr ≡ x → Verdict
  past_sealed kind k r (Connected i) e = past_sender kind t.slots t.server.set.slots i (record { typed = k; sealed = r; stands = in_slot i e })
  past_sealed kind k r (Pending j) e = past_sender kind t.pending t.server.set.pending j (record { typed = k; sealed = r; stands = waits j e })
  past_sealed kind k r Unknown e = line 3 (says_3 kind k r e)

  -- a request

  read_asks : request_refusal t.server d ≡ 0 → (request_read t.server addr out d).answer ≡ Ask
  unfolding token_asked
  read_asks e = ap (λ (y : Turn). y.answer) (read_asked t.server d addr out e)

  request_asks : request_refusal t.server d ≡ 0 → ((i : ℕ) → sender_in t addr ≡ Connected i → ⊥) → (x : Sender) → sender_in t addr ≡ x
      → (request_from t addr out d x).answer ≡ Ask
  unfolding request_from
  request_asks e f (Connected i) x = absurd (f i x)
  request_asks e f (Pending j) x = read_asks e
  request_asks e f Unknown x = read_asks e

  past_asking : Asking t addr out d → Verdict
  past_asking k =
      let s : NetcodeServer = t.server in
      by_test (alike (version_in d) version)
      (λ a.
      let v : version_in d ≡ version = alike_true (version_in d) version a in
      by_test (eqb (protocol_in d) s.set.protocol_id)
      (λ b.
      let p : protocol_in d ≡ s.set.protocol_id = eqb-true (protocol_in d) s.set.protocol_id b in
      by_test (leb (expiry_in d) s.current_time.secs)
      (λ c. line 12 (says_12 k v p (leb-true (expiry_in d) s.current_time.secs c)))
      (λ c.
      let z : request_refusal s d ≡ 0 = request_0 s d v p (leb-false (expiry_in d) s.current_time.secs c) in
      asks
      (ap (λ (o : Outcome). o.answer) (arrives_request k.kind k.typed k.request k.whole)
      ∙ request_asks z k.stranger (sender_in t addr) refl)))
      (λ b. line 11 (says_11 k v (eqb-false (protocol_in d) s.set.protocol_id b))))
      (λ a. line 10 (says_10 k (λ v. true_false (same_version s d v) a)))

  past_request : (kind : PacketType) → Typed t addr out d kind → is_request kind ≡ true → 1078 ≤ length d → (x : Sender) → sender_in t addr ≡ x → Verdict
  unfolding request_from
  past_request kind k r h (Connected i) e = silent (ap (λ (o : Outcome). o.answer) (arrives_request kind k r h ∙ ap (request_from t addr out d) e))
  past_request kind k r h (Pending j) e = past_asking (record { kind = kind; typed = k; request = r; whole = h; stranger = λ i x. stranger_pending (sym e ∙ x) })
  past_request kind k r h Unknown e = past_asking (record { kind = kind; typed = k; request = r; whole = h; stranger = λ i x. stranger_unknown (sym e ∙ x) })

  -- the head, and what comes before it

  past_length : Taken t addr out → 18 ≤ length d → (x : Result PacketType ℕ) → type_of (get_or d 0 0 % 16) ≡ x → Verdict
  past_length k h (Err n) e = line 2 (says_2 k h (untyped_number (get_or d 0 0 % 16) (e ∙ ap Err (only_2 (get_or d 0 0 % 16) n e))))
  past_length k h (Ok kind) e =
      let y : Typed t addr out d kind = record { taken = k; long = h; type = typed_number (get_or d 0 0 % 16) kind e } in
      by_test (is_request kind)
      (λ r. by_test (ltb (length d) 1078)
      (λ s. line 9 (says_9 kind y r (ltb-true (length d) 1078 s)))
      (λ s. past_request kind y r (ltb-false (length d) 1078 s) (sender_in t addr) refl))
      (λ r. past_sealed kind y r (sender_in t addr) refl)

  past_taken : Taken t addr out → Verdict
  past_taken k =
      by_test (ltb (length d) 18)
      (λ e. line 1 (says_1 k (ltb-true (length d) 18 e)))
      (λ e. past_length k (ltb-false (length d) 18 e) (type_of (get_or d 0 0 % 16)) refl)

  past_tables : Tabled t → Verdict
  past_tables k =
      by_test (ltb out 1400)
      (λ e. line 14 (says_14 k (ltb-true out 1400 e)))
      (λ e.
      let h : 1400 ≤ out = ltb-false out 1400 e in
      by_test (well_formed addr.kind addr.low addr.high)
      (λ w. past_taken (record { tabled = k; room = h; formed = w }))
      (λ w. line 19 (says_19 k h w)))

  verdict : Verdict
  verdict =
      let tables : ℕ = both_refusal t.server.set (length t.slots) (length t.pending) in
      by_test (eqb (kind_of t.server.ask.stage) 0)
      (λ e.
      let k : Idly t = record { idle = idle_only t.server.ask.stage (eqb-true (kind_of t.server.ask.stage) 0 e) } in
      by_test (eqb tables 0)
      (λ z. past_tables (record { idly = k; tables = eqb-true tables 0 z }))
      (λ z. line 23 (says_23 k (eqb-false tables 0 z))))
      (λ e. line 16 (says_16 (λ i. eqb-false (kind_of t.server.ask.stage) 0 e (idle_is_0 t.server.ask.stage i))))

  settle : (n : ℕ) → Verdict → (arrives t addr out d).answer ≡ Refused n → ArrivalSays t addr out d n
  settle n (line m s) e = subst (λ (x : ℕ). ArrivalSays t addr out d x) (same_refusal (sym (gives_answer m s) ∙ e)) s
  settle n (asks f) e = absurd (not_asked (sym f ∙ e))
  settle n (silent f) e = absurd (not_nothing (sym f ∙ e))

  -- A DATAGRAM IS REFUSED BY n EXACTLY WHEN THE TABLE SAYS n
  pub arrivals_exactly : (n : ℕ) → ((arrives t addr out d).answer ≡ Refused n) ↔ ArrivalSays t addr out d n
  arrivals_exactly n = (settle n verdict, gives_answer n)

  -- and it leaves what the table says
  pub arrivals_leave : (n : ℕ) → (arrives t addr out d).answer ≡ Refused n → ArrivalLeaves t addr n (arrives t addr out d).state
  arrivals_leave n e =
      let g = gives n (settle n verdict e) in
      subst (λ (o : Outcome). ArrivalLeaves t addr n o.state) (sym g.is) g.leaving

  -- and asks the host for nothing
  pub arrivals_ask_nothing : (n : ℕ) → (arrives t addr out d).answer ≡ Refused n → (arrives t addr out d).ask ≡ no_ask
  arrivals_ask_nothing n e = ap (λ (o : Outcome). o.ask) (gives n (settle n verdict e)).is

  -- the table says one number at most
  pub one_number : (n m : ℕ) → ArrivalSays t addr out d n → ArrivalSays t addr out d m → n ≡ m
  one_number n m a b = same_refusal (sym (gives_answer n a) ∙ gives_answer m b)

  -- and where it says none, the call ends in an ask or in nothing
  unrefused : ((n : ℕ) → ArrivalSays t addr out d n → ⊥) → Verdict → ((arrives t addr out d).answer ≡ Ask) ⊎ ((arrives t addr out d).answer ≡ Nothing)
  unrefused f (line n s) = absurd (f n s)
  unrefused f (asks e) = inl e
  unrefused f (silent e) = inr e

  pub no_refusal_asks_or_says_nothing : ((n : ℕ) → ArrivalSays t addr out d n → ⊥)
      → ((arrives t addr out d).answer ≡ Ask) ⊎ ((arrives t addr out d).answer ≡ Nothing)
  no_refusal_asks_or_says_nothing f = unrefused f verdict
