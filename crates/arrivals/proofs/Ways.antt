-- Each way out of a datagram's call is a case of its definition, by the tests and the callees' answers that led there.
use Rattle.std.specs.Prelude.{Option, Some, None, Result, Ok, Err, IsErrAnd}
use mathlib.Core.Path.{◌≡◌, sym, ap, ap₂, ◌∙◌}
use mathlib.Core.Bool.{Bool, true, false, not}
use Prim.Native.Nat.{ℕ, ◌+◌, ◌≤◌, ◌<◌}
use native.Mathlib.Omega.{arith}
use mathlib.Core.List.{List}
use lib.ListN.{length, get_or}
use lib.Dec.{eqb, ltb}
use borrow.Author.Tests.{eq-eqb, ne_eqb, lt-ltb, le-ltb, le-leb, lt-leb, not-true, not-false}
use Rattle.refusal.specs.Verdicts.{verdict}
use Rattle.refusal.proofs.Laws.{refused_as, refused_some, refuses_as}
use Rattle.serialize.specs.Choice.{pick}
use Rattle.serialize.specs.Runs.{part, alike}
use Rattle.prefix.specs.Sealed.{version}
use Rattle.bodies.specs.declared.PacketType.{PacketType}
use Rattle.bodies.specs.Kinds.{windowed, is_request}
use Rattle.asks.specs.declared.Ask as packet
use Rattle.asks.specs.declared.Work.TheVariants.{Open}
use Rattle.asks.specs.Asks.{packet_ask}
use Rattle.addresses.specs.declared.Address.{Address}
use Rattle.addresses.specs.Addresses as addresses
use Rattle.replay_protection.specs.Replay.{refusal}
use Rattle.replay_protection.specs.Stored.{window_at}
use Rattle.replay_protection.specs.Ours.{width}
use Rattle.places.specs.Layout.{Shaped, receive_key_at, received_at, window_place}
use Rattle.places.specs.Finds.{find_address}
use Rattle.places.proofs.Searches.{address_found}
use Rattle.records.specs.Records.{bytes_at, put_time}
use Rattle.decode.specs.declared.Start.{Start}
use Rattle.decode.specs.Decodes.{type_at, start_at}
use Rattle.decode.proofs.Ways.{typed_long}
use Rattle.server.specs.declared.NetcodeServer.{NetcodeServer}
use Rattle.server.specs.declared.Ask.{Ask}
use Rattle.server.specs.declared.Answer.TheVariants as answer
use Rattle.server.specs.declared.Stage.TheVariants.{Token, Packet}
use Rattle.server.specs.Asking.{asked, private_token_ask}
use Rattle.server.specs.Ready.{call_refusal, both_refusal}
use Rattle.server.proofs.Ways.{first_refuses, second_decides}
use Rattle.server.proofs.Inversions.{neither, call_free, both_shaped}
use Rattle.turns.specs.declared.Turn.{Turn}
use Rattle.turns.specs.Outcomes.{answered, refused, asking, State, state, Outcome, came, refuses}
use Rattle.arrivals.specs.declared.Sender.{Sender}
use Rattle.arrivals.specs.declared.Sender.TheVariants.{Connected, Pending, Unknown}
use Rattle.arrivals.specs.Senders.{waiting, sender, sender_of}
use Rattle.arrivals.specs.Requests.{version_in, protocol_in, expiry_in, nonce_in, mac_low_in, mac_high_in, request_refusal, token_asked, request_read}
use Rattle.arrivals.specs.Arrivals.{lent_refusal, arrival_refusal, window_refusal, open_asked, sealed_at, by_start, sealed_from, request_from, sender_in, kind_arrives, by_kind, arrives}

-- ---- a refusal that is passed on

-- what a `?` returns
pub passed_up : {A : Type 0} (r : Result A ℕ) (n : ℕ) → IsErrAnd r (λ x. x ≡ n) → r ≡ Err n
passed_up (Ok x) n h = absurd h
passed_up (Err x) n h = ap (λ (k : ℕ). Err k) h

-- x is what a test of the number d came to, and k the number of the whole
module _ (d : ℕ) (x : Result (Unit {0}) ℕ) (tested : x ≡ verdict d) (r : ℕ) (is : x ≡ Err r) (k : ℕ) where
  some : d ≡ 0 → ⊥
  some z = refused_some d x tested r is (refused_as d x tested r is ∙ z)

  pub passed_on : ((d ≡ 0 → ⊥) → d ≡ k) → Err r ≡ verdict k
  passed_on f = refuses_as k r (refused_some d x tested r is) (refused_as d x tested r is ∙ f some)

-- ---- who sends: r is what a search found

module _ (f r : Option ℕ) (found : r ≡ f) where
  pub waits_at : (j : ℕ) → r ≡ Some j → Pending j ≡ waiting f
  unfolding waiting
  waits_at j h = ap waiting (sym h ∙ found)

  pub waits_nowhere : r ≡ None → Unknown ≡ waiting f
  unfolding waiting
  waits_nowhere h = ap waiting (sym h ∙ found)

  pub connected_at : (g : Option ℕ) (i : ℕ) → r ≡ Some i → Connected i ≡ sender f g
  unfolding sender
  connected_at g i h = ap (λ (x : Option ℕ). sender x g) (sym h ∙ found)

  pub not_connected : (g : Option ℕ) → r ≡ None → (s : Sender) → s ≡ waiting g → s ≡ sender f g
  unfolding sender
  not_connected g h s e = e ∙ ap (λ (x : Option ℕ). sender x g) (sym h ∙ found)

-- and back: a connected sender is the slot that was found, a pending one the pending place
pub slot_found : (f g : Option ℕ) (i : ℕ) → sender f g ≡ Connected i → f ≡ Some i
unfolding sender waiting
slot_found (Some k) g i h = let e : Connected k ≡ Connected i = h in cc
slot_found None (Some j) i h = let e : Pending j ≡ Connected i = h in cc
slot_found None None i h = let e : Unknown ≡ Connected i = h in cc

pub place_found : (f g : Option ℕ) (j : ℕ) → sender f g ≡ Pending j → g ≡ Some j
unfolding sender waiting
place_found (Some i) g j h = let e : Connected i ≡ Pending j = h in cc
place_found None (Some k) j h = let e : Pending k ≡ Pending j = h in cc
place_found None None j h = let e : Unknown ≡ Pending j = h in cc

module _ (slots : List ℕ) (n : ℕ) (pending : List ℕ) (m : ℕ) (addr : Address) where
  pub sender_slot : Shaped slots n → (i : ℕ) → sender_of slots n pending m addr ≡ Connected i → i < n
  sender_slot shape i h = ((address_found slots n shape addr i).0 (slot_found (find_address slots n addr) (find_address pending m addr) i h)).below

  pub sender_pending : Shaped pending m → (j : ℕ) → sender_of slots n pending m addr ≡ Pending j → j < m
  sender_pending shape j h = ((address_found pending m shape addr j).0 (place_found (find_address slots n addr) (find_address pending m addr) j h)).below

-- ---- before the datagram is looked at

module _ (addr : Address) (out : ℕ) where
  pub lent_narrow : out < 1400 → 14 ≡ lent_refusal addr out
  unfolding lent_refusal pick
  lent_narrow h = simp (lt-ltb out 1400 h)

  pub lent_wide : 1400 ≤ out → (r : ℕ) → r ≡ addresses.refusal addr → r ≡ lent_refusal addr out
  unfolding lent_refusal pick
  lent_wide h r e = e ∙ simp (le-ltb out 1400 h)

module _ (s : NetcodeServer) (slots pending : List ℕ) (addr : Address) (out : ℕ) where
  -- k is what the tables' test gave, r what the call's gave
  module _ (k : ℕ) (tabled : k ≡ both_refusal s.set (length slots) (length pending)) (r : ℕ) (tested : r ≡ call_refusal s.ask k) where
    abbrev call : ℕ
    call = call_refusal s.ask (both_refusal s.set (length slots) (length pending))

    pub call_refuses : (r ≡ 0 → ⊥) → r ≡ arrival_refusal (state s slots pending) addr out
    unfolding arrival_refusal
    call_refuses n = first_refuses call (lent_refusal addr out) r (tested ∙ ap (call_refusal s.ask) tabled) n

    pub lent_decides : r ≡ 0 → (q : ℕ) → q ≡ lent_refusal addr out → q ≡ arrival_refusal (state s slots pending) addr out
    unfolding arrival_refusal
    lent_decides z q e = second_decides call (lent_refusal addr out) r (tested ∙ ap (call_refusal s.ask) tabled) z q e

  -- what they let through has tables of set-up's lengths
  pub arrival_shaped : arrival_refusal (state s slots pending) addr out ≡ 0 → Shaped slots s.set.slots × Shaped pending s.set.pending
  unfolding arrival_refusal
  arrival_shaped h =
      let tables = both_refusal s.set (length slots) (length pending) in
      both_shaped s.set slots pending (call_free s.ask tables (neither (call_refusal s.ask tables) (lent_refusal addr out) h).0).1

-- ---- a sealed packet

module _ (table : List ℕ) (n i : ℕ) (kind : PacketType) (sequence : ℕ) (w : Bool) (tested : w ≡ windowed kind) where
  pub window_asked : w ≡ true → (r : ℕ) → r ≡ refusal width (window_at width table (window_place n i)) sequence
      → r ≡ window_refusal table n i kind sequence
  unfolding window_refusal pick
  window_asked h r e = e ∙ simp (sym tested ∙ h)

  pub window_not_asked : w ≡ false → 0 ≡ window_refusal table n i kind sequence
  unfolding window_refusal pick
  window_not_asked h = simp (sym tested ∙ h)

module _ (s : NetcodeServer) (table : List ℕ) (n : ℕ) (connected : Bool) (i : ℕ) (kind : PacketType) where
  module _ (sequence start out : ℕ) (d : List ℕ) where
    pub open_asked_lem : (key : List ℕ) → key ≡ bytes_at table (receive_key_at n i) 4 → (a : packet.Ask)
        → a ≡ packet_ask Open key sequence (get_or d 0 0) s.set.protocol_id start (length d) → (b : Ask) → b ≡ asked a
        → (r : Turn) → r ≡ asking s (Packet connected i kind sequence start) (length d) out b
        → r ≡ open_asked s table n connected i kind sequence start out d
    unfolding open_asked
    open_asked_lem key ek a ea b eb r e = e ∙ ap (asking s (Packet connected i kind sequence start) (length d) out) (eb ∙ ap asked (ea ∙ ap with_key ek))
      where
        with_key : List ℕ → packet.Ask
        with_key k = packet_ask Open k sequence (get_or d 0 0) s.set.protocol_id start (length d)

    -- w is what the window's test gave
    module _ (w : ℕ) (tested : w ≡ window_refusal table n i kind sequence) where
      pub window_refuses : (w ≡ 0 → ⊥) → (r : Turn) → r ≡ refused s w → r ≡ sealed_at s table n connected i kind sequence start out d
      unfolding sealed_at pick
      window_refuses ne r e = e ∙ ap (refused s) tested ∙ simp (ne_eqb (window_refusal table n i kind sequence) 0 (λ z. ne (tested ∙ z)))

      -- p is whether a tag does not fit
      module _ (free : w ≡ 0) (p : Bool) (fits : p ≡ ltb (length d) (start + 16)) where
        window_passes : eqb (window_refusal table n i kind sequence) 0 ≡ true
        window_passes = eq-eqb (window_refusal table n i kind sequence) 0 (sym tested ∙ free)

        pub tag_cut : p ≡ true → (r : Turn) → r ≡ refused s 7 → r ≡ sealed_at s table n connected i kind sequence start out d
        unfolding sealed_at pick
        tag_cut h r e = e ∙ simp (window_passes, sym fits ∙ h)

        pub sealed_asks : p ≡ false → (r : Turn) → r ≡ open_asked s table n connected i kind sequence start out d
            → r ≡ sealed_at s table n connected i kind sequence start out d
        unfolding sealed_at pick
        sealed_asks h r e = e ∙ simp (window_passes, sym fits ∙ h)

  -- a is what the head's reading gave
  module _ (out : ℕ) (d : List ℕ) (a : Result Start ℕ) (headed : a ≡ start_at d) where
    pub head_refused : (number : ℕ) → a ≡ Err number → (r : Turn) → r ≡ refused s number
        → r ≡ by_start s table n connected i kind out d (start_at d)
    unfolding by_start
    head_refused number h r e = e ∙ ap (by_start s table n connected i kind out d) (sym h ∙ headed)

    pub head_read : (at : Start) → a ≡ Ok at → (r : Turn) → r ≡ sealed_at s table n connected i kind at.sequence at.start out d
        → r ≡ by_start s table n connected i kind out d (start_at d)
    unfolding by_start
    head_read at h r e = e ∙ ap (by_start s table n connected i kind out d) (sym h ∙ headed)

-- ---- a request in clear

module _ (s : NetcodeServer) (d : List ℕ) (v : Bool) (compared : v ≡ alike (version_in d) (part version 0 13)) where
  pub other_version : not v ≡ true → 10 ≡ request_refusal s d
  unfolding request_refusal pick
  other_version h = simp (sym compared ∙ not-true v h)

  module _ (same : not v ≡ false) (p : ℕ) (protocol : p ≡ protocol_in d) where
    versioned : alike (version_in d) (part version 0 13) ≡ true
    versioned = sym compared ∙ not-false v same

    pub other_protocol : (p ≡ s.set.protocol_id → ⊥) → 11 ≡ request_refusal s d
    unfolding request_refusal pick
    other_protocol n = simp (versioned, ne_eqb (protocol_in d) s.set.protocol_id (λ e. n (protocol ∙ e)))

    module _ (ours : p ≡ s.set.protocol_id) (x : ℕ) (expiry : x ≡ expiry_in d) where
      pub expired : x ≤ s.current_time.secs → 12 ≡ request_refusal s d
      unfolding request_refusal pick
      expired h =
          simp (versioned, eq-eqb (protocol_in d) s.set.protocol_id (sym protocol ∙ ours), le-leb (expiry_in d) s.current_time.secs (omega arith))

      pub in_time : s.current_time.secs < x → 0 ≡ request_refusal s d
      unfolding request_refusal pick
      in_time h =
          simp (versioned, eq-eqb (protocol_in d) s.set.protocol_id (sym protocol ∙ ours), lt-leb (expiry_in d) s.current_time.secs (omega arith))

module _ (s : NetcodeServer) (addr : Address) (out : ℕ) (d : List ℕ) where
  pub token_asked_lem : (nonce : List ℕ) → nonce ≡ nonce_in d → (x low high : ℕ) → x ≡ expiry_in d → low ≡ mac_low_in d → high ≡ mac_high_in d
      → (a : Ask) → a ≡ private_token_ask s.set.connect_key s.set.protocol_id x nonce
      → (r : Turn) → r ≡ asking s (Token addr x low high) (length d) out a → r ≡ token_asked s addr out d
  unfolding token_asked
  token_asked_lem nonce en x low high ex el eh a ea r e = e ∙ rw (ea, en, ex, el, eh)

  -- q is what its tests gave
  module _ (q : ℕ) (tested : q ≡ request_refusal s d) where
    pub request_refused : (q ≡ 0 → ⊥) → (r : Turn) → r ≡ refused s q → r ≡ request_read s addr out d
    unfolding request_read pick
    request_refused n r e = e ∙ ap (refused s) tested ∙ simp (ne_eqb (request_refusal s d) 0 (λ z. n (tested ∙ z)))

    pub request_asks : q ≡ 0 → (r : Turn) → r ≡ token_asked s addr out d → r ≡ request_read s addr out d
    unfolding request_read pick
    request_asks free r e = e ∙ simp (eq-eqb (request_refusal s d) 0 (sym tested ∙ free))

-- ---- by who sends: f is what the search for the sender gave

module _ (s : NetcodeServer) (slots pending : List ℕ) (addr : Address) (out : ℕ) (d : List ℕ) where
  abbrev t : State
  t = state s slots pending

  module _ (f : Sender) (found : f ≡ sender_in t addr) where
    -- the place that was found is one of its table
    pub slot_there : Shaped slots s.set.slots → (i : ℕ) → f ≡ Connected i → i < s.set.slots
    slot_there shape i h = sender_slot slots s.set.slots pending s.set.pending addr shape i (sym found ∙ h)

    pub place_there : Shaped pending s.set.pending → (j : ℕ) → f ≡ Pending j → j < s.set.pending
    place_there shape j h = sender_pending slots s.set.slots pending s.set.pending addr shape j (sym found ∙ h)

    pub request_connected : (i : ℕ) → f ≡ Connected i → (u : List ℕ) → u ≡ put_time slots (received_at s.set.slots i) s.current_time
        → (r : Turn) → r ≡ answered s answer.Nothing → came r u pending ≡ request_from t addr out d (sender_in t addr)
    unfolding request_from
    request_connected i h u eu r e = ap₂ (λ (x : Turn) (v : List ℕ). came x v pending) e eu ∙ ap (request_from t addr out d) (sym h ∙ found)

    pub request_pending : (j : ℕ) → f ≡ Pending j → (u : List ℕ) → u ≡ put_time pending (received_at s.set.pending j) s.current_time
        → (r : Turn) → r ≡ request_read s addr out d → came r slots u ≡ request_from t addr out d (sender_in t addr)
    unfolding request_from
    request_pending j h u eu r e = ap₂ (λ (x : Turn) (v : List ℕ). came x slots v) e eu ∙ ap (request_from t addr out d) (sym h ∙ found)

    pub request_unknown : f ≡ Unknown → (r : Turn) → r ≡ request_read s addr out d → came r slots pending ≡ request_from t addr out d (sender_in t addr)
    unfolding request_from
    request_unknown h r e = ap (λ (x : Turn). came x slots pending) e ∙ ap (request_from t addr out d) (sym h ∙ found)

    module _ (kind : PacketType) where
      pub sealed_connected : (i : ℕ) → f ≡ Connected i → (r : Turn) → r ≡ by_start s slots s.set.slots true i kind out d (start_at d)
          → r ≡ sealed_from t out kind d (sender_in t addr)
      unfolding sealed_from
      sealed_connected i h r e = e ∙ ap (sealed_from t out kind d) (sym h ∙ found)

      pub sealed_pending : (j : ℕ) → f ≡ Pending j → (r : Turn) → r ≡ by_start s pending s.set.pending false j kind out d (start_at d)
          → r ≡ sealed_from t out kind d (sender_in t addr)
      unfolding sealed_from
      sealed_pending j h r e = e ∙ ap (sealed_from t out kind d) (sym h ∙ found)

      pub sealed_unknown : f ≡ Unknown → (r : Turn) → r ≡ refused s 3 → r ≡ sealed_from t out kind d (sender_in t addr)
      unfolding sealed_from
      sealed_unknown h r e = e ∙ ap (sealed_from t out kind d) (sym h ∙ found)

  -- ---- by its type: b is whether it is a request

  module _ (kind : PacketType) (b : Bool) (told : b ≡ is_request kind) where
    pub request_short : b ≡ true → length d < 1078 → (r : Turn) → r ≡ refused s 9 → came r slots pending ≡ kind_arrives t addr out d kind
    unfolding kind_arrives pick
    request_short h k r e = ap (λ (x : Turn). came x slots pending) e ∙ simp (sym told ∙ h, lt-ltb (length d) 1078 k)

    pub request_long : b ≡ true → 1078 ≤ length d → (o : Outcome) → o ≡ request_from t addr out d (sender_in t addr) → o ≡ kind_arrives t addr out d kind
    unfolding kind_arrives pick
    request_long h k o e = e ∙ simp (sym told ∙ h, le-ltb (length d) 1078 k)

    pub sealed_kind : b ≡ false → (r : Turn) → r ≡ sealed_from t out kind d (sender_in t addr) → came r slots pending ≡ kind_arrives t addr out d kind
    unfolding kind_arrives pick
    sealed_kind h r e = ap (λ (x : Turn). came x slots pending) e ∙ simp (sym told ∙ h)

  -- ---- the whole: q is what the tests before it gave, a what its type's reading gave

  module _ (q : ℕ) (tested : q ≡ arrival_refusal t addr out) where
    pub arrival_stops : (q ≡ 0 → ⊥) → (r : Turn) → r ≡ refused s q → came r slots pending ≡ arrives t addr out d
    unfolding arrives pick
    arrival_stops n r e =
        ap (λ (x : Turn). came x slots pending) e ∙ ap (refuses t) tested ∙ simp (ne_eqb (arrival_refusal t addr out) 0 (λ z. n (tested ∙ z)))

    module _ (free : q ≡ 0) (a : Result PacketType ℕ) (typed : a ≡ type_at d) where
      type_decides : by_kind t addr out d a ≡ arrives t addr out d
      unfolding arrives pick
      type_decides = ap (by_kind t addr out d) typed ∙ simp (eq-eqb (arrival_refusal t addr out) 0 (sym tested ∙ free))

      pub type_refused : (number : ℕ) → a ≡ Err number → (r : Turn) → r ≡ refused s number → came r slots pending ≡ arrives t addr out d
      unfolding by_kind
      type_refused number h r e = ap (λ (x : Turn). came x slots pending) e ∙ ap (by_kind t addr out d) (sym h) ∙ type_decides

      -- a datagram of a known type has what its parts ask for
      pub kind_ready : (kind : PacketType) → a ≡ Ok kind → Shaped slots s.set.slots × Shaped pending s.set.pending × (18 ≤ length d)
      kind_ready kind h =
          let b = arrival_shaped s slots pending addr out (sym tested ∙ free) in
          (b.0, b.1, typed_long d kind (sym typed ∙ h))

      pub type_known : (kind : PacketType) → a ≡ Ok kind → (o : Outcome) → o ≡ kind_arrives t addr out d kind → o ≡ arrives t addr out d
      unfolding by_kind
      type_known kind h o e = e ∙ ap (by_kind t addr out d) (sym h) ∙ type_decides
