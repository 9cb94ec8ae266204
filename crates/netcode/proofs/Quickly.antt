-- The short way comes to what the general way does: each test that it makes is one of the call's own, and what it lays is what the record would be
-- laid as, since nothing but the open ask changes.
use Rattle.std.specs.Prelude.{Option, Some, None, Result, Ok, Err}
use Rattle.std.specs.Result.{result_ok}
use mathlib.Core.Path.{◌≡◌, refl, sym, ap, ap₂, subst, ◌∙◌}
use mathlib.Core.Bool.{Bool, true, false, not}
use Prim.Native.Nat.{ℕ, ◌+◌, ◌-◌, ◌≤◌, ◌<◌}
use native.Mathlib.Omega.{arith}
use mathlib.Core.List.{List, [], ◌∷◌}
use lib.ListN.{length, get_or, set}
use lib.Dec.{eqb, ltb}
use borrow.Author.Tests.{eq-eqb, ne_eqb, le-ltb, lt-leb, ltb-false, not-true}
use Rattle.serialize.specs.Choice.{pick}
use Rattle.serialize.specs.Runs.{part}
use Rattle.replay_protection.specs.Replay.{refusal, arrive}
use Rattle.replay_protection.specs.Stored.{window_at, put_window}
use Rattle.replay_protection.specs.Ours.{width}
use Rattle.bodies.specs.declared.PacketType.{PacketType}
use Rattle.bodies.specs.declared.PacketType.TheVariants as kind
use Rattle.bodies.specs.Kinds.{number_of, windowed, is_request}
use Rattle.asks.specs.declared.Work.TheVariants.{Open}
use Rattle.asks.specs.declared.Ask as packet
use Rattle.asks.specs.Asks.{packet_ask}
use Rattle.addresses.specs.declared.Address.{Address}
use Rattle.addresses.specs.Addresses as addresses
use Rattle.times.specs.Times.{time}
use Rattle.places.specs.Layout.{Shaped, id_of, receive_key_at, received_at, confirmed_at, window_place}
use Rattle.places.specs.Finds.{find_address}
use Rattle.records.specs.Records.{bytes_at, put_time, bit}
use Rattle.decode.specs.declared.Start.{Start}
use Rattle.decode.specs.Decodes.{type_at, start_as, start_at}
use Rattle.server.specs.declared.Stage.TheVariants.{Packet}
use Rattle.server.specs.declared.Answer.TheVariants as answer
use Rattle.server.specs.declared.Ask as host
use Rattle.server.specs.State.{with_ask, opened, idle}
use Rattle.server.specs.Asking.{asked, no_ask}
use Rattle.decode.proofs.Ways.{typed_long}
use Rattle.places.proofs.Searches.{address_found}
use Rattle.server.proofs.Inversions.{both_shaped}
use Rattle.server.specs.Ready.{before, kind_of, call_refusal, both_refusal, answer_refusal, unfit, misfits, misplaced, room_of}
use Rattle.turns.specs.Outcomes.{closed, State, state, came, leaves, written, open_refusal}
use Rattle.arrivals.proofs.Ways.{arrival_shaped}
use Rattle.arrivals.specs.Senders.{sender}
use Rattle.arrivals.specs.Arrivals.{lent_refusal, arrival_refusal, window_refusal, open_asked, sealed_at, by_start, sealed_from, kind_arrives, by_kind, arrives}
use Rattle.opens.specs.Opens.{packet_opened, opened as opensAs, open_answer_refusal, opens}
use Rattle.opens.specs.Heard.{accepted, slot_says, slot_body, slot_heard}
use Rattle.bodies.specs.Bodies.{read_body}
use Rattle.netcode.specs.declared.Sealed.{Sealed}
use Rattle.netcode.specs.Laid.{kind_in, stage_in, set_up_in, record_in, stage_words, record_words}
use Rattle.netcode.specs.Told.{Desk, desk, answer_words, ask_bytes}
use Rattle.netcode.specs.Calls.{turn_on, yes?, moved, moved_as, wrote, wrote_as}
use Rattle.netcode.specs.Quick.{step_words, no_step, sealed_as, Tested, Sees, Opens, Hears, Taken, taken, payload_taken, Heard, heard, payload_heard}

-- ---- the record's words, where only the open ask changes

pub opening_words : (w : List ℕ) (place : ℕ) (k : PacketType) (sequence start datagram out : ℕ)
    → step_words w 1 datagram out (place ∷ 0 ∷ number_of k ∷ sequence ∷ start ∷ 1 ∷ 0 ∷ 0 ∷ 0 ∷ 0 ∷ 0 ∷ 0 ∷ [])
    ≡ record_words w (with_ask (record_in w) (opened (Packet true place k sequence start) datagram out))
unfolding step_words record_words with_ask record_in stage_words bit pick
opening_words w place k sequence start datagram out = refl

pub idle_words : (w : List ℕ) → step_words w 0 0 0 no_step ≡ record_words w (with_ask (record_in w) idle)
unfolding step_words record_words with_ask record_in stage_words
idle_words w = refl

-- ---- the ask to open

pub asks_open : (d e : Desk) (slots : List ℕ) (n place : ℕ) (k : PacketType) (sequence start out : ℕ) (datagram : List ℕ) (key : List ℕ) (number : ℕ) (p : packet.Ask) (a : host.Ask)
    → key ≡ bytes_at slots (receive_key_at n place) 4 → number ≡ number_of k
    → p ≡ packet_ask Open key sequence (get_or datagram 0 0) (get_or d.words 5 0) start (length datagram) → a ≡ asked p
    → e ≡ desk (step_words d.words 1 (length datagram) out (place ∷ 0 ∷ number ∷ sequence ∷ start ∷ 1 ∷ 0 ∷ 0 ∷ 0 ∷ 0 ∷ 0 ∷ 0 ∷ [])) (answer_words d.answer answer.Ask a) (ask_bytes d.ask a)
    → e ≡ turn_on d (open_asked (record_in d.words) slots n true place k sequence start out datagram)
unfolding open_asked set_up_in record_in
asks_open d e slots n place k sequence start out datagram key number p a is_key is_number is-p is-a told =
    told
    ∙ ap (λ (x : ℕ). desk (step_words d.words 1 (length datagram) out (place ∷ 0 ∷ x ∷ sequence ∷ start ∷ 1 ∷ 0 ∷ 0 ∷ 0 ∷ 0 ∷ 0 ∷ 0 ∷ [])) (answer_words d.answer answer.Ask a) (ask_bytes d.ask a)) is_number
    ∙ ap (λ (x : List ℕ). desk x (answer_words d.answer answer.Ask a) (ask_bytes d.ask a)) (opening_words d.words place k sequence start (length datagram) out)
    ∙ ap
    (λ (x : host.Ask). desk (record_words d.words (with_ask (record_in d.words) (opened (Packet true place k sequence start) (length datagram) out))) (answer_words d.answer answer.Ask x) (ask_bytes d.ask x))
    (is-a
    ∙ ap asked (is-p ∙ ap (λ (x : List ℕ). packet_ask Open x sequence (get_or datagram 0 0) (get_or d.words 5 0) start (length datagram)) is_key))

-- ---- a payload that was opened

pub takes : (w slots a b e : List ℕ) (id : ℕ)
    → a ≡ put_window slots (window_place (get_or w 0 0) (get_or w 22 0)) (arrive width (window_at width slots (window_place (get_or w 0 0) (get_or w 22 0))) (get_or w 25 0))
    → b ≡ put_time a (received_at (get_or w 0 0) (get_or w 22 0)) (time (get_or w 7 0) (get_or w 8 0))
    → id ≡ id_of b (get_or w 0 0) (get_or w 22 0) → e ≡ set b (confirmed_at (get_or w 0 0) (get_or w 22 0)) 1 → taken id e ≡ payload_taken w slots
unfolding accepted pick record_in
takes w slots a b e id is-a is_b is-id is-e =
    ap₂ taken is-id is-e
    ∙ ap (λ (x : List ℕ). taken (id_of x (get_or w 0 0) (get_or w 22 0)) (set x (confirmed_at (get_or w 0 0) (get_or w 22 0)) 1))
    (is_b ∙ ap (λ (x : List ℕ). put_time x (received_at (get_or w 0 0) (get_or w 22 0)) (time (get_or w 7 0) (get_or w 8 0))) is-a)

pub hears : (d e : Desk) (slots left : List ℕ) (datagram id : ℕ) → taken id left ≡ payload_taken d.words slots
    → e ≡ desk (step_words d.words 0 0 0 no_step) (answer_words d.answer (answer.Payload id (get_or d.words 26 0) (datagram - 16)) no_ask) (ask_bytes d.ask no_ask)
    → heard e left ≡ payload_heard d slots datagram
hears d e slots left datagram id is told =
    ap (λ (x : Desk). heard x left)
    (told
    ∙ ap
    (λ (x : List ℕ). desk x (answer_words d.answer (answer.Payload id (get_or d.words 26 0) (datagram - 16)) no_ask) (ask_bytes d.ask no_ask))
    (idle_words d.words))
    ∙ ap
    (λ (x : Taken). heard
    (desk (record_words d.words (with_ask (record_in d.words) idle)) (answer_words d.answer (answer.Payload x.id (get_or d.words 26 0) (datagram - 16)) no_ask) (ask_bytes d.ask no_ask))
    x.slots)
    is

-- ---- what was seen is to be opened

pub never : {X : Type 0} → false ≡ true → X
never h = absurd (let z : ◌≡◌ {A = ℕ} 0 1 = ap (λ (b : Bool). count b) h in omega (arith, z))
  where
    count : Bool → ℕ
    count true = 1
    count false = 0

-- what `ok` leaves of a result is the result's own
pub had : {T E : Type 0} (r : Result T E) (o : Option T) → o ≡ result_ok r → (x : T) → o ≡ Some x → r ≡ Ok x
had {T} (Ok y) o is-o x there = let e : ◌≡◌ {A = Option T} (Some y) (Some x) = sym is-o ∙ there in let f : y ≡ x = cc in ap Ok f
had {T} (Err y) o is-o x there = absurd (let e : ◌≡◌ {A = Option T} None (Some x) = sym is-o ∙ there in cc)

module _ (slots : List ℕ) (n i : ℕ) (k : PacketType) (d : List ℕ) where
  pub other_tested : Tested slots n i k d None
  unfolding Tested
  other_tested = tt

  pub sealed_tested : (sequence start : ℕ) (r : Result Start ℕ) → r ≡ start_at d → r ≡ Ok (start_as sequence start) → (b : Bool) → b ≡ windowed k → b ≡ true
      → (q : ℕ) → q ≡ refusal width (window_at width slots (window_place n i)) sequence → q ≡ 0 → (p : Bool) → p ≡ ltb (length d) (start + 16) → p ≡ false
      → Tested slots n i k d (Some (sealed_as i k sequence start))
  unfolding Tested window_refusal pick
  sealed_tested sequence start r is-r at b is_b so q is-q zero p is-p within =
      let win : windowed k ≡ true = sym is_b ∙ so in
      (refl, refl, win, sym is-r ∙ at, simp (win, sym is-q, zero), ltb-false (length d) (start + 16) (sym is-p ∙ within))

request_not_windowed : (k : PacketType) → windowed k ≡ true → is_request k ≡ false
request_not_windowed kind.ConnectionRequest h = never h
request_not_windowed kind.ConnectionDenied h = refl
request_not_windowed kind.Challenge h = refl
request_not_windowed kind.Response h = refl
request_not_windowed kind.KeepAlive h = refl
request_not_windowed kind.Payload h = refl
request_not_windowed kind.Disconnect h = refl

module _ (w slots pending : List ℕ) (addr : Address) (out : ℕ) (d : List ℕ) where
  abbrev here : State
  here = state (record_in w) slots pending

  pub other_seen : Sees here addr out d None
  unfolding Sees
  other_seen = tt

  pub lets : get_or w 11 0 ≡ 0 → (t : ℕ) → t ≡ both_refusal (set_up_in w) (length slots) (length pending) → t ≡ 0 → 1400 ≤ out → (r : ℕ) → r ≡ addresses.refusal addr → r ≡ 0
      → arrival_refusal here addr out ≡ 0
  unfolding arrival_refusal call_refusal lent_refusal before kind_of stage_in record_in pick
  lets idly t is-t fits wide r is-r good = simp (idly, sym is-t, fits, le-ltb out 1400 wide, sym is-r, good)

  module _ (free : arrival_refusal here addr out ≡ 0) where
    pub seen_shape : Shaped slots (get_or w 0 0)
    unfolding record_in set_up_in
    seen_shape = (arrival_shaped (record_in w) slots pending addr out free).0

    pub seen_place : (r : Option ℕ) → r ≡ find_address slots (get_or w 0 0) addr → (i : ℕ) → r ≡ Some i → i < get_or w 0 0
    seen_place r is i at = ((address_found slots (get_or w 0 0) seen_shape addr i).0 (sym is ∙ at)).below

    seen_arrives : (k : PacketType) → type_at d ≡ Ok k → (i : ℕ) → find_address slots (get_or w 0 0) addr ≡ Some i → windowed k ≡ true
        → (sequence start : ℕ) → start_at d ≡ Ok (start_as sequence start) → window_refusal slots (get_or w 0 0) i k sequence ≡ 0 → start + 16 ≤ length d
        → arrives here addr out d ≡ leaves here (open_asked (record_in w) slots (get_or w 0 0) true i k sequence start out d)
    unfolding arrives by_kind kind_arrives sealed_from sender by_start sealed_at record_in set_up_in pick
    seen_arrives k typed i found win sequence start at window long =
        simp (free, typed, request_not_windowed k win, found, at, window, le-ltb (length d) (start + 16) long)

    pub sees : (k : PacketType) (t : Result PacketType ℕ) → t ≡ type_at d → t ≡ Ok k → (f : Option ℕ) → f ≡ find_address slots (get_or w 0 0) addr → (i : ℕ) → f ≡ Some i → (r : Option Sealed)
        → Tested slots (get_or w 0 0) i k d r → Sees here addr out d r
    unfolding Sees Tested record_in set_up_in
    sees k t is-t typed f is_f i at None tested = tt
    sees k t is-t typed f is_f i at (Some p) tested =
        let one : p.place ≡ i = tested.0 in
        let two : p.kind ≡ k = tested.1 in
        let e = seen_arrives k (sym is-t ∙ typed) i (sym is_f ∙ at) tested.2 p.sequence p.start tested.3 tested.4 tested.5 in (
          e
              ∙ ap₂ (λ (x : ℕ) (y : PacketType). leaves here (open_asked (record_in w) slots (get_or w 0 0) true x y p.sequence p.start out d)) (sym one) (sym two),
          seen_shape,
          omega (arith, one, seen_place f is_f i at),
          typed_long d k (sym is-t ∙ typed),
        )

-- ---- the answer is to a payload of a slot

module _ (w : List ℕ) (granted : ℕ) where
  pub opens_step : (granted ≡ 0 → ⊥) → get_or w 11 0 ≡ 1 → get_or w 24 0 ≡ 5 → not (eqb (get_or w 27 0) 0) ≡ true → Opens w granted
  unfolding stage_in kind_in pick
  opens_step so step typed connected =
      record { said = simp (ne_eqb granted 0 so); step = simp (step, typed, connected) }

module _ (w : List ℕ) (granted : ℕ) (slots pending : List ℕ) (datagram out : ℕ) where
  payload_shape : both_refusal (set_up_in w) (length slots) (length pending) ≡ 0 → Shaped slots (get_or w 0 0)
  unfolding set_up_in
  payload_shape tables = (both_shaped (set_up_in w) slots pending tables).0

  payload_fits : Opens w granted → both_refusal (set_up_in w) (length slots) (length pending) ≡ 0 → datagram ≡ get_or w 12 0 → out ≡ get_or w 13 0 → 1400 ≤ out
      → get_or w 22 0 < get_or w 0 0 → ltb datagram (get_or w 26 0 + 16) ≡ false → open_answer_refusal (state (record_in w) slots pending) datagram out ≡ 0
  unfolding open_refusal answer_refusal unfit misfits misplaced room_of before kind_of record_in set_up_in pick
  payload_fits step tables long room wide place within =
      simp (step.step, tables, eq-eqb datagram (get_or w 12 0) long, eq-eqb out (get_or w 13 0) room, lt-leb (get_or w 0 0) (get_or w 22 0) place, within, le-ltb out 1400 wide)

  pub hears_payload : Opens w granted → (t : ℕ) → t ≡ both_refusal (set_up_in w) (length slots) (length pending) → t ≡ 0 → datagram ≡ get_or w 12 0 → out ≡ get_or w 13 0 → 1400 ≤ out
      → get_or w 22 0 < get_or w 0 0 → (p : Bool) → p ≡ ltb datagram (get_or w 26 0 + 16) → not p ≡ true → Hears w granted slots pending datagram out
  hears_payload step t is-t fits long room wide place p is-p whole =
      let within : ltb datagram (get_or w 26 0 + 16) ≡ false = sym is-p ∙ not-true p whole in
      record {
        opens = step;
        fits = payload_fits step (sym is-t ∙ fits) long room wide place within;
        shape = payload_shape (sym is-t ∙ fits);
        place = place;
        long = ltb-false datagram (get_or w 26 0 + 16) within;
      }

-- ---- either way comes to the same

seen_is : (t : State) (addr : Address) (out : ℕ) (datagram : List ℕ) (place : ℕ) (k : PacketType) (sequence start : ℕ) → Sees t addr out datagram (Some (sealed_as place k sequence start))
    → arrives t addr out datagram ≡ leaves t (open_asked t.server t.slots t.server.set.slots true place k sequence start out datagram)
unfolding Sees
seen_is t addr out datagram place k sequence start s = s.0

pub seen_fits : (w slots pending : List ℕ) (addr : Address) (out : ℕ) (datagram : List ℕ) (r : Option Sealed) (place : ℕ) (k : PacketType) (sequence start : ℕ)
    → Sees (state (record_in w) slots pending) addr out datagram r → r ≡ Some (sealed_as place k sequence start)
    → Shaped slots (get_or w 0 0) × (place < get_or w 0 0) × (18 ≤ length datagram)
unfolding Sees record_in set_up_in
seen_fits w slots pending addr out datagram r place k sequence start sees is =
    let s : Sees (state (record_in w) slots pending) addr out datagram (Some (sealed_as place k sequence start)) = subst (Sees (state (record_in w) slots pending) addr out datagram) is sees in
    (s.1, s.2, s.3)

pub seen_told : (d e : Desk) (slots pending : List ℕ) (addr : Address) (out : ℕ) (datagram : List ℕ) (r : Option Sealed) (place : ℕ) (k : PacketType) (sequence start : ℕ)
    → Sees (state (record_in d.words) slots pending) addr out datagram r → r ≡ Some (sealed_as place k sequence start)
    → e ≡ turn_on d (open_asked (record_in d.words) slots (get_or d.words 0 0) true place k sequence start out datagram)
    → moved e slots pending ≡ moved_as d (arrives (state (record_in d.words) slots pending) addr out datagram)
unfolding record_in set_up_in
seen_told d e slots pending addr out datagram r place k sequence start sees is told =
    let here = state (record_in d.words) slots pending in
    ap (λ (x : Desk). moved x slots pending) told
    ∙ sym (ap (moved_as d) (seen_is here addr out datagram place k sequence start (subst (Sees here addr out datagram) is sees)))

opens_by_step : (t : State) (granted : Bool) (held out datagram : List ℕ) → open_answer_refusal t (length datagram) (length out) ≡ 0 → granted ≡ true
    → opens t granted held out datagram ≡ opensAs t held out datagram t.server.ask.stage
unfolding opens pick
opens_by_step t granted held out datagram fits so = simp (fits, so)

payload_opened : (w slots pending held out datagram : List ℕ)
    → opensAs (state (record_in w) slots pending) held out datagram (Packet true (get_or w 22 0) kind.Payload (get_or w 25 0) (get_or w 26 0))
    ≡ written
    (came (closed (record_in w) (answer.Payload (payload_taken w slots).id (get_or w 26 0) (length datagram - 16))) (payload_taken w slots).slots pending)
    held out
unfolding opensAs packet_opened slot_heard slot_body slot_says read_body record_in set_up_in pick
payload_opened w slots pending held out datagram =
    simp (le-ltb (length (part datagram (get_or w 26 0) (length datagram - 16 - get_or w 26 0))) 0 (omega arith))

payload_opens : (w : List ℕ) (granted : ℕ) (slots pending held out datagram : List ℕ) → Hears w granted slots pending (length datagram) (length out)
    → opens (state (record_in w) slots pending) (yes? granted) held out datagram
    ≡ written
    (came (closed (record_in w) (answer.Payload (payload_taken w slots).id (get_or w 26 0) (length datagram - 16))) (payload_taken w slots).slots pending)
    held out
unfolding record_in
payload_opens w granted slots pending held out datagram h =
    opens_by_step (state (record_in w) slots pending) (yes? granted) held out datagram h.fits h.opens.said
    ∙ ap (opensAs (state (record_in w) slots pending) held out datagram) h.opens.step
    ∙ payload_opened w slots pending held out datagram

pub heard_told : (d e : Desk) (granted : ℕ) (slots left pending held out datagram : List ℕ) → Hears d.words granted slots pending (length datagram) (length out)
    → heard e left ≡ payload_heard d slots (length datagram)
    → wrote (moved e left pending) held out ≡ wrote_as d (opens (state (record_in d.words) slots pending) (yes? granted) held out datagram)
heard_told d e granted slots left pending held out datagram h is =
    ap (λ (x : Heard). wrote (moved x.desk x.slots pending) held out) is
    ∙ sym (ap (wrote_as d) (payload_opens d.words granted slots pending held out datagram h))
