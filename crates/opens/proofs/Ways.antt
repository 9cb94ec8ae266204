-- Each way out of a call is a case of its definition, by the tests and the callees' answers that led there.
use Rattle.std.specs.Prelude.{Option, Some, None, Result, Ok, Err}
use mathlib.Core.Path.{◌≡◌, refl, sym, ap, ap₂, ◌∙◌}
use mathlib.Core.Bool.{Bool, true, false, ◌||◌, true≢false}
use Prim.Native.Nat.{ℕ, ◌+◌, ◌-◌, ◌%◌, ◌^◌, ◌≤◌, ◌<◌}
use native.Mathlib.Omega.{arith}
use mathlib.Core.List.{List}
use lib.ListN.{length}
use lib.Dec.{eqb, ltb, leb}
use borrow.Author.Tests.{eq-eqb, ne_eqb, ltb-false, leb-false}
use Rattle.serialize.specs.Choice.{pick}
use Rattle.serialize.specs.Runs.{part}
use Rattle.serialize.proofs.Lists.{length_part}
use Rattle.refusal.specs.Verdicts.{verdict}
use Rattle.replay_protection.specs.Replay.{arrive}
use Rattle.replay_protection.specs.Stored.{window_at, put_window}
use Rattle.replay_protection.specs.Ours.{width}
use Rattle.bodies.specs.declared.PacketType.{PacketType}
use Rattle.bodies.specs.declared.PacketType.TheVariants as kind
use Rattle.bodies.specs.declared.Packet.{Packet}
use Rattle.bodies.specs.declared.Packet.TheVariants as packet
use Rattle.bodies.specs.declared.challenge.ChallengeToken.{ChallengeToken}
use Rattle.bodies.specs.Kinds.{windowed, is_request}
use Rattle.bodies.specs.Bodies.{kind_of, wants, least, numbers, read_body}
use Rattle.bodies.specs.Tokens.{token_at}
use Rattle.asks.specs.declared.Ask as asks
use Rattle.asks.specs.declared.Work.TheVariants.{Open}
use Rattle.asks.specs.Asks.{token_ask}
use Rattle.addresses.specs.declared.Address.{Address}
use Rattle.encode.specs.Encodes.{need}
use Rattle.places.specs.Layout.{Shaped, window_place, id_of, address_of}
use Rattle.places.specs.Finds.{find_id, find_free}
use Rattle.places.proofs.Searches.{free_found}
use Rattle.records.specs.Records.{emptied}
use Rattle.server.specs.declared.NetcodeServer.{NetcodeServer}
use Rattle.server.specs.declared.Ask.{Ask}
use Rattle.server.specs.declared.Goal.{Goal}
use Rattle.server.specs.declared.Goal.TheVariants.{Connecting}
use Rattle.server.specs.declared.Stage.{Stage}
use Rattle.server.specs.declared.Stage.TheVariants as stage
use Rattle.server.specs.declared.Answer.TheVariants as answer
use Rattle.server.specs.Asking.{asked}
use Rattle.server.specs.Held.{held_challenge}
use Rattle.server.specs.Ready.{both_refusal, room_of, misplaced, misfits, answer_refusal}
use Rattle.server.proofs.Inversions.{neither, both_shaped, answer_fits}
use Rattle.turns.specs.declared.Turn.{Turn}
use Rattle.turns.specs.Outcomes.{refused, closed, asking, State, state, Outcome, came, leaves, refuses, Half, half, Written, written, open_refusal, open_verdict}
use Rattle.turns.specs.Packets.{keep_alive, seal_ask_with, seal_ask, seal_out, Sealing, sealing, spoken, Prepared, prepared, holding, denied}
use Rattle.turns.proofs.Ways.{keep_alive_short, open_tested}
use Rattle.opens.specs.Heard.{accepted, touched, confirmed, slot_says, slot_body, challenge_asked, pending_says, pending_body, body_in, slot_heard, pending_heard}
use Rattle.opens.specs.Responses.{connecting, send_key_of, counter_of, by_free, by_id, responded}
use Rattle.opens.specs.Opens.{packet_opened, from_response, opened, open_answer_refusal, opens}

-- ---- the window: w is whether the type is windowed

module _ (t : List ℕ) (n i : ℕ) (k : PacketType) (sequence : ℕ) (w : Bool) (e : w ≡ windowed k) where
  abbrev window_after : Bool → List ℕ
  window_after b = pick b (put_window t (window_place n i) (arrive width (window_at width t (window_place n i)) sequence)) t

  pub window_moved : w ≡ true → (u : List ℕ) → u ≡ put_window t (window_place n i) (arrive width (window_at width t (window_place n i)) sequence)
      → u ≡ accepted t n i k sequence
  unfolding accepted pick
  window_moved y u f = f ∙ ap window_after (sym y ∙ e)

  pub window_left_lem : w ≡ false → t ≡ accepted t n i k sequence
  unfolding accepted pick
  window_left_lem y = ap window_after (sym y ∙ e)

-- ---- what a good packet does to its slot, by the packet

module _ (s : NetcodeServer) (t : List ℕ) (n i start end : ℕ) (p : Packet) (r : Turn) where
  module _ (e : r ≡ closed s answer.Nothing) where
    pub slot_request : (a b : ℕ) → p ≡ packet.ConnectionRequest a b → half r t ≡ slot_says s t n i start end p
    unfolding slot_says
    slot_request a b f = ap (λ (x : Turn). half x t) e ∙ ap (slot_says s t n i start end) (sym f)

    pub slot_denied : p ≡ packet.ConnectionDenied → half r t ≡ slot_says s t n i start end p
    unfolding slot_says
    slot_denied f = ap (λ (x : Turn). half x t) e ∙ ap (slot_says s t n i start end) (sym f)

    pub slot_challenge : (a : ℕ) → p ≡ packet.Challenge a → half r t ≡ slot_says s t n i start end p
    unfolding slot_says
    slot_challenge a f = ap (λ (x : Turn). half x t) e ∙ ap (slot_says s t n i start end) (sym f)

    pub slot_response : (a : ℕ) → p ≡ packet.Response a → half r t ≡ slot_says s t n i start end p
    unfolding slot_says
    slot_response a f = ap (λ (x : Turn). half x t) e ∙ ap (slot_says s t n i start end) (sym f)

    pub slot_alive : (a b : ℕ) → p ≡ packet.KeepAlive a b → (u : List ℕ) → u ≡ confirmed t n i → half r u ≡ slot_says s t n i start end p
    unfolding slot_says
    slot_alive a b f u g = ap₂ half e g ∙ ap (slot_says s t n i start end) (sym f)

  pub slot_payload : p ≡ packet.Payload → (id : ℕ) → id ≡ id_of t n i → (u : List ℕ) → u ≡ confirmed t n i
      → r ≡ closed s (answer.Payload id start end) → half r u ≡ slot_says s t n i start end p
  unfolding slot_says
  slot_payload f id g u h e =
      ap₂ half (e ∙ ap (λ (x : ℕ). closed s (answer.Payload x start end)) g) h ∙ ap (slot_says s t n i start end) (sym f)

  pub slot_ended : p ≡ packet.Disconnect → (id : ℕ) → id ≡ id_of t n i → (addr : Address) → addr ≡ address_of t n i → (u : List ℕ) → u ≡ emptied t i
      → r ≡ closed s (answer.ClientDisconnected id addr 0 None) → half r u ≡ slot_says s t n i start end p
  unfolding slot_says
  slot_ended f id g addr k u h e =
      ap₂ half (e ∙ ap₂ (λ (x : ℕ) (y : Address). closed s (answer.ClientDisconnected x y 0 None)) g k) h ∙ ap (slot_says s t n i start end) (sym f)

-- ---- what a good packet of a pending sender leads to

pub challenge_asked_lem : (s : NetcodeServer) (j sequence start datagram out : ℕ) (a : asks.Ask)
    → a ≡ token_ask Open s.set.challenge_key sequence (start + 8) (start + 8 + 300)
    → (b : Ask) → b ≡ asked a → (r : Turn) → r ≡ asking s (stage.Challenge j (start + 8)) datagram out b
    → r ≡ challenge_asked s j sequence start datagram out
unfolding challenge_asked
challenge_asked_lem s j sequence start datagram out a e b f r g =
    g ∙ ap (asking s (stage.Challenge j (start + 8)) datagram out) (f ∙ ap asked e)

module _ (s : NetcodeServer) (j start datagram out : ℕ) (p : Packet) (r : Turn) where
  module _ (e : r ≡ closed s answer.Nothing) where
    pub pending_request : (a b : ℕ) → p ≡ packet.ConnectionRequest a b → r ≡ pending_says s j start datagram out p
    unfolding pending_says
    pending_request a b f = e ∙ ap (pending_says s j start datagram out) (sym f)

    pub pending_denied : p ≡ packet.ConnectionDenied → r ≡ pending_says s j start datagram out p
    unfolding pending_says
    pending_denied f = e ∙ ap (pending_says s j start datagram out) (sym f)

    pub pending_challenge : (a : ℕ) → p ≡ packet.Challenge a → r ≡ pending_says s j start datagram out p
    unfolding pending_says
    pending_challenge a f = e ∙ ap (pending_says s j start datagram out) (sym f)

    pub pending_alive : (a b : ℕ) → p ≡ packet.KeepAlive a b → r ≡ pending_says s j start datagram out p
    unfolding pending_says
    pending_alive a b f = e ∙ ap (pending_says s j start datagram out) (sym f)

    pub pending_payload : p ≡ packet.Payload → r ≡ pending_says s j start datagram out p
    unfolding pending_says
    pending_payload f = e ∙ ap (pending_says s j start datagram out) (sym f)

    pub pending_ended : p ≡ packet.Disconnect → r ≡ pending_says s j start datagram out p
    unfolding pending_says
    pending_ended f = e ∙ ap (pending_says s j start datagram out) (sym f)

  pub pending_response : (a : ℕ) → p ≡ packet.Response a → r ≡ challenge_asked s j a start datagram out → r ≡ pending_says s j start datagram out p
  unfolding pending_says
  pending_response a f e = e ∙ ap (pending_says s j start datagram out) (sym f)

-- a response's body is 308 bytes
pub response_long : (p : Packet) (a start room : ℕ) → p ≡ packet.Response a → start + least (kind_of p) ≤ room → start + 308 ≤ room
response_long p a start room e h =
    let k : least (kind_of p) ≡ 308 = ap (λ (x : Packet). least (kind_of x)) e in
    omega arith

-- ---- a body that was read is as long as its packet's least, so the packet fits the datagram

kind_read : (k : PacketType) (b : List ℕ) → kind_of (numbers k b) ≡ k
kind_read kind.ConnectionRequest b = refl
kind_read kind.ConnectionDenied b = refl
kind_read kind.Challenge b = refl
kind_read kind.Response b = refl
kind_read kind.KeepAlive b = refl
kind_read kind.Payload b = refl
kind_read kind.Disconnect b = refl

whole_enough : (k : PacketType) (b : List ℕ) (p : Packet) → read_body k b ≡ Ok p → least (kind_of p) ≤ length b
unfolding read_body pick
whole_enough k b p e = by (ltb (length b) (least k)) refl e
  where
    by : (c : Bool) → ltb (length b) (least k) ≡ c → pick {A = Result Packet ℕ} c (Err 9) (Ok (numbers k b)) ≡ Ok p → least (kind_of p) ≤ length b
    by true f h = absurd (let z : ◌≡◌ {A = ℕ} 0 1 = cc in omega arith)
    by false f h =
        let q : numbers k b ≡ p = cc in
        let l : least k ≤ length b = ltb-false (length b) (least k) f in
        let m : least (kind_of p) ≡ least k = ap (λ (x : Packet). least (kind_of x)) (sym q) ∙ ap least (kind_read k b) in
        omega arith

pub body_fits : (k : PacketType) (d : List ℕ) (start : ℕ) → start + 16 ≤ length d → (b : Result Packet ℕ) → b ≡ body_in k start d → (p : Packet) → b ≡ Ok p
    → start + least (kind_of p) ≤ length d
body_fits k d start h b e p f =
    let w : least (kind_of p) ≤ length (part d start (length d - 16 - start)) = whole_enough k (part d start (length d - 16 - start)) p (sym e ∙ f) in
    let l : length (part d start (length d - 16 - start)) ≡ length d - 16 - start = length_part d start (length d - 16 - start) (omega arith) in
    omega arith

-- ---- after the yes: u is the table with the window moved, b the body

module _ (s : NetcodeServer) (t : List ℕ) (i : ℕ) (k : PacketType) (sequence start : ℕ) (d u : List ℕ) (b : Result Packet ℕ) (read : b ≡ body_in k start d) where
  module _ (moved : u ≡ accepted t s.set.slots i k sequence) where
    abbrev slot_way : Result Packet ℕ → Half
    slot_way x = slot_body s (accepted t s.set.slots i k sequence) s.set.slots i start (length d - 16) x

    pub slot_whole : (p : Packet) → b ≡ Ok p → (v : List ℕ) → v ≡ touched s u s.set.slots i
        → (h : Half) → h ≡ slot_says s v s.set.slots i start (length d - 16) p → h ≡ slot_heard s t i k sequence start d
    unfolding slot_heard slot_body
    slot_whole p f v g h e =
        e
        ∙ ap (λ (x : List ℕ). slot_says s x s.set.slots i start (length d - 16) p) (g ∙ ap (λ (x : List ℕ). touched s x s.set.slots i) moved)
        ∙ ap slot_way (sym f ∙ read)

    pub slot_short : (n : ℕ) → b ≡ Err n → (r : Turn) → r ≡ closed s (answer.Refused n) → half r u ≡ slot_heard s t i k sequence start d
    unfolding slot_heard slot_body
    slot_short n f r e = ap₂ half e moved ∙ ap slot_way (sym f ∙ read)

  module _ (moved : u ≡ accepted t s.set.pending i k sequence) (out : ℕ) where
    abbrev pending_way : Result Packet ℕ → Half
    pending_way x = pending_body s (accepted t s.set.pending i k sequence) s.set.pending i start (length d) out x

    pub pending_whole : (p : Packet) → b ≡ Ok p → (v : List ℕ) → v ≡ touched s u s.set.pending i
        → (r : Turn) → r ≡ pending_says s i start (length d) out p → half r v ≡ pending_heard s t i k sequence start out d
    unfolding pending_heard pending_body
    pending_whole p f v g r e =
        ap₂ half e (g ∙ ap (λ (x : List ℕ). touched s x s.set.pending i) moved) ∙ ap pending_way (sym f ∙ read)

    pub pending_short : (n : ℕ) → b ≡ Err n → (r : Turn) → r ≡ closed s (answer.Refused n) → half r u ≡ pending_heard s t i k sequence start out d
    unfolding pending_heard pending_body
    pending_short n f r e = ap₂ half e moved ∙ ap pending_way (sym f ∙ read)

-- ---- a response whose challenge was opened

-- the keep-alive that connects is sealed, has nothing beside it, and fits the output
pub keep_alive_fits : (p : Packet) (limit i sequence room : ℕ) → p ≡ keep_alive limit i → sequence < 256 ^ 8 → 1400 ≤ room
    → (is_request (kind_of p) ≡ false) × (wants (kind_of p) ≡ 0) × (need (kind_of p) 0 sequence ≤ room)
keep_alive_fits p limit i sequence room e h r =
    let k : need (kind_of p) 0 sequence ≡ need (kind_of (keep_alive limit i)) 0 sequence = ap (λ (x : Packet). need (kind_of x) 0 sequence) e in
    let l : need (kind_of (keep_alive limit i)) 0 sequence ≤ 33 = keep_alive_short i (limit % 4294967296) sequence h in
    let m : need (kind_of p) 0 sequence ≤ room = omega arith in
    (ap (λ (x : Packet). is_request (kind_of x)) e, ap (λ (x : Packet). wants (kind_of x)) e, m)

module _ (s : NetcodeServer) (datagram : ℕ) (held out : List ℕ) (j i : ℕ) (key : List ℕ) (sequence : ℕ) (token : ChallengeToken)
    (x : ℕ) (counted : x ≡ sequence) where
  pub connecting_late : x ≡ 2 ^ 64 - 1 → (r : Turn) → r ≡ closed s (answer.Refused 15)
      → prepared r held out ≡ connecting s datagram held out j i key sequence token
  unfolding connecting pick
  connecting_late l r e = ap (λ (y : Turn). prepared y held out) e ∙ simp (eq-eqb sequence (2 ^ 64 - 1) (sym counted ∙ l))

  abbrev alive : Packet
  alive = keep_alive s.max_clients i

  -- what is asked for and written, with the held bytes
  abbrev sent : ℕ → List ℕ → Sealing → Prepared
  sent y h w = prepared (asking s (stage.Seal (Connecting j i) y w.ask.end) datagram (length out) w.ask) h w.out

  abbrev sealed : Packet → List ℕ → ℕ → Sealing
  sealed p k y = sealing (seal_ask p s.set.protocol_id k y) (seal_out out p y)

  pub connecting_asks : (x ≡ 2 ^ 64 - 1 → ⊥) → (k : List ℕ) → k ≡ key → (p : Packet) → p ≡ alive → (a : Ask) (out' : List ℕ) → sealing a out' ≡ sealed p k x
      → (held' : List ℕ) → held' ≡ held_challenge held token.client_id token.user_data
      → (r : Turn) → r ≡ asking s (stage.Seal (Connecting j i) x a.end) datagram (length out) a
      → prepared r held' out' ≡ connecting s datagram held out j i key sequence token
  unfolding connecting pick seal_ask_with asked
  connecting_asks n k ek p ep a out' e held' eh r f =
      ap (λ (y : Turn). prepared y held' out') f
      ∙ ap₂ (sent x) eh (e ∙ ap₂ (λ (q : Packet) (l : List ℕ). sealed q l x) ep ek)
      ∙ ap (λ (y : ℕ). sent y (held_challenge held token.client_id token.user_data) (sealed alive key y)) counted
      ∙ simp (ne_eqb sequence (2 ^ 64 - 1) (λ z. n (counted ∙ z)))

-- by the lowest free slot, which there is
pub free_few : (t : List ℕ) (n : ℕ) → Shaped t n → (f : Option ℕ) → f ≡ find_free t n → (i : ℕ) → f ≡ Some i → i < 4096
free_few t n s f e i g =
    let b : i < n = ((free_found t n i).0 (sym e ∙ g)).below in
    let m = s.few in
    omega arith

module _ (s : NetcodeServer) (datagram : ℕ) (slots pending held out : List ℕ) (j : ℕ) (token : ChallengeToken)
    (f : Option ℕ) (searched : f ≡ find_free slots s.set.slots) where
  abbrev free_way : Option ℕ → Prepared
  free_way x = by_free s datagram pending held out j token x

  pub free_there : (i : ℕ) → f ≡ Some i
      → (x : Prepared) → x ≡ connecting s datagram held out j i (send_key_of s pending j) (counter_of s pending j) token
      → x ≡ free_way (find_free slots s.set.slots)
  unfolding by_free
  free_there i g x e = e ∙ ap free_way (sym g ∙ searched)

  pub free_nowhere : f ≡ None → (key : List ℕ) → key ≡ send_key_of s pending j → (addr : Address) → addr ≡ address_of pending s.set.pending j
      → (r : Turn) (out' : List ℕ) → spoken r out' ≡ denied s datagram out key addr
      → prepared r held out' ≡ free_way (find_free slots s.set.slots)
  unfolding by_free
  free_nowhere g key ek addr ea r out' e =
      ap (holding held) (e ∙ ap₂ (denied s datagram out) ek ea) ∙ ap free_way (sym g ∙ searched)

-- the pending table is q, emptied at place j; f is what the search for the challenge's id found
module _ (s : NetcodeServer) (slots pending held out : List ℕ) (j at : ℕ) (d : List ℕ) (token : ChallengeToken) (read : token ≡ token_at d at)
    (q : List ℕ) (left : q ≡ emptied pending j) (f : Option ℕ) (searched : f ≡ find_id slots s.set.slots token.client_id) where
  abbrev answer_to : Prepared
  answer_to = responded s slots pending held out j at d

  by_search : by_id s (length d) slots q held out j token f ≡ answer_to
  unfolding responded
  by_search =
      ap₂ (λ (p : List ℕ) (x : ChallengeToken). by_id s (length d) slots p held out j x f) left read
      ∙ ap (by_id s (length d) slots (emptied pending j) held out j (token_at d at))
      (searched ∙ ap (λ (x : ChallengeToken). find_id slots s.set.slots x.client_id) read)

  with_table : (x : Prepared) → x ≡ answer_to → written (came x.turn slots q) x.held x.out ≡ from_response (state s slots pending) j answer_to
  with_table x e = ap₂ (λ (y : Prepared) (p : List ℕ). written (came y.turn slots p) y.held y.out) e left

  pub response_repeated : (k : ℕ) → f ≡ Some k → (r : Turn) → r ≡ closed s answer.Nothing
      → written (came r slots q) held out ≡ from_response (state s slots pending) j answer_to
  unfolding by_id
  response_repeated k g r e =
      with_table (prepared r held out)
      (ap (λ (x : Turn). prepared x held out) e ∙ ap (by_id s (length d) slots q held out j token) (sym g) ∙ by_search)

  pub response_new : f ≡ None → (r : Turn) (held' out' : List ℕ)
      → prepared r held' out' ≡ by_free s (length d) q held out j token (find_free slots s.set.slots)
      → written (came r slots q) held' out' ≡ from_response (state s slots pending) j answer_to
  unfolding by_id
  response_new g r held' out' e =
      with_table (prepared r held' out') (e ∙ ap (by_id s (length d) slots q held out j token) (sym g) ∙ by_search)

-- ---- an ask that fits: its place is there, and its part

neither_holds : (a b : Bool) → a || b ≡ false → (a ≡ false) × (b ≡ false)
neither_holds false false h = (refl, refl)
neither_holds false true h = absurd (true≢false h)
neither_holds true b h = absurd (true≢false h)

well_placed : (place places room at n : ℕ) → misplaced place places room at n ≡ false → (place < places) × (at + n ≤ room)
unfolding misplaced
well_placed place places room at n h =
    let k = neither_holds (leb places place) (ltb room (at + n)) h in
    (leb-false places place k.0, ltb-false room (at + n) k.1)

module _ (connected : Bool) (place : ℕ) (k : PacketType) (sequence start slots pending datagram out : ℕ)
    (h : misfits (stage.Packet connected place k sequence start) slots pending datagram out ≡ false) where
  in_room : (b : Bool) → connected ≡ b → misplaced place (room_of b slots pending) datagram start 16 ≡ false
  unfolding misfits
  in_room b e = ap (λ (x : Bool). misplaced place (room_of x slots pending) datagram start 16) (sym e) ∙ h

  pub slot_fits : connected ≡ true → (place < slots) × (start + 16 ≤ datagram)
  unfolding room_of pick
  slot_fits e = well_placed place slots datagram start 16 (in_room true e)

  pub pending_fits : connected ≡ false → (place < pending) × (start + 16 ≤ datagram)
  unfolding room_of pick
  pending_fits e = well_placed place pending datagram start 16 (in_room false e)

pub same_fit : (x y : Stage) (slots pending datagram out : ℕ) → x ≡ y → misfits x slots pending datagram out ≡ false
    → misfits y slots pending datagram out ≡ false
same_fit x y slots pending datagram out e h = ap (λ (z : Stage). misfits z slots pending datagram out) (sym e) ∙ h

pub challenge_fits : (x : Stage) (place start slots pending datagram out : ℕ) → x ≡ stage.Challenge place start → misfits x slots pending datagram out ≡ false
    → (place < pending) × (start + 300 ≤ datagram)
unfolding misfits
challenge_fits x place start slots pending datagram out e h =
    well_placed place pending datagram start 300 (same_fit x (stage.Challenge place start) slots pending datagram out e h)

-- what an answer that is not refused has
pub answer_ready : (t : State) (datagram out n : ℕ) → n ≡ open_answer_refusal t datagram out → n ≡ 0
    → Shaped t.slots t.server.set.slots × Shaped t.pending t.server.set.pending × (1400 ≤ out)
    × (misfits t.server.ask.stage t.server.set.slots t.server.set.pending datagram out ≡ false)
unfolding open_refusal pick
answer_ready t datagram out r e z =
    let tables = both_refusal t.server.set (length t.slots) (length t.pending) in
    let n = neither (answer_refusal t.server.ask tables 1 t.server.set datagram out) (pick (ltb out 1400) 18 0) (sym e ∙ z) in
    let fit = answer_fits t.server.ask tables 1 t.server.set datagram out n.0 in
    let b = both_shaped t.server.set t.slots t.pending fit.tabled in
    (b.0, b.1, wide (ltb out 1400) refl n.1, fit.fitting)
  where
    wide : (c : Bool) → ltb out 1400 ≡ c → pick {A = ℕ} c 18 0 ≡ 0 → 1400 ≤ out
    wide true e k = absurd (omega arith)
    wide false e k = ltb-false out 1400 e

-- ---- the answer to an ask

pub tables_tested : (s : NetcodeServer) (slots pending : List ℕ) (datagram out : ℕ) (tables : Result (Unit {0}) ℕ)
    → tables ≡ verdict (both_refusal s.set (length slots) (length pending))
    → (r : Result (Unit {0}) ℕ) → r ≡ open_verdict s tables 1 datagram out → r ≡ verdict (open_answer_refusal (state s slots pending) datagram out)
tables_tested s slots pending datagram out tables e r f = open_tested s (both_refusal s.set (length slots) (length pending)) 1 datagram out tables r e f

module _ (t : State) (connected : Bool) (place : ℕ) (k : PacketType) (sequence start out : ℕ) (d : List ℕ) where
  abbrev packet_way : Bool → Outcome
  packet_way b =
      pick b
      (let h = slot_heard t.server t.slots place k sequence start d in came h.turn h.table t.pending)
      (let h = pending_heard t.server t.pending place k sequence start out d in came h.turn t.slots h.table)

  pub opened_slot : connected ≡ true → (r : Turn) (u : List ℕ) → half r u ≡ slot_heard t.server t.slots place k sequence start d
      → came r u t.pending ≡ packet_opened t connected place k sequence start out d
  unfolding packet_opened pick
  opened_slot y r u e = ap (λ (h : Half). came h.turn h.table t.pending) e ∙ sym (ap packet_way y)

  pub opened_pending : connected ≡ false → (r : Turn) (u : List ℕ) → half r u ≡ pending_heard t.server t.pending place k sequence start out d
      → came r t.slots u ≡ packet_opened t connected place k sequence start out d
  unfolding packet_opened pick
  opened_pending y r u e = ap (λ (h : Half). came h.turn t.slots h.table) e ∙ sym (ap packet_way y)

module _ (t : State) (held out d : List ℕ) (x : Stage) where
  pub opened_idle : x ≡ stage.Idle → (r : Turn) → r ≡ refused t.server 17 → written (leaves t r) held out ≡ opened t held out d x
  unfolding opened
  opened_idle e r f = ap (λ (y : Turn). written (leaves t y) held out) f ∙ ap (opened t held out d) (sym e)

  pub opened_token : (addr : Address) (expiry low high : ℕ) → x ≡ stage.Token addr expiry low high → (r : Turn) → r ≡ refused t.server 18
      → written (leaves t r) held out ≡ opened t held out d x
  unfolding opened
  opened_token addr expiry low high e r f = ap (λ (y : Turn). written (leaves t y) held out) f ∙ ap (opened t held out d) (sym e)

  pub opened_seal : (g : Goal) (sequence end : ℕ) → x ≡ stage.Seal g sequence end → (r : Turn) → r ≡ refused t.server 18
      → written (leaves t r) held out ≡ opened t held out d x
  unfolding opened
  opened_seal g sequence end e r f = ap (λ (y : Turn). written (leaves t y) held out) f ∙ ap (opened t held out d) (sym e)

  pub opened_packet : (connected : Bool) (place : ℕ) (k : PacketType) (sequence start : ℕ) → x ≡ stage.Packet connected place k sequence start
      → (r : Turn) (u v : List ℕ) → came r u v ≡ packet_opened t connected place k sequence start (length out) d
      → written (came r u v) held out ≡ opened t held out d x
  unfolding opened
  opened_packet connected place k sequence start e r u v f = ap (λ (y : Outcome). written y held out) f ∙ ap (opened t held out d) (sym e)

  pub opened_challenge : (place start : ℕ) → x ≡ stage.Challenge place start
      → (r : Turn) (v held' out' : List ℕ)
      → written (came r t.slots v) held' out' ≡ from_response t place (responded t.server t.slots t.pending held out place start d)
      → written (came r t.slots v) held' out' ≡ opened t held out d x
  unfolding opened
  opened_challenge place start e r v held' out' f = f ∙ ap (opened t held out d) (sym e)

module _ (t : State) (granted : Bool) (held out d : List ℕ) (n : ℕ) (tested : n ≡ open_answer_refusal t (length d) (length out)) where
  abbrev refusal : ℕ
  refusal = open_answer_refusal t (length d) (length out)

  abbrev way : Bool → Bool → Written
  way a b =
      pick a (pick b (opened t held out d t.server.ask.stage) (written (leaves t (closed t.server (answer.Refused 8))) held out))
      (written (refuses t refusal) held out)

  pub answer_stops : (n ≡ 0 → ⊥) → (r : Turn) → r ≡ refused t.server n → written (leaves t r) held out ≡ opens t granted held out d
  unfolding opens pick
  answer_stops z r e =
      ap (λ (x : Turn). written (leaves t x) held out) (e ∙ ap (refused t.server) tested)
      ∙ sym (ap (λ (b : Bool). way b granted) (ne_eqb refusal 0 (λ y. z (tested ∙ y))))

  module _ (free : n ≡ 0) where
    passes : eqb refusal 0 ≡ true
    passes = eq-eqb refusal 0 (sym tested ∙ free)

    pub answer_granted : granted ≡ true → (r : Turn) (u v held' out' : List ℕ)
        → written (came r u v) held' out' ≡ opened t held out d t.server.ask.stage
        → written (came r u v) held' out' ≡ opens t granted held out d
    unfolding opens pick
    answer_granted y r u v held' out' e = e ∙ sym (ap₂ way passes y)

    pub answer_declined : granted ≡ false → (r : Turn) → r ≡ closed t.server (answer.Refused 8) → written (leaves t r) held out ≡ opens t granted held out d
    unfolding opens pick
    answer_declined y r e = ap (λ (x : Turn). written (leaves t x) held out) e ∙ sym (ap₂ way passes y)
