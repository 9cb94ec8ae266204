-- Each way out of a call is a case of its definition, by the tests and the callees' answers that led there.
use Rattle.std.specs.Prelude.{Option, Some, None}
use mathlib.Core.Path.{◌≡◌, refl, sym, ap, ap₂, ◌∙◌}
use mathlib.Core.Bool.{Bool, true, false}
use Prim.Native.Nat.{ℕ, ◌+◌, ◌-◌, ◌^◌, ◌≤◌, ◌<◌}
use native.Mathlib.Omega.{arith}
use mathlib.Core.List.{List, []}
use lib.ListN.{length}
use lib.Dec.{eqb, ltb}
use borrow.Author.Tests.{eq-eqb, ne_eqb, eqb-true, eqb-false, lt-ltb, le-ltb, ltb-true, ltb-false}
use Rattle.serialize.specs.Choice.{pick}
use Rattle.serialize.proofs.Choice.{by_test}
use Rattle.prefix.specs.Head.{fewest}
use Rattle.bodies.specs.declared.PacketType.{PacketType}
use Rattle.bodies.specs.declared.PacketType.TheVariants as kind
use Rattle.bodies.specs.declared.Packet.{Packet}
use Rattle.bodies.specs.declared.Packet.TheVariants.{Payload, Disconnect}
use Rattle.bodies.specs.Kinds.{is_request}
use Rattle.bodies.specs.Bodies.{kind_of, wants, body_length}
use Rattle.addresses.specs.declared.Address.{Address}
use Rattle.times.specs.declared.Time.{Time}
use Rattle.times.specs.Times.{past}
use Rattle.encode.specs.Encodes.{need, shown, tag_places}
use Rattle.places.specs.Layout.{Shaped}
use Rattle.places.specs.Finds.{find_id}
use Rattle.places.proofs.Searches.{id_found}
use Rattle.records.specs.Records.{emptied}
use Rattle.server.specs.declared.NetcodeServer.{NetcodeServer}
use Rattle.server.specs.declared.Ask.{Ask}
use Rattle.server.specs.declared.Goal.TheVariants.{Sending, Ending}
use Rattle.server.specs.declared.Stage.TheVariants.{Seal}
use Rattle.server.specs.declared.Answer.TheVariants.{Nothing, ClientDisconnected}
use Rattle.server.specs.Asking.{asked}
use Rattle.server.specs.Ready.{slots_refusal}
use Rattle.server.proofs.Ways.{first_refuses, second_decides}
use Rattle.server.proofs.Inversions.{slots_shaped, neither, call_free}
use Rattle.turns.specs.declared.Turn.{Turn}
use Rattle.turns.specs.Outcomes.{answered, refused, asking}
use Rattle.turns.specs.Packets.{keep_alive, seal_ask_with, seal_out_with, seal_ask, seal_out, Sealing, sealing, Spoken, spoken}
use Rattle.sending.specs.Packets.{ready_refusal, limit_refusal, sending_under, sending, payload_refusal, by_client, generated, Served, served, ending_under, ending}
use Rattle.sending.specs.Clients.{over_zero, overdue_at, overdue, silent, keeping, idly, slot_updated, updated_at, ended_at, client_updated, disconnected, slot_attended, attended}

-- ---- a packet's need

-- what is asked to be written here has a body of 1,300 bytes at most
pub body_small : (k : PacketType) (given : ℕ) → given ≤ 1300 → body_length k given ≤ 1300
body_small kind.ConnectionRequest given h = omega arith
body_small kind.ConnectionDenied given h = omega arith
body_small kind.Challenge given h = omega arith
body_small kind.Response given h = omega arith
body_small kind.KeepAlive given h = omega arith
body_small kind.Payload given h = h
body_small kind.Disconnect given h = omega arith

pub packet_sized : (k : PacketType) (given sequence : ℕ) → is_request k ≡ false → 1 + fewest sequence + body_length k given + 16 ≡ need k given sequence
unfolding shown tag_places pick
packet_sized k given sequence e = simp e

-- ---- a packet that its slot goes on after

module _ (s : NetcodeServer) (i : ℕ) (packet : Packet) (bytes out : List ℕ) where
  abbrev sent_under_lem : List ℕ → ℕ → Spoken
  sent_under_lem key x = sending_under s i packet bytes key x out

  abbrev asked_for : ℕ → Sealing → Spoken
  asked_for x w = spoken (asking s (Seal (Sending i) x w.ask.end) 0 (length out) w.ask) w.out

  abbrev to_seal : List ℕ → ℕ → Sealing
  to_seal key x = sealing (seal_ask_with packet (length bytes) s.set.protocol_id key x) (seal_out_with out packet bytes x)

  pub sending_late : (key : List ℕ) (sequence x : ℕ) → x ≡ sequence → x ≡ 2 ^ 64 - 1 → (r : Turn) → r ≡ refused s 15
      → spoken r out ≡ sent_under_lem key sequence
  unfolding sending_under pick
  sending_late key sequence x counted l r e = ap (λ (y : Turn). spoken y out) e ∙ simp (eq-eqb sequence (2 ^ 64 - 1) (sym counted ∙ l))

  module _ (k : PacketType) (typed : k ≡ kind_of packet) (x b : ℕ) (more : x ≡ 2 ^ 64 - 1 → ⊥) (sized : b ≡ need k (length bytes) x) where
    needed : b ≡ need (kind_of packet) (length bytes) x
    needed = sized ∙ ap (λ (y : PacketType). need y (length bytes) x) typed

    short : (key : List ℕ) → length out < b → spoken (refused s 14) out ≡ sent_under_lem key x
    unfolding sending_under pick
    short key h =
        let n = needed in
        let l : length out < need (kind_of packet) (length bytes) x = omega arith in
        simp (ne_eqb x (2 ^ 64 - 1) more, lt-ltb (length out) (need (kind_of packet) (length bytes) x) l)

    roomy : (key : List ℕ) → b ≤ length out → asked_for x (to_seal key x) ≡ sent_under_lem key x
    unfolding sending_under pick seal_ask_with asked
    roomy key h =
        let n = needed in
        let l : need (kind_of packet) (length bytes) x ≤ length out = omega arith in
        simp (ne_eqb x (2 ^ 64 - 1) more, le-ltb (length out) (need (kind_of packet) (length bytes) x) l)

    -- the packet fits, so it can be written
    pub sending_fits : (is_request (kind_of packet) ≡ false) → (wants (kind_of packet) ≡ 0) → b ≤ length out
        → (is_request (kind_of packet) ≡ false) × (wants (kind_of packet) ≡ 0) × (need (kind_of packet) (length bytes) x ≤ length out)
    sending_fits e f h = let n = needed in (e, f, omega arith)

    module _ (key : List ℕ) (sequence : ℕ) (counted : x ≡ sequence) where
      pub sending_short : length out < b → (r : Turn) → r ≡ refused s 14 → spoken r out ≡ sent_under_lem key sequence
      sending_short h r e = ap (λ (y : Turn). spoken y out) e ∙ short key h ∙ ap (sent_under_lem key) counted

      pub sending_asks : b ≤ length out → (l : List ℕ) → l ≡ key → (a : Ask) (out' : List ℕ) → sealing a out' ≡ to_seal l x
          → (r : Turn) → r ≡ asking s (Seal (Sending i) x a.end) 0 (length out) a → spoken r out' ≡ sent_under_lem key sequence
      sending_asks h l el a out' e r f =
          ap (λ (y : Turn). spoken y out') f ∙ ap (asked_for x) e ∙ roomy l h ∙ ap₂ sent_under_lem el counted

-- a keep-alive is sealed, and has nothing beside it
pub alive_sends : (s : NetcodeServer) (slots : List ℕ) (i : ℕ) (out : List ℕ) (p : Packet) → p ≡ keep_alive s.max_clients i
    → (x : Spoken) → x ≡ sending s slots i p [] out → x ≡ sending s slots i (keep_alive s.max_clients i) [] out
alive_sends s slots i out p e x f = f ∙ ap (λ (y : Packet). sending s slots i y [] out) e

-- ---- the packet that ends a slot

module _ (s : NetcodeServer) (id : ℕ) (slots : List ℕ) (i : ℕ) (out : List ℕ) where
  abbrev ended_under : Address → List ℕ → ℕ → Served
  ended_under addr key x = ending_under s id slots i addr key x out

  abbrev last_ask : Address → ℕ → Sealing → Served
  last_ask addr x w = served (asking s (Seal (Ending id addr) x w.ask.end) 0 (length out) w.ask) (emptied slots i) w.out

  abbrev to_end : List ℕ → ℕ → Sealing
  to_end key x = sealing (seal_ask Disconnect s.set.protocol_id key x) (seal_out out Disconnect x)

  module _ (addr : Address) (key : List ℕ) (sequence : ℕ) (a : Address) (there : a ≡ addr) (x : ℕ) (counted : x ≡ sequence) where
    pub ending_late : x ≡ 2 ^ 64 - 1 → (u : List ℕ) → u ≡ emptied slots i → (r : Turn) → r ≡ answered s (ClientDisconnected id a 0 (Some 15))
        → served r u out ≡ ended_under addr key sequence
    unfolding ending_under pick
    ending_late l u e r f =
        ap₂ (λ (y : Turn) (z : List ℕ). served y z out) (f ∙ ap (λ (y : Address). answered s (ClientDisconnected id y 0 (Some 15))) there) e
        ∙ simp (eq-eqb sequence (2 ^ 64 - 1) (sym counted ∙ l))

    module _ (more : x ≡ 2 ^ 64 - 1 → ⊥) (b : ℕ) (sized : b ≡ need (kind_of Disconnect) 0 x) where
      end_short : length out < b → served (refused s 14) slots out ≡ ended_under addr key x
      unfolding ending_under pick
      end_short h =
          let l : length out < need (kind_of Disconnect) 0 x = omega arith in
          simp (ne_eqb x (2 ^ 64 - 1) more, lt-ltb (length out) (need (kind_of Disconnect) 0 x) l)

      end_roomy : b ≤ length out → last_ask addr x (to_end key x) ≡ ended_under addr key x
      unfolding ending_under pick seal_ask_with asked
      end_roomy h =
          let l : need (kind_of Disconnect) 0 x ≤ length out = omega arith in
          simp (ne_eqb x (2 ^ 64 - 1) more, le-ltb (length out) (need (kind_of Disconnect) 0 x) l)

      pub ending_short : length out < b → (r : Turn) → r ≡ refused s 14 → served r slots out ≡ ended_under addr key sequence
      ending_short h r e = ap (λ (y : Turn). served y slots out) e ∙ end_short h ∙ ap (ended_under addr key) counted

      pub ending_asks : b ≤ length out → (l : List ℕ) → l ≡ key → (u : List ℕ) → u ≡ emptied slots i
          → (q : Ask) (out' : List ℕ) → sealing q out' ≡ to_end l x
          → (r : Turn) → r ≡ asking s (Seal (Ending id a) x q.end) 0 (length out) q → served r u out' ≡ ended_under addr key sequence
      ending_asks h l el u eu q out' e r f =
          ap₂ (λ (y : Turn) (z : List ℕ). served y z out') f eu
          ∙ ap₂ (λ (y : Address) (w : Sealing). last_ask y x w) there (e ∙ ap (λ (y : List ℕ). to_end y x) el)
          ∙ end_roomy h
          ∙ ap (ended_under addr key) counted

-- ---- a payload

over_limit : (n : ℕ) → 1300 < n → limit_refusal n ≡ 21
unfolding limit_refusal pick
over_limit n h = simp (lt-ltb 1300 n h)

within_limit : (n : ℕ) → n ≤ 1300 → limit_refusal n ≡ 0
unfolding limit_refusal pick
within_limit n h = simp (le-ltb 1300 n h)

only_within : (n : ℕ) → limit_refusal n ≡ 0 → n ≤ 1300
only_within n e = by_test (ltb 1300 n) (λ b. let z = over_limit n (ltb-true 1300 n b) in omega arith) (λ b. ltb-false 1300 n b)

-- r is what the first test gave
module _ (s : NetcodeServer) (slots payload r : ℕ) (tested : r ≡ ready_refusal s slots) where
  pub payload_unready : (r ≡ 0 → ⊥) → r ≡ payload_refusal s slots payload
  payload_unready n = first_refuses (ready_refusal s slots) (limit_refusal payload) r tested n

  pub payload_long : r ≡ 0 → 1300 < payload → 21 ≡ payload_refusal s slots payload
  payload_long z h = second_decides (ready_refusal s slots) (limit_refusal payload) r tested z 21 (sym (over_limit payload h))

  pub payload_passes : r ≡ 0 → payload ≤ 1300 → 0 ≡ payload_refusal s slots payload
  payload_passes z h = second_decides (ready_refusal s slots) (limit_refusal payload) r tested z 0 (sym (within_limit payload h))

-- slots that pass have their places, and a slot that is found is one of them
pub ready_shaped : (s : NetcodeServer) (slots : List ℕ) (r : ℕ) → r ≡ ready_refusal s (length slots) → r ≡ 0 → Shaped slots s.set.slots
ready_shaped s slots r tested z =
    slots_shaped s.set slots (call_free s.ask (slots_refusal s.set (length slots)) (sym tested ∙ z)).1

pub found_below : (slots : List ℕ) (n id : ℕ) → Shaped slots n → (f : Option ℕ) → f ≡ find_id slots n id → (i : ℕ) → f ≡ Some i → i < n
found_below slots n id shape f e i g = ((id_found slots n shape id i).0 (sym e ∙ g)).below

-- a search finds one place, or none
pub one_found : (f : Option ℕ) → f ≡ None → (i : ℕ) → f ≡ Some i → ⊥
one_found f e i g = let z : ◌≡◌ {A = ℕ} 0 1 = cc in omega (arith, z)

pub same_found : (f : Option ℕ) (i : ℕ) → f ≡ Some i → (j : ℕ) → f ≡ Some j → i ≡ j
same_found f i e j g = cc

module _ (s : NetcodeServer) (slots : List ℕ) (id : ℕ) (payload out : List ℕ) (r : ℕ) (tested : r ≡ payload_refusal s (length slots) (length payload)) where
  pub generate_refused : (r ≡ 0 → ⊥) → (t : Turn) → t ≡ refused s r → spoken t out ≡ generated s slots id payload out
  unfolding generated pick
  generate_refused n t e =
      ap (λ (y : Turn). spoken y out) e
      ∙ ap (λ (m : ℕ). spoken (refused s m) out) tested
      ∙ simp (ne_eqb (payload_refusal s (length slots) (length payload)) 0 (λ z. n (tested ∙ z)))

  module _ (zero : r ≡ 0) where
    both : (ready_refusal s (length slots) ≡ 0) × (limit_refusal (length payload) ≡ 0)
    both = neither (ready_refusal s (length slots)) (limit_refusal (length payload)) (sym tested ∙ zero)

    pub generate_shaped : Shaped slots s.set.slots
    generate_shaped = ready_shaped s slots (ready_refusal s (length slots)) refl both.0

    pub generate_small : length payload ≤ 1300
    generate_small = only_within (length payload) both.1

    module _ (f : Option ℕ) (searched : f ≡ find_id slots s.set.slots id) where
      onto : by_client s slots payload out f ≡ generated s slots id payload out
      unfolding generated pick
      onto =
          ap (by_client s slots payload out) searched
          ∙ simp (eq-eqb (payload_refusal s (length slots) (length payload)) 0 (sym tested ∙ zero))

      pub generate_found : (i : ℕ) → f ≡ Some i → (x : Spoken) → x ≡ sending s slots i Payload payload out → x ≡ generated s slots id payload out
      unfolding by_client
      generate_found i e x g = g ∙ ap (by_client s slots payload out) (sym e) ∙ onto

      pub generate_missed : f ≡ None → (t : Turn) → t ≡ refused s 22 → spoken t out ≡ generated s slots id payload out
      unfolding by_client
      generate_missed e t g = ap (λ (y : Turn). spoken y out) g ∙ ap (by_client s slots payload out) (sym e) ∙ onto

-- ---- when a slot is overdue

-- w is the timeout that was read
module _ (timeout w : ℕ) (same : w ≡ timeout) (received now : Time) where
  settled : (b : Bool) → b ≡ overdue_at w received now → b ≡ overdue_at timeout received now
  settled b e = e ∙ ap (λ (y : ℕ). overdue_at y received now) same

  pub never_at_0 : w ≡ 0 → false ≡ overdue_at timeout received now
  unfolding overdue_at over_zero
  never_at_0 e = settled false (simp e)

  pub never_below_0 : 2 ^ 31 ≤ w → false ≡ overdue_at timeout received now
  unfolding overdue_at over_zero
  never_below_0 h = settled false (simp (lt-ltb 0 w (omega arith), le-ltb w (2 ^ 31) h))

  pub overdue_by_past : (w ≡ 0 → ⊥) → w < 2 ^ 31 → (t : Time) → t ≡ received → (b : Bool) → b ≡ past t w now → b ≡ overdue_at timeout received now
  unfolding overdue_at over_zero
  overdue_by_past n h t et b e =
      settled b (e ∙ ap (λ (y : Time). past y w now) et ∙ simp (lt-ltb 0 w (omega (arith, n)), lt-ltb w (2 ^ 31) h))

-- ---- a slot updated

module _ (s : NetcodeServer) (id : ℕ) (slots : List ℕ) (i : ℕ) (out : List ℕ) (b : Bool) (tested : b ≡ overdue s slots i) where
  pub slot_ends : b ≡ true → (x : Served) → x ≡ ending s id slots i out → x ≡ slot_updated s id slots i out
  unfolding slot_updated pick
  slot_ends t x e = e ∙ simp (sym tested ∙ t)

  module _ (on-time : b ≡ false) (q : Bool) (asked-too : q ≡ silent s slots i) where
    pub slot_sends : q ≡ true → (t : Turn) (out' : List ℕ) → spoken t out' ≡ sending s slots i (keep_alive s.max_clients i) [] out
        → served t slots out' ≡ slot_updated s id slots i out
    unfolding slot_updated pick
    slot_sends u t out' e = ap (keeping slots) e ∙ simp (sym tested ∙ on-time, sym asked-too ∙ u)

    pub slot_rests : q ≡ false → (t : Turn) → t ≡ answered s Nothing → served t slots out ≡ slot_updated s id slots i out
    unfolding slot_updated pick
    slot_rests u t e = ap (λ (y : Turn). served y slots out) e ∙ simp (sym tested ∙ on-time, sym asked-too ∙ u)

module _ (s : NetcodeServer) (id : ℕ) (slots : List ℕ) (i : ℕ) (away : Bool) (out : List ℕ) (x : Served) where
  pub slot_away : away ≡ true → x ≡ ending s id slots i out → x ≡ slot_attended s id slots i away out
  unfolding pick
  slot_away t e = e ∙ simp t

  pub slot_turn : away ≡ false → x ≡ slot_updated s id slots i out → x ≡ slot_attended s id slots i away out
  unfolding pick
  slot_turn f e = e ∙ simp f

-- ---- the calls about a client

-- r is what the tests gave
module _ (s : NetcodeServer) (slots : List ℕ) (id : ℕ) (out : List ℕ) (r : ℕ) (tested : r ≡ ready_refusal s (length slots)) where
  module _ (n : r ≡ 0 → ⊥) (t : Turn) (e : t ≡ refused s r) where
    unready : served t slots out ≡ served (refused s (ready_refusal s (length slots))) slots out
    unready = ap (λ (y : Turn). served y slots out) e ∙ ap (λ (m : ℕ). served (refused s m) slots out) tested

    not_0 : eqb (ready_refusal s (length slots)) 0 ≡ false
    not_0 = ne_eqb (ready_refusal s (length slots)) 0 (λ z. n (tested ∙ z))

    pub attend_refused : (away : Bool) → served t slots out ≡ attended s slots id away out
    unfolding pick client_updated disconnected
    attend_refused true = unready ∙ simp not_0
    attend_refused false = unready ∙ simp not_0

  module _ (zero : r ≡ 0) (f : Option ℕ) (searched : f ≡ find_id slots s.set.slots id) where
    -- by what the search found
    abbrev by_found_lem : Bool → Option ℕ → Served
    by_found_lem away x = pick away (ended_at s id slots out x) (updated_at s id slots out x)

    reached : (away : Bool) → by_found_lem away f ≡ attended s slots id away out
    unfolding pick client_updated disconnected
    reached true = ap (ended_at s id slots out) searched ∙ simp (eq-eqb (ready_refusal s (length slots)) 0 (sym tested ∙ zero))
    reached false = ap (updated_at s id slots out) searched ∙ simp (eq-eqb (ready_refusal s (length slots)) 0 (sym tested ∙ zero))

    pub attend_found : (i : ℕ) → f ≡ Some i → (x : Served) (away : Bool) → x ≡ slot_attended s id slots i away out → x ≡ attended s slots id away out
    unfolding updated_at ended_at
    attend_found i e x away g = g ∙ ap (by_found_lem away) (sym e) ∙ reached away

    nobody : (away : Bool) → idly s slots out ≡ by_found_lem away None
    unfolding pick updated_at ended_at
    nobody true = refl
    nobody false = refl

    pub attend_missed : f ≡ None → (t : Turn) → t ≡ answered s Nothing → (away : Bool) → served t slots out ≡ attended s slots id away out
    attend_missed e t g away = ap (λ (y : Turn). served y slots out) g ∙ nobody away ∙ ap (by_found_lem away) (sym e) ∙ reached away

-- what a step came to, of the slots and the output that it was lent
pub step_told : (r : Turn) (f : List ℕ → List ℕ → Served) (t o t' o' slots out slots' out' : List ℕ) → t ≡ slots → o ≡ out → t' ≡ slots' → o' ≡ out'
    → served r t' o' ≡ f t o → served r slots' out' ≡ f slots out
step_told r f t o t' o' slots out slots' out' e g h k m = sym (ap₂ (λ (x y : List ℕ). served r x y) h k) ∙ m ∙ ap₂ f e g

-- what the tests and the search say settles the call
module _ (s : NetcodeServer) (slots : List ℕ) (id : ℕ) (out : List ℕ) (x : Served) (away : Bool)
    (unready : (ready_refusal s (length slots) ≡ 0 → ⊥) → x ≡ served (refused s (ready_refusal s (length slots))) slots out)
    (missed : ready_refusal s (length slots) ≡ 0 → find_id slots s.set.slots id ≡ None → x ≡ idly s slots out)
    (found : ready_refusal s (length slots) ≡ 0 → (i : ℕ) → find_id slots s.set.slots id ≡ Some i → x ≡ slot_attended s id slots i away out) where
  searched_lem : ready_refusal s (length slots) ≡ 0 → (f : Option ℕ) → find_id slots s.set.slots id ≡ f → x ≡ attended s slots id away out
  searched_lem z None e =
      missed z e ∙ attend_missed s slots id out (ready_refusal s (length slots)) refl z (find_id slots s.set.slots id) refl e (answered s Nothing) refl away
  searched_lem z (Some i) e =
      attend_found s slots id out (ready_refusal s (length slots)) refl z (find_id slots s.set.slots id) refl i e x away (found z i e)

  pub attend_decides : x ≡ attended s slots id away out
  attend_decides =
      by_test (eqb (ready_refusal s (length slots)) 0)
      (λ b. searched_lem (eqb-true (ready_refusal s (length slots)) 0 b) (find_id slots s.set.slots id) refl)
      (λ b. let n = eqb-false (ready_refusal s (length slots)) 0 b in
      unready n ∙ attend_refused s slots id out (ready_refusal s (length slots)) refl n (refused s (ready_refusal s (length slots))) refl away)
