-- Each way out of a call is a case of its definition, by the match, the tests and the callees' answers that led there.
use Rattle.std.specs.Prelude.{Option, Some, None}
use mathlib.Core.Path.{◌≡◌, refl, sym, ap, ap₂, ◌∙◌}
use mathlib.Core.Bool.{Bool, true, false, ◌||◌, true≢false}
use Prim.Native.Nat.{ℕ, ◌+◌, ◌-◌, ◌^◌, ◌<◌}
use native.Mathlib.Omega.{arith}
use mathlib.Core.List.{List}
use lib.Dec.{eqb, leb, ltb}
use borrow.Author.Tests.{eq-eqb, ne_eqb, leb-false, eqb-false}
use Rattle.serialize.specs.Choice.{pick}
use Rattle.serialize.specs.Runs.{splice}
use Rattle.serialize.specs.Le.{words}
use Rattle.times.specs.declared.Time.{Time}
use Rattle.addresses.specs.declared.Address.{Address}
use Rattle.bodies.specs.declared.PacketType.{PacketType}
use Rattle.places.specs.Layout.{received_at, sent_at, user_data_at, id_of, address_of}
use Rattle.places.specs.Finds.{find_address, find_free}
use Rattle.records.specs.declared.Connection.{Connection}
use Rattle.records.specs.Records.{put_time, filled, emptied, moved}
use Rattle.server.specs.declared.NetcodeServer.{NetcodeServer}
use Rattle.server.specs.declared.Goal.{Goal}
use Rattle.server.specs.declared.Goal.TheVariants.{Denied, ChallengeToken, ChallengePacket, Connecting, Sending, Ending}
use Rattle.server.specs.declared.Stage.{Stage}
use Rattle.server.specs.declared.Stage.TheVariants.{Idle, Packet, Token, Challenge, Seal}
use Rattle.server.specs.declared.Answer.TheVariants.{PacketToSend, ClientConnected, ClientDisconnected}
use Rattle.server.specs.Held.{held_user_data}
use Rattle.server.specs.Ready.{overrun, goal_misfits, seal_misfits, misfits}
use Rattle.turns.specs.declared.Turn.{Turn}
use Rattle.turns.specs.Outcomes.{refused, closed, spent, State, state, Outcome, came, refuses, Half, half, from_slot}
use Rattle.seals.specs.Waits.{newcomer, by_place, by_same, waits, sent_under, connected}
use Rattle.seals.specs.Seals.{unsealed, packet_asked, connects, sends, sealed, by_stage, seal_refusal, seals}

-- ---- what an ask that fits has

neither : (a b : Bool) → a || b ≡ false → (a ≡ false) × (b ≡ false)
neither false b h = (refl, h)
neither true b h = absurd (true≢false h)

module _ (goal : Goal) (slots pending : ℕ) (fits : goal_misfits goal slots pending ≡ false) where
  -- the places that a connecting names
  pub connecting_fits : (j i : ℕ) → goal ≡ Connecting j i → (j < pending) × (i < slots)
  unfolding goal_misfits
  connecting_fits j i g =
      let k = neither (leb pending j) (leb slots i) (ap (λ (x : Goal). goal_misfits x slots pending) (sym g) ∙ fits) in
      (leb-false pending j k.0, leb-false slots i k.1)

  pub sending_fits : (i : ℕ) → goal ≡ Sending i → i < slots
  unfolding goal_misfits
  sending_fits i g = leb-false slots i (ap (λ (x : Goal). goal_misfits x slots pending) (sym g) ∙ fits)

-- the goal's places, and a counter that can be raised
pub seal_fits : (stage : Stage) (slots pending datagram out : ℕ) → misfits stage slots pending datagram out ≡ false
    → (goal : Goal) (sequence end : ℕ) → stage ≡ Seal goal sequence end → sequence < 256 ^ 8
    → (goal_misfits goal slots pending ≡ false) × (sequence + 1 < 18446744073709551616)
unfolding misfits seal_misfits overrun
seal_fits stage slots pending datagram out fits goal sequence end g wide =
    let k = neither (goal_misfits goal slots pending) (overrun sequence end out) (ap (λ (x : Stage). misfits x slots pending datagram out) (sym g) ∙ fits) in
    let l = neither (eqb sequence (2 ^ 64 - 1)) (ltb out end) k.1 in
    let n : sequence ≡ 2 ^ 64 - 1 → ⊥ = eqb-false sequence (2 ^ 64 - 1) l.0 in
    (k.0, omega arith)

-- ---- waiting

module _ (pending : List ℕ) (m : ℕ) (held : List ℕ) (addr : Address) (time : Time) where
  module _ (x : Option ℕ) (found : x ≡ find_free pending m) where
    pub place_taken : (j : ℕ) → x ≡ Some j → (c : Connection) → c ≡ newcomer held addr time → (u : List ℕ) → u ≡ filled pending m j c
        → u ≡ by_place pending m held addr time (find_free pending m)
    unfolding by_place
    place_taken j g c f u h = h ∙ ap (filled pending m j) f ∙ ap (by_place pending m held addr time) (sym g ∙ found)

    pub no_place : x ≡ None → pending ≡ by_place pending m held addr time (find_free pending m)
    unfolding by_place
    no_place g = ap (by_place pending m held addr time) (sym g ∙ found)

  module _ (x : Option ℕ) (found : x ≡ find_address pending m addr) where
    pub times_move : (j : ℕ) → x ≡ Some j → (u : List ℕ) → u ≡ put_time pending (received_at m j) time → (v : List ℕ) → v ≡ put_time u (sent_at m j) time
        → v ≡ waits pending m held addr time
    unfolding by_same
    times_move j g u e v f =
        f ∙ ap (λ (l : List ℕ). put_time l (sent_at m j) time) e ∙ ap (by_same pending m held addr time) (sym g ∙ found)

    pub newcomer_waits : x ≡ None → (u : List ℕ) → u ≡ by_place pending m held addr time (find_free pending m) → u ≡ waits pending m held addr time
    unfolding by_same
    newcomer_waits g u e = e ∙ ap (by_same pending m held addr time) (sym g ∙ found)

-- ---- the slot of a new connection: v is the slots with the record moved there, d the challenge's user data, w the slots with those

pub record_connects : (slots : List ℕ) (n i : ℕ) (pending : List ℕ) (m j : ℕ) (held : List ℕ) (sequence : ℕ) (time : Time)
    → (v : List ℕ) → v ≡ moved slots n i pending m j → (d : List ℕ) → d ≡ held_user_data held → (w : List ℕ) → w ≡ splice v (user_data_at n i) (words 32 d)
    → (u : List ℕ) → u ≡ sent_under w n i sequence time → u ≡ connected slots n i pending m j held sequence time
record_connects slots n i pending m j held sequence time v e d f w g u h =
    h ∙ ap (λ (l : List ℕ). sent_under l n i sequence time) (g ∙ ap₂ (λ (l b : List ℕ). splice l (user_data_at n i) (words 32 b)) e f)

-- ---- what a sealed packet does

pub slot_sends : (s : NetcodeServer) (slots : List ℕ) (i sequence end : ℕ) (addr : Address) → addr ≡ address_of slots s.set.slots i
    → (u : List ℕ) → u ≡ sent_under slots s.set.slots i sequence s.current_time → (r : Turn) → r ≡ closed s (PacketToSend addr end)
    → half r u ≡ sends s slots i sequence end
unfolding sends
slot_sends s slots i sequence end addr e u f r g = simp (g, e, f)

module _ (s : NetcodeServer) (slots pending held : List ℕ) (sequence end : ℕ) where
  abbrev t : State
  t = state s slots pending

  pub slot_connects : (j i id : ℕ) → id ≡ id_of pending s.set.pending j → (addr : Address) → addr ≡ address_of pending s.set.pending j
      → (u v : List ℕ) → u ≡ connected slots s.set.slots i pending s.set.pending j held sequence s.current_time → v ≡ emptied pending j
      → (r : Turn) → r ≡ closed s (ClientConnected id i addr end) → came r u v ≡ connects t held j i sequence end
  unfolding connects
  slot_connects j i id e addr f u v g h r k = simp (k, e, f, g, h)

  module _ (out : ℕ) (goal : Goal) where
    by_goal : (g : Goal) → goal ≡ g → (o : Outcome) → o ≡ sealed t held out sequence end g → o ≡ sealed t held out sequence end goal
    by_goal g e o f = f ∙ ap (sealed t held out sequence end) (sym e)

    pub denied_sealed : (addr : Address) → goal ≡ Denied addr → (n : NetcodeServer) → n ≡ spent s sequence
        → (r : Turn) → r ≡ closed n (PacketToSend addr end) → came r slots pending ≡ sealed t held out sequence end goal
    unfolding sealed
    denied_sealed addr g n e r f =
        by_goal (Denied addr) g (came r slots pending)
        (ap (λ (x : Turn). came x slots pending) (f ∙ ap (λ (x : NetcodeServer). closed x (PacketToSend addr end)) e))

    pub token_sealed : (addr : Address) → goal ≡ ChallengeToken addr → (r : Turn) → r ≡ packet_asked s held out addr sequence end
        → came r slots pending ≡ sealed t held out sequence end goal
    unfolding sealed
    token_sealed addr g r f = by_goal (ChallengeToken addr) g (came r slots pending) (ap (λ (x : Turn). came x slots pending) f)

    pub packet_sealed : (addr : Address) → goal ≡ ChallengePacket addr
        → (u : List ℕ) → u ≡ waits pending s.set.pending held addr s.current_time → (n : NetcodeServer) → n ≡ spent s sequence
        → (r : Turn) → r ≡ closed n (PacketToSend addr end) → came r slots u ≡ sealed t held out sequence end goal
    unfolding sealed
    packet_sealed addr g u w n e r f =
        by_goal (ChallengePacket addr) g (came r slots u)
        (ap₂ (λ (x : Turn) (l : List ℕ). came x slots l) (f ∙ ap (λ (x : NetcodeServer). closed x (PacketToSend addr end)) e) w)

    pub connecting_sealed : (j i : ℕ) → goal ≡ Connecting j i → (r : Turn) (u v : List ℕ) → came r u v ≡ connects t held j i sequence end
        → came r u v ≡ sealed t held out sequence end goal
    unfolding sealed
    connecting_sealed j i g r u v f = by_goal (Connecting j i) g (came r u v) f

    pub sending_sealed : (i : ℕ) → goal ≡ Sending i → (r : Turn) (u : List ℕ) → half r u ≡ sends s slots i sequence end
        → came r u pending ≡ sealed t held out sequence end goal
    unfolding sealed
    sending_sealed i g r u f = by_goal (Sending i) g (came r u pending) (ap (λ (h : Half). from_slot t h) f)

    pub ending_sealed : (id : ℕ) (addr : Address) → goal ≡ Ending id addr → (r : Turn) → r ≡ closed s (ClientDisconnected id addr end None)
        → came r slots pending ≡ sealed t held out sequence end goal
    unfolding sealed
    ending_sealed id addr g r f = by_goal (Ending id addr) g (came r slots pending) (ap (λ (x : Turn). came x slots pending) f)

-- ---- the answer

module _ (s : NetcodeServer) (slots pending : List ℕ) (granted : Bool) (held : List ℕ) (out : ℕ) where
  abbrev at : State
  at = state s slots pending

  abbrev stage : Stage
  stage = s.ask.stage

  by_stage_lem : (x : Stage) → stage ≡ x → (o : Outcome) → o ≡ by_stage at granted held out x → o ≡ by_stage at granted held out stage
  by_stage_lem x e o f = f ∙ ap (by_stage at granted held out) (sym e)

  same : (r : Turn) (n : ℕ) → r ≡ refused s n → came r slots pending ≡ refuses at n
  same r n e = ap (λ (x : Turn). came x slots pending) e

  pub idle_refused : stage ≡ Idle → (r : Turn) → r ≡ refused s 17 → came r slots pending ≡ by_stage at granted held out stage
  unfolding by_stage
  idle_refused g r e = by_stage_lem Idle g (came r slots pending) (same r 17 e)

  pub packet_refused : (connected : Bool) (place : ℕ) (kind : PacketType) (sequence start : ℕ) → stage ≡ Packet connected place kind sequence start
      → (r : Turn) → r ≡ refused s 18 → came r slots pending ≡ by_stage at granted held out stage
  unfolding by_stage
  packet_refused connected place kind sequence start g r e =
      by_stage_lem (Packet connected place kind sequence start) g (came r slots pending) (same r 18 e)

  pub token_refused : (addr : Address) (expiry low high : ℕ) → stage ≡ Token addr expiry low high
      → (r : Turn) → r ≡ refused s 18 → came r slots pending ≡ by_stage at granted held out stage
  unfolding by_stage
  token_refused addr expiry low high g r e = by_stage_lem (Token addr expiry low high) g (came r slots pending) (same r 18 e)

  pub challenge_refused : (place start : ℕ) → stage ≡ Challenge place start
      → (r : Turn) → r ≡ refused s 18 → came r slots pending ≡ by_stage at granted held out stage
  unfolding by_stage
  challenge_refused place start g r e = by_stage_lem (Challenge place start) g (came r slots pending) (same r 18 e)

  module _ (goal : Goal) (sequence end : ℕ) (g : stage ≡ Seal goal sequence end) where
    abbrev by_grant : Bool → Outcome
    by_grant b = pick b (sealed at held out sequence end goal) (came (unsealed s goal) slots pending)

    pub host_grants : granted ≡ true → (r : Turn) (u v : List ℕ) → came r u v ≡ sealed at held out sequence end goal
        → came r u v ≡ by_stage at granted held out stage
    unfolding by_stage pick
    host_grants y r u v e = by_stage_lem (Seal goal sequence end) g (came r u v) (e ∙ ap by_grant (sym y))

    pub host_denies : granted ≡ false → (r : Turn) → r ≡ unsealed s goal → came r slots pending ≡ by_stage at granted held out stage
    unfolding by_stage pick
    host_denies y r e =
        by_stage_lem (Seal goal sequence end) g (came r slots pending) (ap (λ (x : Turn). came x slots pending) e ∙ ap by_grant (sym y))

  module _ (n : ℕ) (tested : n ≡ seal_refusal at out) where
    abbrev by_test : Bool → Outcome
    by_test b = pick b (by_stage at granted held out stage) (refuses at (seal_refusal at out))

    pub seals_refused : (n ≡ 0 → ⊥) → (r : Turn) → r ≡ refused s n → came r slots pending ≡ seals at granted held out
    unfolding seals pick
    seals_refused z r e = same r n e ∙ ap (refuses at) tested ∙ sym (ap by_test (ne_eqb (seal_refusal at out) 0 (λ x. z (tested ∙ x))))

    pub seals_answers : n ≡ 0 → (r : Turn) (u v : List ℕ) → came r u v ≡ by_stage at granted held out stage → came r u v ≡ seals at granted held out
    unfolding seals pick
    seals_answers z r u v e = e ∙ sym (ap by_test (eq-eqb (seal_refusal at out) 0 (sym tested ∙ z)))
