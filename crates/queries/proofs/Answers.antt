-- A query reads nothing but set-up, the clock and what it is lent, and refuses by the tests of lengths alone: so an open ask changes no
-- answer. By an id the search decides, and it finds the lowest used slot that has the id.
use Rattle.std.specs.Prelude.{Option, Some, None}
use mathlib.Core.Path.{◌≡◌, refl, sym}
use mathlib.Core.Bool.{Bool, true, false}
use mathlib.Core.Logic.{◌↔◌}
use Prim.Native.Nat.{ℕ}
use native.Mathlib.Omega.{arith}
use mathlib.Core.List.{List, [], ◌∷◌}
use lib.ListN.{length}
use Rattle.serialize.specs.Choice.{pick}
use Rattle.times.specs.Times.{since}
use Rattle.places.specs.Layout.{address_of, received_at, user_data_at}
use Rattle.places.specs.Finds.{find_id}
use Rattle.places.specs.Columns.{id}
use Rattle.places.specs.Keys.{Keyed, LowestOf, NoneOf}
use Rattle.places.proofs.Searches.{id_found, id_none}
use Rattle.records.specs.Records.{time_at, bytes_at}
use Rattle.server.specs.declared.NetcodeServer.{NetcodeServer}
use Rattle.server.specs.declared.OpenAsk.{OpenAsk}
use Rattle.server.specs.State.{with_ask}
use Rattle.server.specs.Ready.{length_refusal, slots_refusal, list_refusal}
use Rattle.queries.specs.declared.Reply.{Reply}
use Rattle.queries.specs.declared.Reply.TheVariants.{Refused, Nothing, Connected, Addr, Since, UserData}
use Rattle.queries.specs.Replies.{number_of}
use Rattle.queries.specs.Queries.{with_slots, by_slot, connected_clients, is_connected, client_address, time_since, Outcome, told, user_data_of, listed_into, public_into}
use Rattle.queries.specs.Exact.{SomeOf}
use Rattle.queries.proofs.Ways.{is_shaped, is_found, is_missed}

-- ---- while an ask is open

-- every query answers as if none were
pub ask_unseen : (s : NetcodeServer) (ask : OpenAsk) (slots public list : List ℕ) (x : ℕ) (ids : Bool)
    → (connected_clients (with_ask s ask) slots ≡ connected_clients s slots)
    × (is_connected (with_ask s ask) slots x ≡ is_connected s slots x)
    × (client_address (with_ask s ask) slots x ≡ client_address s slots x)
    × (time_since (with_ask s ask) slots x ≡ time_since s slots x)
    × (user_data_of (with_ask s ask) slots x list ≡ user_data_of s slots x list)
    × (listed_into (with_ask s ask) slots ids list ≡ listed_into s slots ids list)
    × (public_into (with_ask s ask) public list ≡ public_into s public list)
    × ((with_ask s ask).max_clients ≡ s.max_clients)
    × ((with_ask s ask).current_time ≡ s.current_time)
unfolding with_ask connected_clients is_connected client_address time_since user_data_of listed_into public_into
ask_unseen s ask slots public list x ids = (refl, refl, refl, refl, refl, refl, refl, refl, refl)

-- not refused as during an ask
abbrev pub Not16 : Reply → Type 0
Not16 r = number_of r ≡ 16 → ⊥

abbrev OutcomeNot16 : Outcome → Type 0
OutcomeNot16 o = Not16 o.reply

either : {A : Type 0} (P : A → Type 0) (b : Bool) (x y : A) → P x → P y → P (pick b x y)
unfolding pick
either P true x y p q = p
either P false x y p q = q

wherever : {A : Type 0} (P : A → Type 0) (f : Option ℕ) (at : ℕ → A) (none : A) → ((i : ℕ) → P (at i)) → P none → P (by_slot f at none)
unfolding by_slot
wherever P (Some i) at none p q = p i
wherever P None at none p q = q

module _ (s : NetcodeServer) where
  abbrev Other : ℕ → Type 0
  Other n = n ≡ 16 → ⊥

  slots_other : (len : ℕ) → Other (slots_refusal s.set len)
  unfolding length_refusal
  slots_other len =
      either Other _ 23 _ (λ e. omega arith) (either Other _ 23 _ (λ e. omega arith) (either Other _ 0 23 (λ e. omega arith) (λ e. omega arith)))

  list_other : (len : ℕ) → Other (list_refusal s.set len)
  unfolding list_refusal
  list_other len = either Other _ 0 23 (λ e. omega arith) (λ e. omega arith)

  pub never_16 : (slots public list : List ℕ) (x : ℕ) (ids : Bool)
      → Not16 (connected_clients s slots) × Not16 (is_connected s slots x) × Not16 (client_address s slots x) × Not16 (time_since s slots x)
      × Not16 (user_data_of s slots x list).reply × Not16 (listed_into s slots ids list).reply × Not16 (public_into s public list).reply
  unfolding number_of connected_clients is_connected client_address time_since user_data_of listed_into public_into
  never_16 slots public list x ids = (
    either Not16 _ _ _ (λ e. omega arith) (slots_other (length slots)),
    either Not16 _ _ _ (wherever Not16 _ _ _ (λ i e. omega arith) (λ e. omega arith)) (slots_other (length slots)),
    either Not16 _ _ _ (wherever Not16 _ _ _ (λ i e. omega arith) (λ e. omega arith)) (slots_other (length slots)),
    either Not16 _ _ _ (wherever Not16 _ _ _ (λ i e. omega arith) (λ e. omega arith)) (slots_other (length slots)),
    either OutcomeNot16 _ _ _ (wherever OutcomeNot16 _ _ _ (λ i e. omega arith) (λ e. omega arith)) (slots_other (length slots)),
    either OutcomeNot16 _ _ _ (either OutcomeNot16 _ _ _ (λ e. omega arith) (λ e. omega arith)) (slots_other (length slots)),
    either OutcomeNot16 _ _ _ (either OutcomeNot16 _ _ _ (λ e. omega arith) (λ e. omega arith)) (list_other (length public)),
  )

-- ---- by an id, of a table that is set-up's

-- slot i is used and has the id
abbrev pub Named : NetcodeServer → List ℕ → ℕ → ℕ → Type 0
Named s slots x i = Keyed slots s.set.slots id (x ∷ []) i

module _ (s : NetcodeServer) (slots : List ℕ) (x : ℕ) (taken : slots_refusal s.set (length slots) ≡ 0) where
  found : (j : ℕ) → (find_id slots s.set.slots x ≡ Some j) ↔ LowestOf (Named s slots x) s.set.slots j
  found = id_found slots s.set.slots (is_shaped s slots _ refl taken) x

  missed : (find_id slots s.set.slots x ≡ None) ↔ NoneOf (Named s slots x) s.set.slots
  missed = id_none slots s.set.slots (is_shaped s slots _ refl taken) x

  -- the lowest slot with the id answers
  pub lowest_answers : (j : ℕ) → LowestOf (Named s slots x) s.set.slots j → (out : List ℕ)
      → (is_connected s slots x ≡ Connected)
      × (client_address s slots x ≡ Addr (address_of slots s.set.slots j))
      × (time_since s slots x ≡ Since (since s.current_time (time_at slots (received_at s.set.slots j))))
      × (user_data_of s slots x out ≡ told UserData (bytes_at slots (user_data_at s.set.slots j) 32))
  unfolding is_connected client_address time_since user_data_of
  lowest_answers j w out = (by Refused _ _, by Refused _ _, by Refused _ _, by (λ n. told (Refused n) out) _ _)
    where
      by : {A : Type 0} (refused at : ℕ → A) (none : A) → with_slots s slots refused (by_slot (find_id slots s.set.slots x) at none) ≡ at j
      by refused at none = sym (is_found s slots _ refl taken x _ refl refused at none j ((found j).1 w))

  -- and where there is none, nothing does
  pub none_answers : NoneOf (Named s slots x) s.set.slots → (out : List ℕ)
      → (is_connected s slots x ≡ Nothing)
      × (client_address s slots x ≡ Nothing)
      × (time_since s slots x ≡ Nothing)
      × (user_data_of s slots x out ≡ told Nothing out)
  unfolding is_connected client_address time_since user_data_of
  none_answers w out = (by Refused _ _, by Refused _ _, by Refused _ _, by (λ n. told (Refused n) out) _ _)
    where
      by : {A : Type 0} (refused at : ℕ → A) (none : A) → with_slots s slots refused (by_slot (find_id slots s.set.slots x) at none) ≡ none
      by refused at none = sym (is_missed s slots _ refl taken x _ refl refused at none (missed.1 w))

  -- connected exactly where some used slot has the id
  pub connected_exactly : (is_connected s slots x ≡ Connected) ↔ SomeOf (Named s slots x) s.set.slots
  connected_exactly = (
    λ e. by_search (find_id slots s.set.slots x) refl
        (λ j f. let w = (found j).0 f in record { place = j; below = w.below; here = w.here })
        (λ f.
        let n : is_connected s slots x ≡ Nothing = (none_answers (missed.0 f) []).0 in
        let z : ◌≡◌ {A = ℕ} 0 1 = cc in
        absurd (omega arith)),
    λ w. by_search (find_id slots s.set.slots x) refl
        (λ j f. (lowest_answers j ((found j).0 f) []).0)
        (λ f. absurd (missed.0 f w.place w.below w.here)),
  )
    where
      by_search : {A : Type 0} (f : Option ℕ) → find_id slots s.set.slots x ≡ f
          → ((j : ℕ) → find_id slots s.set.slots x ≡ Some j → A) → (find_id slots s.set.slots x ≡ None → A) → A
      by_search (Some j) e p q = p j e
      by_search None e p q = q e
