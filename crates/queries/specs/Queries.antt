-- The queries (document 01, "How the host answers": queries work during an ask and show the tables as they stand; "When the server says no": 23
-- for a length unlike set-up's, 14 for a list that is too short, an unknown id is nothing; a stored time later than now is zero away).
use Rattle.std.specs.Prelude.{ℕ, zero, suc, Bool, List, [], ◌∷◌, ◌++◌, length, eqb, ltb, Option, Some, None}
use Rattle.serialize.specs.Choice.{pick}
use Rattle.serialize.specs.Runs.{splice}
use Rattle.times.specs.Times.{since}
use Rattle.places.specs.Layout.{used_at, id_of, address_of, received_at, user_data_at}
use Rattle.places.specs.Finds.{find_id, used_count}
use Rattle.records.specs.Records.{time_at, bytes_at}
use Rattle.server.specs.declared.NetcodeServer.{NetcodeServer}
use Rattle.server.specs.Ready.{slots_refusal, list_refusal}
use Rattle.queries.specs.declared.Reply.{Reply}
use Rattle.queries.specs.declared.Reply.TheVariants.{Refused, Nothing, Connected, Count, Addr, Since, UserData}

-- 23, or what follows
abbrev pub with_slots : {A : Type 0} → NetcodeServer → List ℕ → (ℕ → A) → A → A
with_slots s slots refused next = pick (eqb (slots_refusal s.set (length slots)) 0) next (refused (slots_refusal s.set (length slots)))

-- the lowest slot with an id, or nothing
unfoldable pub by_slot : {A : Type 0} → Option ℕ → (ℕ → A) → A → A
by_slot (Some i) f none = f i
by_slot None f none = none

-- ---- the connected

-- the used marks, counted
unfoldable pub connected_clients : NetcodeServer → List ℕ → Reply
connected_clients s slots = with_slots s slots Refused (Count (used_count slots s.set.slots))

unfoldable pub is_connected : NetcodeServer → List ℕ → ℕ → Reply
is_connected s slots id = with_slots s slots Refused (by_slot (find_id slots s.set.slots id) (λ i. Connected) Nothing)

unfoldable pub client_address : NetcodeServer → List ℕ → ℕ → Reply
client_address s slots id =
    with_slots s slots Refused (by_slot (find_id slots s.set.slots id) (λ i. Addr (address_of slots s.set.slots i)) Nothing)

unfoldable pub time_since : NetcodeServer → List ℕ → ℕ → Reply
time_since s slots id =
    with_slots s slots Refused
    (by_slot (find_id slots s.set.slots id) (λ i. Since (since s.current_time (time_at slots (received_at s.set.slots i)))) Nothing)

-- ---- what a query comes to, and what it leaves in what it was lent

pub record Outcome : Type 0 where
  pub reply : Reply
  pub left : List ℕ

abbrev pub told : Reply → List ℕ → Outcome
told reply left = record { reply = reply; left = left }

unfoldable pub user_data_of : NetcodeServer → List ℕ → ℕ → List ℕ → Outcome
user_data_of s slots id out =
    with_slots s slots (λ n. told (Refused n) out)
    (by_slot (find_id slots s.set.slots id) (λ i. told UserData (bytes_at slots (user_data_at s.set.slots i) 32)) (told Nothing out))

-- ---- lists

-- what a list says of place i: its id, or its number
unfoldable pub value_of : List ℕ → ℕ → Bool → ℕ → ℕ
value_of t n ids i = pick ids (id_of t n i) i

-- what place i adds to a list: its value, where it is used
abbrev pub of_place : List ℕ → ℕ → Bool → ℕ → List ℕ
of_place t n ids i = pick (used_at t i) (value_of t n ids i ∷ []) []

-- of the first k places, in their order
unfoldable pub listed : List ℕ → ℕ → Bool → ℕ → List ℕ
listed t n ids zero = []
listed t n ids (suc k) = listed t n ids k ++ of_place t n ids k

-- 14 where it is too short; else from its start
unfoldable pub listed_into : NetcodeServer → List ℕ → Bool → List ℕ → Outcome
listed_into s slots ids list =
    with_slots s slots (λ n. told (Refused n) list)
    (pick (ltb (length list) (used_count slots s.set.slots)) (told (Refused 14) list)
    (told (Count (used_count slots s.set.slots)) (splice list 0 (listed slots s.set.slots ids s.set.slots))))

-- the public addresses, three words each
unfoldable pub public_into : NetcodeServer → List ℕ → List ℕ → Outcome
public_into s public list =
    pick (eqb (list_refusal s.set (length public)) 0)
    (pick (ltb (length list) (length public)) (told (Refused 14) list) (told (Count s.set.addresses) (splice list 0 public)))
    (told (Refused (list_refusal s.set (length public))) list)
