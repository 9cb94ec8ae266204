-- What demand 3 looks at of a record: whether its place is used, its address, receive key, id and window.
use Rattle.std.specs.Prelude.{ℕ, Bool, true, false, List, [], eqb, ltb}
use Rattle.serialize.specs.Choice.{pick}
use Rattle.replay_protection.specs.Replay.{Window, window, arrive}
use Rattle.replay_protection.specs.Stored.{window_at}
use Rattle.replay_protection.specs.Ours.{width}
use Rattle.places.specs.Layout.{used_at, window_place}
use Rattle.places.specs.Columns.{field_of, id, addr, receive_key}
use Rattle.server.specs.declared.Stage.{Stage}
use Rattle.server.specs.declared.Stage.TheVariants.{Idle, Packet, Token, Challenge, Seal}
use Rattle.server.specs.declared.Goal.{Goal}
use Rattle.server.specs.declared.Goal.TheVariants.{Denied, ChallengeToken, ChallengePacket, Connecting, Sending, Ending}
use Rattle.turns.specs.Outcomes.{State}

-- a place of either table
pub data Place : Type 0 where
  Slot : ℕ → Place
  Pend : ℕ → Place

-- address, key and id are the words that the table has for them
pub record View : Type 0 where
  pub used : Bool
  pub addr : List ℕ
  pub key : List ℕ
  pub id : List ℕ
  pub win : Window

abbrev pub view : Bool → List ℕ → List ℕ → List ℕ → Window → View
view used addr key id win = record { used = used; addr = addr; key = key; id = id; win = win }

-- where there is no place
abbrev pub nobody : View
nobody = view false [] [] [] (window 0 [])

-- the record, its place used; its place empty; its window after a sequence arrived
abbrev pub standing : View → View
standing v = view true v.addr v.key v.id v.win

abbrev pub gone : View → View
gone v = view false v.addr v.key v.id v.win

abbrev pub advanced : View → ℕ → View
advanced v sequence = view v.used v.addr v.key v.id (arrive width v.win sequence)

-- place i of a table of n
abbrev pub here : List ℕ → ℕ → ℕ → View
here t n i = view (used_at t i) (field_of t n i addr) (field_of t n i receive_key) (field_of t n i id) (window_at width t (window_place n i))

unfoldable pub view_at : List ℕ → ℕ → ℕ → View
view_at t n i = pick (ltb i n) (here t n i) nobody

-- while the keep-alive that connects it is being sealed, the record of pending place j stands in the words of its place, which is
-- marked empty already: it is neither lost nor in a slot yet
abbrev pub goal_leaves : Goal → ℕ → Bool
goal_leaves (Denied a) j = false
goal_leaves (ChallengeToken a) j = false
goal_leaves (ChallengePacket a) j = false
goal_leaves (Connecting place slot) j = eqb place j
goal_leaves (Sending slot) j = false
goal_leaves (Ending client a) j = false

abbrev pub leaves : Stage → ℕ → Bool
leaves Idle j = false
leaves (Packet connected place kind sequence start) j = false
leaves (Token a expiry low high) j = false
leaves (Challenge place start) j = false
leaves (Seal goal sequence end) j = goal_leaves goal j

-- what stands at a place
unfoldable pub seen : State → Place → View
seen t (Slot i) = view_at t.slots t.server.set.slots i
seen t (Pend j) =
    pick (leaves t.server.ask.stage j) (standing (view_at t.pending t.server.set.pending j)) (view_at t.pending t.server.set.pending j)

-- the place is one of the tables'
unfoldable pub inside : State → Place → Bool
inside t (Slot i) = ltb i t.server.set.slots
inside t (Pend j) = ltb j t.server.set.pending
