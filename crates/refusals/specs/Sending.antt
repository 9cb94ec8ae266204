-- Document 01's table, "When the server says no", for sending: each number with what it is given for, after the lines that come before it in the
-- order 16, 23, 21, 22, 15, 14; an unknown id is 22 for `generate_payload_packet`, and nothing for `update_client` and `disconnect`. Each leaves
-- everything as it was. A slot that is being ended is ended with 15 too: it is empty, no packet comes, and the answer carries the 15.
use Rattle.std.specs.Prelude.{ℕ, ◌-◌, ◌^◌, ◌≤◌, ◌<◌, ◌≡◌, true, false, List, length, Some, None}
use Rattle.bodies.specs.declared.PacketType.{PacketType}
use Rattle.bodies.specs.declared.Packet.TheVariants.{Payload, Disconnect}
use Rattle.bodies.specs.Bodies.{kind_of}
use Rattle.addresses.specs.declared.Address.{Address}
use Rattle.encode.specs.Encodes.{need}
use Rattle.places.specs.Layout.{address_of}
use Rattle.places.specs.Finds.{find_id}
use Rattle.server.specs.declared.NetcodeServer.{NetcodeServer}
use Rattle.server.specs.declared.Stage.TheVariants.{Idle}
use Rattle.server.specs.Ready.{slots_refusal}
use Rattle.turns.specs.Packets.{keep_alive}
use Rattle.sending.specs.Packets.{counter_of}
use Rattle.sending.specs.Clients.{overdue, silent}

-- no ask is open; the slots, the one table that is lent, are set-up's
pub record Ready (s : NetcodeServer) (slots : List ℕ) : Type 0 where
  pub idle : s.ask.stage ≡ Idle
  pub tables : slots_refusal s.set (length slots) ≡ 0

-- slot i is the lowest with the id
pub record Client (s : NetcodeServer) (slots : List ℕ) (id i : ℕ) : Type 0 where
  pub ready : Ready s slots
  pub found : find_id slots s.set.slots id ≡ Some i

-- 15: the slot's counter, about to be used, is 2^64-1
pub record Spent (s : NetcodeServer) (slots : List ℕ) (i : ℕ) : Type 0 where
  pub last : counter_of s slots i ≡ 2 ^ 64 - 1

-- 14, after 15: the output is shorter than the whole need of a packet of this type with so many bytes beside it
pub record Short (s : NetcodeServer) (slots : List ℕ) (i : ℕ) (kind : PacketType) (given out : ℕ) : Type 0 where
  pub unspent : Spent s slots i → ⊥
  pub short : out < need kind given (counter_of s slots i)

-- ---- generate_payload_packet

pub data PayloadSays (s : NetcodeServer) (slots : List ℕ) (id : ℕ) (payload out : List ℕ) : ℕ → Type 0 where
  -- 16: an ask is open
  payload_16 : (s.ask.stage ≡ Idle → ⊥) → PayloadSays s slots id payload out 16
  -- 23: a length unlike set-up's
  payload_23 : s.ask.stage ≡ Idle → (slots_refusal s.set (length slots) ≡ 0 → ⊥) → PayloadSays s slots id payload out 23
  -- 21: payload over limit
  payload_21 : Ready s slots → 1300 < length payload → PayloadSays s slots id payload out 21
  -- 22: no such client
  payload_22 : Ready s slots → length payload ≤ 1300 → find_id slots s.set.slots id ≡ None → PayloadSays s slots id payload out 22
  -- 15, 14
  payload_15 : length payload ≤ 1300 → (i : ℕ) → Client s slots id i → Spent s slots i → PayloadSays s slots id payload out 15
  payload_14 : length payload ≤ 1300 → (i : ℕ) → Client s slots id i → Short s slots i (kind_of Payload) (length payload) (length out)
      → PayloadSays s slots id payload out 14

-- ---- update_client: a disconnect for a slot that is overdue, else a keep-alive for one that is silent

pub data UpdateSays (s : NetcodeServer) (slots : List ℕ) (id : ℕ) (out : List ℕ) : ℕ → Type 0 where
  update_16 : (s.ask.stage ≡ Idle → ⊥) → UpdateSays s slots id out 16
  update_23 : s.ask.stage ≡ Idle → (slots_refusal s.set (length slots) ≡ 0 → ⊥) → UpdateSays s slots id out 23
  -- 15: the keep-alive's, which changes nothing
  update_15 : (i : ℕ) → Client s slots id i → overdue s slots i ≡ false → silent s slots i ≡ true → Spent s slots i → UpdateSays s slots id out 15
  -- 14: the disconnect's; the keep-alive's
  update_14_ends : (i : ℕ) → Client s slots id i → overdue s slots i ≡ true → Short s slots i (kind_of Disconnect) 0 (length out)
      → UpdateSays s slots id out 14
  update_14_keeps : (i : ℕ) → Client s slots id i → overdue s slots i ≡ false → silent s slots i ≡ true
      → Short s slots i (kind_of (keep_alive s.max_clients i)) 0 (length out) → UpdateSays s slots id out 14

-- ---- disconnect

pub data DisconnectSays (s : NetcodeServer) (slots : List ℕ) (id : ℕ) (out : List ℕ) : ℕ → Type 0 where
  disconnect_16 : (s.ask.stage ≡ Idle → ⊥) → DisconnectSays s slots id out 16
  disconnect_23 : s.ask.stage ≡ Idle → (slots_refusal s.set (length slots) ≡ 0 → ⊥) → DisconnectSays s slots id out 23
  disconnect_14 : (i : ℕ) → Client s slots id i → Short s slots i (kind_of Disconnect) 0 (length out) → DisconnectSays s slots id out 14

-- ---- 15 at the packet that ends a slot ("follow the Rust's encode error: the slot being ended is empty and no packet comes")

-- the slot of the id has used up its counter; the answer is of that id and the slot's address
pub record DisconnectSpent (s : NetcodeServer) (slots : List ℕ) (id c : ℕ) (a : Address) : Type 0 where
  pub place : ℕ
  pub client : Client s slots id place
  pub spent : Spent s slots place
  pub same_id : c ≡ id
  pub same_address : a ≡ address_of slots s.set.slots place

-- and it is overdue
pub record UpdateSpent (s : NetcodeServer) (slots : List ℕ) (id c : ℕ) (a : Address) : Type 0 where
  pub ends : DisconnectSpent s slots id c a
  pub late : overdue s slots ends.place ≡ true
