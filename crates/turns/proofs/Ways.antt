-- `encode` refuses nothing that it is asked here to write, so what it wrote and asks for is what the definitions say.
use mathlib.Core.Path.{◌≡◌, ap, ap₂, ◌∙◌}
use mathlib.Core.Bool.{true, false}
use Prim.Native.Nat.{ℕ, ◌-◌, ◌^◌, ◌≤◌, ◌<◌}
use native.Mathlib.Omega.{arith}
use mathlib.Core.List.{List}
use lib.ListN.{length}
use lib.Dec.{ltb}
use Rattle.std.specs.Prelude.{Some, Result}
use borrow.Author.Tests.{eq-eqb, ne_eqb, le-ltb, lt-ltb}
use Rattle.serialize.specs.Choice.{pick}
use Rattle.prefix.proofs.Fewest.{fewest_le}
use Rattle.bodies.specs.declared.Packet.{Packet}
use Rattle.bodies.specs.declared.Packet.TheVariants.{ConnectionDenied, KeepAlive}
use Rattle.bodies.specs.Kinds.{is_request}
use Rattle.bodies.specs.Bodies.{kind_of, wants}
use Rattle.addresses.specs.declared.Address.{Address}
use Rattle.encode.specs.declared.Encoded.{Encoded}
use Rattle.encode.specs.Encodes.{Done, done, encode, unencodable, written_as, need, shown, tag_places}
use Rattle.server.specs.declared.NetcodeServer.{NetcodeServer}
use Rattle.server.specs.declared.Ask.{Ask}
use Rattle.server.specs.declared.Goal.TheVariants.{Denied}
use Rattle.server.specs.declared.Stage.TheVariants as stage
use Rattle.server.specs.declared.Answer.TheVariants.{Refused}
use Rattle.server.specs.Asking.{asked}
use Rattle.refusal.specs.Verdicts.{verdict}
use Rattle.server.specs.Ready.{answer_refusal, next_to}
use Rattle.server.proofs.Verdicts.{next_verdict, pick_verdict, answer_verdict_of}
use Rattle.server.proofs.Ways.{first_refuses, second_decides}
use Rattle.turns.specs.declared.Turn.{Turn}
use Rattle.turns.specs.Outcomes.{asking, closed, open_refusal, open_verdict}
use Rattle.turns.specs.Packets.{seal_ask_with, seal_out_with, seal_ask, seal_out, Sealing, sealing, spoken, denied}

-- ---- writing

module _ (out : List ℕ) (packet : Packet) (bytes : List ℕ) (protocol : ℕ) (key : List ℕ) (sequence : ℕ)
    (sealed : is_request (kind_of packet) ≡ false) (enough : wants (kind_of packet) ≡ 0)
    (room : need (kind_of packet) (length bytes) sequence ≤ length out) where
  writable : unencodable (length out) (kind_of packet) (length bytes) true sequence ≡ 0
  unfolding unencodable pick
  writable =
      simp (le-ltb (length out) (need (kind_of packet) (length bytes) sequence) room, le-ltb (length bytes) (wants (kind_of packet)) (omega arith))

  pub packet_written : (r : Encoded) (out' : List ℕ) → done r out' ≡ encode out packet bytes protocol (Some key) sequence → (a : Ask) → a ≡ asked r.ask
      → sealing a out' ≡ sealing (seal_ask_with packet (length bytes) protocol key sequence) (seal_out_with out packet bytes sequence)
  unfolding encode written_as pick seal_ask_with seal_out_with
  packet_written r out' e a f =
      let w : done r out' ≡ done (written_as (length out) (kind_of packet) (length bytes) protocol (Some key) sequence) (seal_out_with out packet bytes sequence) = e ∙ simp writable in
      ap₂ sealing (f ∙ ap (λ (d : Done). asked d.encoded.ask) w ∙ simp sealed) (ap (λ (d : Done). d.out) w)

-- a denied has 25 bytes at most
pub denied_short : (sequence : ℕ) → sequence < 256 ^ 8 → need (kind_of ConnectionDenied) 0 sequence ≤ 25
unfolding shown tag_places pick
denied_short sequence h = let k = fewest_le sequence h in omega arith

-- a keep-alive 33
pub keep_alive_short : (index maximum sequence : ℕ) → sequence < 256 ^ 8 → need (kind_of (KeepAlive index maximum)) 0 sequence ≤ 33
unfolding shown tag_places pick
keep_alive_short index maximum sequence h = let k = fewest_le sequence h in omega arith

-- ---- denied

module _ (s : NetcodeServer) (datagram : ℕ) (out key : List ℕ) (addr : Address) where
  abbrev g : ℕ
  g = s.counters.global_sequence

  pub denied_late : g ≡ 2 ^ 64 - 1 → (r : Turn) → r ≡ closed s (Refused 15) → spoken r out ≡ denied s datagram out key addr
  unfolding denied pick
  denied_late e r f = ap (λ (x : Turn). spoken x out) f ∙ simp (eq-eqb g (2 ^ 64 - 1) e)

  pub denied_asks : (g ≡ 2 ^ 64 - 1 → ⊥) → (a : Ask) (out' : List ℕ)
      → sealing a out' ≡ sealing (seal_ask ConnectionDenied s.set.protocol_id key g) (seal_out out ConnectionDenied g)
      → (r : Turn) → r ≡ asking s (stage.Seal (Denied addr) g a.end) datagram (length out) a
      → spoken r out' ≡ denied s datagram out key addr
  unfolding denied pick seal_ask_with asked
  denied_asks n a out' e r f =
      ap (λ (x : Turn). spoken x out') f
      ∙ ap (λ (w : Sealing). spoken (asking s (stage.Seal (Denied addr) g w.ask.end) datagram (length out) w.ask) w.out) e
      ∙ simp (ne_eqb g (2 ^ 64 - 1) n)

-- ---- the answer to an ask to open

module _ (s : NetcodeServer) (tables kind datagram out r : ℕ) (e : r ≡ answer_refusal s.ask tables kind s.set datagram out) where
  pub open_refused : (r ≡ 0 → ⊥) → r ≡ open_refusal s tables kind datagram out
  unfolding open_refusal
  open_refused n = first_refuses (answer_refusal s.ask tables kind s.set datagram out) (pick (ltb out 1400) 18 0) r e n

  pub open_narrow : r ≡ 0 → out < 1400 → 18 ≡ open_refusal s tables kind datagram out
  unfolding open_refusal pick
  open_narrow z h = second_decides (answer_refusal s.ask tables kind s.set datagram out) (pick (ltb out 1400) 18 0) r e z 18 (simp (lt-ltb out 1400 h))

  pub open_passes : r ≡ 0 → 1400 ≤ out → 0 ≡ open_refusal s tables kind datagram out
  unfolding open_refusal pick
  open_passes z h = second_decides (answer_refusal s.ask tables kind s.set datagram out) (pick (ltb out 1400) 18 0) r e z 0 (simp (le-ltb out 1400 h))

-- the same of what the tables' test came to, for the crates above: a call tests its tables, whose number is t, and then the ask

module _ (s : NetcodeServer) (t kind datagram out : ℕ) where
  pub open_verdict_of : open_verdict s (verdict t) kind datagram out ≡ verdict (open_refusal s t kind datagram out)
  unfolding open_verdict open_refusal verdict
  open_verdict_of =
      ap₂ next_to (answer_verdict_of s.ask t kind s.set datagram out) (pick_verdict (ltb out 1400) 18 0)
      ∙ next_verdict (answer_refusal s.ask t kind s.set datagram out) (pick (ltb out 1400) 18 0)

  pub open_tested : (tables r : Result (Unit {0}) ℕ) → tables ≡ verdict t → r ≡ open_verdict s tables kind datagram out
      → r ≡ verdict (open_refusal s t kind datagram out)
  open_tested tables r e f = f ∙ ap (λ (x : Result (Unit {0}) ℕ). open_verdict s x kind datagram out) e ∙ open_verdict_of
