-- The ways out of the code: each test that the code makes is one of the definition's, so a way out is the definition's case.
use Rattle.std.specs.Prelude.{Option, None, is_some, Result}
use mathlib.Core.Path.{◌≡◌, sym, ap, ap₂, ◌∙◌}
use mathlib.Core.Logic.{◌≢◌}
use mathlib.Core.Bool.{Bool, true, false, not, ◌&&◌}
use mathlib.Core.List.{List}
use Prim.Native.Nat.{ℕ, ◌+◌, ◌≤◌, ◌<◌}
use native.Mathlib.Omega.{arith}
use borrow.Author.Tests.{lt-ltb, le-ltb, eq-eqb, ne_eqb, ltb-true, ltb-false}
use lib.ListN.{length, set}
use lib.Dec.{ltb}
use Rattle.serialize.specs.Choice.{pick}
use Rattle.serialize.specs.Runs.{splice}
use Rattle.serialize.proofs.Choice.{by_test}
use Rattle.serialize.proofs.Lists.{splice_then, splice_cons}
use Rattle.serialize.specs.Le.{to_le}
use Rattle.serialize.proofs.Le.{length_to_le}
use Rattle.prefix.specs.Head.{fewest, prefix_byte, head_bytes}
use Rattle.bodies.specs.declared.PacketType.{PacketType}
use Rattle.bodies.specs.declared.Packet.{Packet}
use Rattle.bodies.specs.Kinds.{number_of, is_request}
use Rattle.bodies.specs.Bodies.{kind_of, wants, body_length, body}
use Rattle.bodies.proofs.Back.{length_body}
use Rattle.refusal.specs.Verdicts.{verdict}
use Rattle.asks.specs.declared.Ask.{Ask}
use Rattle.asks.specs.declared.Work.TheVariants.{Seal}
use Rattle.encode.specs.declared.Encoding.TheVariants.{Asked, Length}
use Rattle.encode.specs.declared.Encoded.{Encoded}
use Rattle.asks.specs.Asks.{no_ask, packet_ask, key_bytes}
use Rattle.encode.specs.Encodes.{done, encoded_as, open_at, refused_by, shown, body_at, need, unencodable, written_as, encode}

module _ (room : ℕ) (kind : PacketType) (given : ℕ) (keyed : Bool) (sequence : ℕ) where
  pub lacks_key : not keyed && not (is_request kind) ≡ true → 3 ≡ unencodable room kind given keyed sequence
  unfolding unencodable pick
  lacks_key e = simp e

  pub lacks_room : not keyed && not (is_request kind) ≡ false → room < need kind given sequence → 14 ≡ unencodable room kind given keyed sequence
  unfolding unencodable pick
  lacks_room e h = simp (e, lt-ltb room (need kind given sequence) h)

  pub lacks_bytes : not keyed && not (is_request kind) ≡ false → need kind given sequence ≤ room → given < wants kind → 9 ≡ unencodable room kind given keyed sequence
  unfolding unencodable pick
  lacks_bytes e h k = simp (e, le-ltb room (need kind given sequence) h, lt-ltb given (wants kind) k)

  pub lacks_nothing : not keyed && not (is_request kind) ≡ false → need kind given sequence ≤ room → wants kind ≤ given → 0 ≡ unencodable room kind given keyed sequence
  unfolding unencodable pick
  lacks_nothing e h k = simp (e, le-ltb room (need kind given sequence) h, le-ltb given (wants kind) k)

  -- and back: nothing refuses, so nothing is missing
  pub encodable : unencodable room kind given keyed sequence ≡ 0 → (not keyed && not (is_request kind) ≡ false) × ((need kind given sequence ≤ room) × (wants kind ≤ given))
  encodable h =
      by_test (not keyed && not (is_request kind)) (λ e. absurd (let n : 3 ≡ 0 = lacks_key e ∙ h in omega arith)) (λ e.
      by_test (ltb room (need kind given sequence)) (λ f. absurd (let n : 14 ≡ 0 = lacks_room e (ltb-true room (need kind given sequence) f) ∙ h in omega arith)) (λ f.
      let fits : need kind given sequence ≤ room = ltb-false room (need kind given sequence) f in
      by_test (ltb given (wants kind)) (λ g. absurd (let n : 9 ≡ 0 = lacks_bytes e fits (ltb-true given (wants kind) g) ∙ h in omega arith)) (λ g.
      (e, (fits, ltb-false given (wants kind) g)))))

pub length_head : (kind : PacketType) (sequence : ℕ) → length (head_bytes (number_of kind) (shown kind sequence)) ≡ body_at kind sequence
length_head kind sequence = omega (arith, length_to_le (fewest (shown kind sequence)) (shown kind sequence))

-- prefix byte and sequence, as the code writes them
pub head_written : (out t : List ℕ) (kind : PacketType) (sequence : ℕ) {seq n p : ℕ} → body_at kind sequence ≤ length out
    → seq ≡ shown kind sequence → n ≡ number_of kind → p ≡ prefix_byte n (fewest seq) → t ≡ splice (set out 0 p) 1 (to_le (fewest seq) seq)
    → t ≡ splice out 0 (head_bytes (number_of kind) (shown kind sequence))
head_written out t kind sequence h e f g i =
    let v : ℕ = shown kind sequence in
    i
    ∙ ap₂ (λ (q w : ℕ). splice (set out 0 q) 1 (to_le (fewest w) w)) (g ∙ ap₂ (λ (m w : ℕ). prefix_byte m (fewest w)) f e) e
    ∙ splice_cons out 0 (prefix_byte (number_of kind) (fewest v)) (to_le (fewest v) v) (omega (arith, length_to_le (fewest v) v))

-- what follows from what was written
module _ (room : ℕ) (kind : PacketType) (given protocol : ℕ) (key : Option (List ℕ)) (sequence : ℕ) {end : ℕ} (ends : end ≡ need kind given sequence) where
  pub written_whole : {r : Encoded} → is_request kind ≡ true → r ≡ encoded_as (Length end) no_ask None → r ≡ written_as room kind given protocol key sequence
  unfolding written_as pick
  written_whole e f = f ∙ simp (e, ends)

  pub written_asked : {start n p : ℕ} {a : Ask} → is_request kind ≡ false → start ≡ body_at kind sequence → n ≡ number_of kind → p ≡ prefix_byte n (fewest sequence)
      → a ≡ packet_ask Seal (key_bytes key) sequence p protocol start end
      → encoded_as Asked a (open_at end room) ≡ written_as room kind given protocol key sequence
  unfolding written_as pick
  written_asked e f g h i = simp (e, i, f, ends, h ∙ ap (λ (x : ℕ). prefix_byte x (fewest sequence)) g)

-- what the test of the code comes to, which asks whether there is a key
pub tested_keyed : (room : ℕ) (kind : PacketType) (given : ℕ) (key : Option (List ℕ)) (sequence : ℕ) {keyed : Bool} {x : Result (Unit {0}) ℕ}
    → x ≡ verdict (unencodable room kind given keyed sequence) → keyed ≡ is_some key → x ≡ verdict (unencodable room kind given (is_some key) sequence)
tested_keyed room kind given key sequence e f = e ∙ ap (λ (b : Bool). verdict (unencodable room kind given b sequence)) f

-- the whole: k is the packet's type and u the number that refuses
module _ (out : List ℕ) (packet : Packet) (bytes : List ℕ) (protocol : ℕ) (key : Option (List ℕ)) (sequence : ℕ) {k : PacketType} {u : ℕ}
    (same : k ≡ kind_of packet) (number : u ≡ unencodable (length out) k (length bytes) (is_some key) sequence) where
  refuses : u ≡ unencodable (length out) (kind_of packet) (length bytes) (is_some key) sequence
  refuses = number ∙ ap (λ (x : PacketType). unencodable (length out) x (length bytes) (is_some key) sequence) same

  pub encode_refused : {r : Encoded} → r ≡ refused_by u → u ≢ 0 → done r out ≡ encode out packet bytes protocol key sequence
  unfolding encode pick
  encode_refused e n = simp (e, refuses, ne_eqb _ 0 (λ z. n (refuses ∙ z)))

  -- where nothing refuses, the body has its bytes and its room
  pub room_for_body : {start : ℕ} (t : List ℕ) → u ≡ 0 → start ≡ body_at k sequence → length t ≡ length out
      → (wants (kind_of packet) ≤ length bytes) × (start + body_length (kind_of packet) (length bytes) ≤ length t)
  room_for_body {start} t z s e =
      let kind : PacketType = kind_of packet in
      let (keyed, room) = encodable (length out) kind (length bytes) (is_some key) sequence (sym refuses ∙ z) in
      let c : start ≡ body_at kind sequence = s ∙ ap (λ (x : PacketType). body_at x sequence) same in
      (room.1, omega arith)

  pub encode_written : {r : Encoded} {start : ℕ} {t v : List ℕ} → u ≡ 0 → start ≡ body_at k sequence
      → t ≡ splice out 0 (head_bytes (number_of k) (shown k sequence)) → v ≡ splice t start (body packet bytes)
      → r ≡ written_as (length out) k (length bytes) protocol key sequence
      → done r v ≡ encode out packet bytes protocol key sequence
  unfolding encode pick
  encode_written {r} {start} {t} {v} z s e f g =
      let kind : PacketType = kind_of packet in
      let (keyed, room) = encodable (length out) kind (length bytes) (is_some key) sequence (sym refuses ∙ z) in
      let a : length (head_bytes (number_of kind) (shown kind sequence)) ≡ body_at kind sequence = length_head kind sequence in
      let b : length (body packet bytes) ≡ body_length kind (length bytes) = length_body packet bytes room.1 in
      let c : start ≡ body_at kind sequence = s ∙ ap (λ (x : PacketType). body_at x sequence) same in
      let d : t ≡ splice out 0 (head_bytes (number_of kind) (shown kind sequence)) = e ∙ ap (λ (x : PacketType). splice out 0 (head_bytes (number_of x) (shown x sequence))) same in
      simp (eq-eqb _ 0 (sym refuses ∙ z))
      (ap₂ done (g ∙ ap (λ (x : PacketType). written_as (length out) x (length bytes) protocol key sequence) same)
      (splice_then out t v 0 (head_bytes (number_of kind) (shown kind sequence)) start (body packet bytes) d f (omega arith) (omega arith)))
