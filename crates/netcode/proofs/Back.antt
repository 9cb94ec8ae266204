-- A record laid in words is read as it was: what set-up fixed stays in its words, and what calls change has a word for each of its numbers. So what one
-- call leaves is what the next one begins with.
use mathlib.Core.Path.{◌≡◌, refl, sym, ap, ap₂, ◌∙◌}
use mathlib.Core.Bool.{Bool, true, false, not}
use Prim.Native.Nat.{ℕ, ◌+◌, ◌*◌, ◌/◌, ◌%◌, ◌≤◌, ◌<◌}
use native.Mathlib.Omega.{arith}
use mathlib.Core.List.{List}
use lib.ListN.{length, get_or}
use lib.Dec.{eqb}
use Rattle.serialize.specs.Choice.{pick}
use Rattle.serialize.specs.Runs.{part, splice, Below}
use Rattle.serialize.specs.Le.{words, bytes_of}
use Rattle.serialize.proofs.Lists.{length_part, get_or_part, length_splice, get_or_splice_in, get_or_splice_other, part_whole, part_splice_in, part_splice_before, part_splice_after}
use Rattle.serialize.proofs.Packed.{length_words, bytes_of_words}
use Rattle.addresses.specs.declared.Address.{Address}
use Rattle.addresses.specs.Addresses.{address, of_words, first_word}
use Rattle.bodies.specs.declared.PacketType.{PacketType}
use Rattle.bodies.specs.declared.PacketType.TheVariants as kind
use Rattle.bodies.specs.Kinds.{number_of}
use Rattle.records.specs.Records.{bit, bytes_at}
use Rattle.server.specs.declared.NetcodeServer.{NetcodeServer}
use Rattle.server.specs.declared.Stage.{Stage}
use Rattle.server.specs.declared.Stage.TheVariants.{Idle, Packet, Token, Challenge, Seal}
use Rattle.server.specs.declared.Goal.{Goal}
use Rattle.server.specs.declared.Goal.TheVariants.{Denied, ChallengeToken, ChallengePacket, Connecting, Sending, Ending}
use Rattle.netcode.specs.Laid.{kind_in, goal_in, stage_in, goal_words, stage_words, set_up_in, record_in, moving, record_words, standing, whole_words}

-- ---- the step's numbers, as they are laid and read

pub kind_back : (k : PacketType) → kind_in (number_of k) ≡ k
unfolding kind_in pick
kind_back kind.ConnectionRequest = refl
kind_back kind.ConnectionDenied = refl
kind_back kind.Challenge = refl
kind_back kind.Response = refl
kind_back kind.KeepAlive = refl
kind_back kind.Payload = refl
kind_back kind.Disconnect = refl

bit_back : (b : Bool) → not (eqb (bit b) 0) ≡ b
unfolding bit pick
bit_back true = refl
bit_back false = refl

-- kind and port as an address has them
pub record Narrow (a : Address) : Type 0 where
  pub kind : a.kind < 256
  pub port : a.port < 65536

address_back : (a : Address) → Narrow a → of_words (first_word a) a.low a.high ≡ a
address_back a n =
    let k : (a.kind * 65536 + a.port) / 65536 % 256 ≡ a.kind = omega (arith, n.kind, n.port) in
    let p : (a.kind * 65536 + a.port) % 65536 ≡ a.port = omega (arith, n.port) in
    ap₂ (λ (x y : ℕ). address x y a.low a.high) k p

unfoldable pub NarrowGoal : Goal → Type 0
NarrowGoal (Denied a) = Narrow a
NarrowGoal (ChallengeToken a) = Narrow a
NarrowGoal (ChallengePacket a) = Narrow a
NarrowGoal (Connecting place slot) = Unit {0}
NarrowGoal (Sending slot) = Unit {0}
NarrowGoal (Ending id a) = Narrow a

-- the addresses in a step are addresses
unfoldable pub NarrowStage : Stage → Type 0
NarrowStage Idle = Unit {0}
NarrowStage (Packet connected place k sequence start) = Unit {0}
NarrowStage (Token a expiry low high) = Narrow a
NarrowStage (Challenge place start) = Unit {0}
NarrowStage (Seal goal sequence end) = NarrowGoal goal

-- words that have the step's thirteen in their places
pub record Holds (w : List ℕ) (v : List ℕ) : Type 0 where
  pub number : get_or w 11 0 ≡ get_or v 0 0
  pub place : get_or w 22 0 ≡ get_or v 1 0
  pub slot : get_or w 23 0 ≡ get_or v 2 0
  pub kind : get_or w 24 0 ≡ get_or v 3 0
  pub sequence : get_or w 25 0 ≡ get_or v 4 0
  pub part : get_or w 26 0 ≡ get_or v 5 0
  pub connected : get_or w 27 0 ≡ get_or v 6 0
  pub first : get_or w 28 0 ≡ get_or v 7 0
  pub low : get_or w 29 0 ≡ get_or v 8 0
  pub high : get_or w 30 0 ≡ get_or v 9 0
  pub id : get_or w 31 0 ≡ get_or v 10 0
  pub mac : get_or w 32 0 ≡ get_or v 11 0
  pub mac_high : get_or w 33 0 ≡ get_or v 12 0

goal_back : (w : List ℕ) (g : Goal) (sequence end : ℕ) → NarrowGoal g → Holds w (goal_words g sequence end) → stage_in w ≡ Seal g sequence end
unfolding stage_in goal_in goal_words NarrowGoal pick
goal_back w (Denied a) sequence end n h = simp (h.number, h.sequence, h.part, h.first, h.low, h.high) (ap (λ (x : Address). Seal (Denied x) sequence end) (address_back a n))
goal_back w (ChallengeToken a) sequence end n h = simp (h.number, h.sequence, h.part, h.first, h.low, h.high) (ap (λ (x : Address). Seal (ChallengeToken x) sequence end) (address_back a n))
goal_back w (ChallengePacket a) sequence end n h = simp (h.number, h.sequence, h.part, h.first, h.low, h.high) (ap (λ (x : Address). Seal (ChallengePacket x) sequence end) (address_back a n))
goal_back w (Connecting place slot) sequence end n h = simp (h.number, h.sequence, h.part, h.place, h.slot)
goal_back w (Sending slot) sequence end n h = simp (h.number, h.sequence, h.part, h.slot)
goal_back w (Ending id a) sequence end n h = simp (h.number, h.sequence, h.part, h.first, h.low, h.high, h.id) (ap (λ (x : Address). Seal (Ending id x) sequence end) (address_back a n))

pub stage_back : (w : List ℕ) (st : Stage) → NarrowStage st → Holds w (stage_words st) → stage_in w ≡ st
unfolding stage_in stage_words NarrowStage pick
stage_back w Idle n h = simp h.number
stage_back w (Packet connected place k sequence start) n h =
    simp (h.number, h.connected, h.place, h.kind, h.sequence, h.part)
    (ap₂ (λ (b : Bool) (x : PacketType). Packet b place x sequence start) (bit_back connected) (kind_back k))
stage_back w (Token a expiry low high) n h =
    simp (h.number, h.first, h.low, h.high, h.id, h.mac, h.mac_high) (ap (λ (x : Address). Token x expiry low high) (address_back a n))
stage_back w (Challenge place start) n h = simp (h.number, h.place, h.part)
stage_back w (Seal goal sequence end) n h = goal_back w goal sequence end n h

-- ---- the words that are laid

goal_long : (g : Goal) (sequence end : ℕ) → length (goal_words g sequence end) ≡ 13
unfolding goal_words
goal_long (Denied a) sequence end = refl
goal_long (ChallengeToken a) sequence end = refl
goal_long (ChallengePacket a) sequence end = refl
goal_long (Connecting place slot) sequence end = refl
goal_long (Sending slot) sequence end = refl
goal_long (Ending id a) sequence end = refl

stage_long : (st : Stage) → length (stage_words st) ≡ 13
unfolding stage_words
stage_long Idle = refl
stage_long (Packet connected place k sequence start) = refl
stage_long (Token a expiry low high) = refl
stage_long (Challenge place start) = refl
stage_long (Seal goal sequence end) = goal_long goal sequence end

module _ (w vs us : List ℕ) (long : length w ≡ 34) (eight : length vs ≡ 8) (twelve : length us ≡ 12) where
  inner : length (splice w 6 vs) ≡ 34
  inner = length_splice w 6 vs (omega (arith, long, eight)) ∙ long

  low_word : (j : ℕ) → j < 8 → get_or (splice (splice w 6 vs) 22 us) (6 + j) 0 ≡ get_or vs j 0
  low_word j h =
      get_or_splice_other (splice w 6 vs) 22 us (6 + j) (omega (arith, inner, twelve)) (λ (q : ℕ) l e. absurd (omega (arith, h, l, e)))
      ∙ get_or_splice_in w 6 vs j (omega (arith, long, eight)) (omega (arith, eight, h))

  high_word : (j : ℕ) → j < 12 → get_or (splice (splice w 6 vs) 22 us) (22 + j) 0 ≡ get_or us j 0
  high_word j h = get_or_splice_in (splice w 6 vs) 22 us j (omega (arith, inner, twelve)) (omega (arith, twelve, h))

  first_word_lem : (j : ℕ) → j < 6 → get_or (splice (splice w 6 vs) 22 us) j 0 ≡ get_or w j 0
  first_word_lem j h =
      get_or_splice_other (splice w 6 vs) 22 us j (omega (arith, inner, twelve)) (λ (q : ℕ) l e. absurd (omega (arith, h, e)))
      ∙ get_or_splice_other w 6 vs j (omega (arith, long, eight)) (λ (q : ℕ) l e. absurd (omega (arith, h, e)))

  key_words : (j : ℕ) → 14 ≤ j → j + 4 ≤ 22 → part (splice (splice w 6 vs) 22 us) j 4 ≡ part w j 4
  key_words j l h =
      part_splice_before (splice w 6 vs) 22 us j 4 (omega (arith, inner, twelve)) h ∙ part_splice_after w 6 vs j 4 (omega (arith, long, h)) (omega (arith, eight, l))

-- ---- the record

module _ (w : List ℕ) (s : NetcodeServer) (long : length w ≡ 34) where
  abbrev step : List ℕ
  step = stage_words s.ask.stage

  twelve : length (part step 1 12) ≡ 12
  twelve = length_part step 1 12 (omega (arith, stage_long s.ask.stage))

  low : (j : ℕ) → j < 8 → get_or (record_words w s) (6 + j) 0 ≡ get_or (moving s) j 0
  unfolding record_words
  low j h = low_word w (moving s) (part step 1 12) long refl twelve j h

  high : (j : ℕ) → j < 12 → get_or (record_words w s) (22 + j) 0 ≡ get_or step (1 + j) 0
  unfolding record_words
  high j h = high_word w (moving s) (part step 1 12) long refl twelve j h ∙ get_or_part step 1 12 j h

  first : (j : ℕ) → j < 6 → get_or (record_words w s) j 0 ≡ get_or w j 0
  unfolding record_words
  first j h = first_word_lem w (moving s) (part step 1 12) long refl twelve j h

  keys : (j : ℕ) → 14 ≤ j → j + 4 ≤ 22 → bytes_at (record_words w s) j 4 ≡ bytes_at w j 4
  unfolding record_words
  keys j l h = ap bytes_of (key_words w (moving s) (part step 1 12) long refl twelve j l h)

  holds : Holds (record_words w s) step
  holds = record {
    number = low 5 (omega arith);
    place = high 0 (omega arith);
    slot = high 1 (omega arith);
    kind = high 2 (omega arith);
    sequence = high 3 (omega arith);
    part = high 4 (omega arith);
    connected = high 5 (omega arith);
    first = high 6 (omega arith);
    low = high 7 (omega arith);
    high = high 8 (omega arith);
    id = high 9 (omega arith);
    mac = high 10 (omega arith);
    mac_high = high 11 (omega arith);
  }

  set_up_back : set_up_in (record_words w s) ≡ set_up_in w
  unfolding set_up_in
  set_up_back =
      simp
      (first 0 (omega arith), first 1 (omega arith), first 2 (omega arith), first 3 (omega arith), first 4 (omega arith), first 5 (omega arith), keys 14 (omega arith) (omega arith), keys 18 (omega arith) (omega arith))

  pub record_back : s.set ≡ set_up_in w → NarrowStage s.ask.stage → record_in (record_words w s) ≡ s
  unfolding record_in
  record_back fixed narrow =
      simp
      (set_up_back, sym fixed, low 0 (omega arith), low 1 (omega arith), low 2 (omega arith), low 3 (omega arith), low 4 (omega arith), low 6 (omega arith), low 7 (omega arith), stage_back (record_words w s) s.ask.stage narrow holds)

-- ---- the whole record, as set-up lays it

-- a key as keys are
pub record IsKey (key : List ℕ) : Type 0 where
  pub long : length key ≡ 32
  pub bytes : Below 256 key

key_back : (key : List ℕ) → IsKey key → bytes_of (words 4 key) ≡ key
key_back key is = bytes_of_words 4 key is.bytes (omega (arith, is.long)) ∙ part_whole key 32 is.long

module _ (w : List ℕ) (s : NetcodeServer) (long : length w ≡ 34) (connect : IsKey s.set.connect_key) (challenge : IsKey s.set.challenge_key) where
  abbrev one : List ℕ
  one = splice w 0 (standing s.set)

  abbrev two : List ℕ
  two = splice one 14 (words 4 s.set.connect_key)

  abbrev three : List ℕ
  three = splice two 18 (words 4 s.set.challenge_key)

  four : (key : List ℕ) → length (words 4 key) ≡ 4
  four key = length_words 4 key

  long_one : length one ≡ 34
  long_one = length_splice w 0 (standing s.set) (omega (arith, long)) ∙ long

  long_two : length two ≡ 34
  long_two = length_splice one 14 (words 4 s.set.connect_key) (omega (arith, long_one, four s.set.connect_key)) ∙ long_one

  long_three : length three ≡ 34
  long_three = length_splice two 18 (words 4 s.set.challenge_key) (omega (arith, long_two, four s.set.challenge_key)) ∙ long_two

  stands : (j : ℕ) → j < 6 → get_or three j 0 ≡ get_or (standing s.set) j 0
  stands j h =
      let z : j ≡ 0 + j = omega arith in
      get_or_splice_other two 18 (words 4 s.set.challenge_key) j (omega (arith, long_two, four s.set.challenge_key)) (λ (q : ℕ) l e. absurd (omega (arith, h, e)))
      ∙ get_or_splice_other one 14 (words 4 s.set.connect_key) j (omega (arith, long_one, four s.set.connect_key)) (λ (q : ℕ) l e. absurd (omega (arith, h, e)))
      ∙ ap (λ (k : ℕ). get_or one k 0) z
      ∙ get_or_splice_in w 0 (standing s.set) j (omega (arith, long)) h

  connect_back : bytes_at three 14 4 ≡ s.set.connect_key
  connect_back =
      ap bytes_of
      (part_splice_before two 18 (words 4 s.set.challenge_key) 14 4 (omega (arith, long_two, four s.set.challenge_key)) (omega arith)
      ∙ part_splice_in one 14 (words 4 s.set.connect_key) 0 4 (omega (arith, long_one, four s.set.connect_key)) (omega (arith, four s.set.connect_key))
      ∙ part_whole (words 4 s.set.connect_key) 4 (four s.set.connect_key))
      ∙ key_back s.set.connect_key connect

  challenge_back : bytes_at three 18 4 ≡ s.set.challenge_key
  challenge_back =
      ap bytes_of
      (part_splice_in two 18 (words 4 s.set.challenge_key) 0 4 (omega (arith, long_two, four s.set.challenge_key)) (omega (arith, four s.set.challenge_key))
      ∙ part_whole (words 4 s.set.challenge_key) 4 (four s.set.challenge_key))
      ∙ key_back s.set.challenge_key challenge

  fixed_back : s.set ≡ set_up_in three
  unfolding set_up_in
  fixed_back =
      sym
      (simp
      (stands 0 (omega arith), stands 1 (omega arith), stands 2 (omega arith), stands 3 (omega arith), stands 4 (omega arith), stands 5 (omega arith), bit_back s.set.secure, connect_back, challenge_back))

  pub whole_back : NarrowStage s.ask.stage → record_in (whole_words w s) ≡ s
  unfolding whole_words
  whole_back narrow = record_back three s long_three fixed_back narrow
