-- A call that no shared test refuses has what the tests ask for: each test is passed, since a number that is not 0 would have been given.
use mathlib.Core.Path.{◌≡◌, refl}
use mathlib.Core.Bool.{Bool, true, false, not, ◌||◌, true≢false}
use Prim.Native.Nat.{ℕ, ◌*◌, ◌≤◌, ◌<◌}
use native.Mathlib.Omega.{arith}
use mathlib.Core.List.{List}
use mathlib.Core.Logic.{◌↔◌}
use lib.ListN.{length}
use lib.Dec.{eqb, ltb}
use borrow.Author.Tests.{eq-eqb, ne_eqb, le-ltb, eqb-true, eqb-false, ltb-false}
use Rattle.serialize.specs.Choice.{pick}
use Rattle.places.specs.Layout.{Shaped, place_words}
use Rattle.entries.specs.Layout as entry
use Rattle.server.specs.declared.OpenAsk.{OpenAsk}
use Rattle.server.specs.declared.SetUp.{SetUp}
use Rattle.server.specs.declared.Stage.{Stage}
use Rattle.server.specs.declared.Stage.TheVariants.{Idle, Packet, Token, Challenge, Seal}
use Rattle.server.specs.Ready.{length_refusal, slots_refusal, pending_refusal, entries_refusal, list_refusal, before, both_refusal, all_refusal, kind_of, call_refusal, misfits, unfit, answer_refusal}

-- ---- tables: 23

passed : (a b c : Bool) → pick {A = ℕ} a 23 (pick b 23 (pick c 0 23)) ≡ 0 → (a ≡ false) × (b ≡ false) × (c ≡ true)
unfolding pick
passed false false true h = (refl, refl, refl)
passed false false false h = absurd (omega arith)
passed false true c h = absurd (omega arith)
passed true b c h = absurd (omega arith)

-- what a length test lets through
pub record Taken (len n most size : ℕ) : Type 0 where
  pub some : 0 < n
  pub few : n ≤ most
  pub long : len ≡ n * size

taken : (len n most size : ℕ) → pick {A = ℕ} (eqb n 0) 23 (pick (ltb most n) 23 (pick (eqb len (n * size)) 0 23)) ≡ 0 → Taken len n most size
taken len n most size h =
    let (a, b, c) = passed (eqb n 0) (ltb most n) (eqb len (n * size)) h in
    let z : n ≡ 0 → ⊥ = eqb-false n 0 a in
    record { some = omega arith; few = ltb-false most n b; long = eqb-true len (n * size) c }

gives : (len n most size : ℕ) → Taken len n most size → pick {A = ℕ} (eqb n 0) 23 (pick (ltb most n) 23 (pick (eqb len (n * size)) 0 23)) ≡ 0
unfolding pick
gives len n most size t =
    let z : n ≡ 0 → ⊥ = λ e. omega (arith, t.some) in
    simp (ne_eqb n 0 z, le-ltb most n t.few, eq-eqb len (n * size) t.long)

-- a table of n places is not refused exactly where it is as long as n places, some and no more than there may be
pub length_exactly : (len n most : ℕ) → (length_refusal len n most ≡ 0) ↔ Taken len n most place_words
unfolding length_refusal
length_exactly len n most = (taken len n most place_words, gives len n most place_words)

module _ (set : SetUp) where
  pub entries_exactly : (len : ℕ) → (entries_refusal set len ≡ 0) ↔ Taken len set.entries 2048 48
  unfolding entries_refusal
  entries_exactly len = (taken len set.entries 2048 48, gives len set.entries 2048 48)

  pub list_exactly : (len : ℕ) → (list_refusal set len ≡ 0) ↔ (len ≡ set.addresses * 3)
  unfolding list_refusal pick
  list_exactly len = (λ h. listed (eqb len (set.addresses * 3)) refl h, λ e. simp (eq-eqb len (set.addresses * 3) e))
    where
      listed : (b : Bool) → eqb len (set.addresses * 3) ≡ b → pick {A = ℕ} b 0 23 ≡ 0 → len ≡ set.addresses * 3
      listed true e h = eqb-true len (set.addresses * 3) e
      listed false e h = absurd (omega arith)

  -- the shapes that the functions on tables ask for

  pub slots_shaped : (t : List ℕ) → slots_refusal set (length t) ≡ 0 → Shaped t set.slots
  slots_shaped t h =
      let k = (length_exactly (length t) set.slots 1024).0 h in
      record { few = omega (arith, k.few); long = k.long }

  pub pending_shaped : (t : List ℕ) → pending_refusal set (length t) ≡ 0 → Shaped t set.pending
  pending_shaped t h =
      let k = (length_exactly (length t) set.pending 4096).0 h in
      record { few = k.few; long = k.long }

  pub entries_shaped : (t : List ℕ) → entries_refusal set (length t) ≡ 0 → entry.Shaped t set.entries
  entries_shaped t h =
      let k = (entries_exactly (length t)).0 h in
      record { some = k.some; few = k.few; long = k.long }

-- neither of two refuses
pub neither : (a b : ℕ) → before a b ≡ 0 → (a ≡ 0) × (b ≡ 0)
unfolding before pick
neither a b h = by (eqb a 0) refl h
  where
    by : (c : Bool) → eqb a 0 ≡ c → pick c b a ≡ 0 → (a ≡ 0) × (b ≡ 0)
    by true e k = (eqb-true a 0 e, k)
    by false e k = absurd (eqb-false a 0 e k)

module _ (set : SetUp) (slots pending : List ℕ) where
  pub both_shaped : both_refusal set (length slots) (length pending) ≡ 0 → Shaped slots set.slots × Shaped pending set.pending
  both_shaped h =
      let k = neither (slots_refusal set (length slots)) (pending_refusal set (length pending)) h in
      (slots_shaped set slots k.0, pending_shaped set pending k.1)

  pub all_shaped : (entries public : List ℕ) → all_refusal set (length slots) (length pending) (length entries) (length public) ≡ 0
      → Shaped slots set.slots × Shaped pending set.pending × entry.Shaped entries set.entries × (length public ≡ set.addresses * 3)
  all_shaped entries public h =
      let k = neither (both_refusal set (length slots) (length pending)) (before (entries_refusal set (length entries)) (list_refusal set (length public))) h in
      let l = neither (entries_refusal set (length entries)) (list_refusal set (length public)) k.1 in
      let b = both_shaped k.0 in
      (b.0, b.1, entries_shaped set entries l.0, (list_exactly set (length public)).0 l.1)

-- ---- calls: 16 and 23

pub idle_only : (stage : Stage) → kind_of stage ≡ 0 → stage ≡ Idle
unfolding kind_of
idle_only Idle h = refl
idle_only (Packet a b c d e) h = absurd (omega arith)
idle_only (Token a b c d) h = absurd (omega arith)
idle_only (Challenge a b) h = absurd (omega arith)
idle_only (Seal a b c) h = absurd (omega arith)

pub idle_is_0 : (stage : Stage) → stage ≡ Idle → kind_of stage ≡ 0
unfolding kind_of
idle_is_0 stage e = simp e

-- no ask is open, and the tables are set-up's
pub call_free : (ask : OpenAsk) (tables : ℕ) → call_refusal ask tables ≡ 0 → (ask.stage ≡ Idle) × (tables ≡ 0)
unfolding call_refusal pick
call_free ask tables h = by (eqb (kind_of ask.stage) 0) refl h
  where
    by : (c : Bool) → eqb (kind_of ask.stage) 0 ≡ c → pick {A = ℕ} c tables 16 ≡ 0 → (ask.stage ≡ Idle) × (tables ≡ 0)
    by true e k = (idle_only ask.stage (eqb-true (kind_of ask.stage) 0 e), k)
    by false e k = absurd (omega arith)

-- 16 is given exactly while an ask is open
pub open_refused : (ask : OpenAsk) (tables : ℕ) → (ask.stage ≡ Idle → ⊥) → call_refusal ask tables ≡ 16
unfolding call_refusal pick
open_refused ask tables n = simp (ne_eqb (kind_of ask.stage) 0 (λ z. n (idle_only ask.stage z)))

pub idle_passes : (ask : OpenAsk) (tables : ℕ) → ask.stage ≡ Idle → call_refusal ask tables ≡ tables
unfolding call_refusal pick kind_of
idle_passes ask tables e = simp e

-- ---- answers: 17, 23 and 18

-- what an answer that is not refused has: its ask, the tables and the buffers, and places, parts and a counter that there are
pub record Answerable (ask : OpenAsk) (tables kind : ℕ) (set : SetUp) (datagram out : ℕ) : Type 0 where
  pub asked : ask.stage ≡ Idle → ⊥
  pub tabled : tables ≡ 0
  pub wanted : kind_of ask.stage ≡ kind
  pub same_datagram : datagram ≡ ask.datagram
  pub same_out : out ≡ ask.out
  pub fitting : misfits ask.stage set.slots set.pending datagram out ≡ false

fit : (a b c d : Bool) → not a || (not b || (not c || d)) ≡ false → (a ≡ true) × (b ≡ true) × (c ≡ true) × (d ≡ false)
fit true true true false h = (refl, refl, refl, refl)
fit true true true true h = absurd (true≢false h)
fit true true false d h = absurd (true≢false h)
fit true false c d h = absurd (true≢false h)
fit false b c d h = absurd (true≢false h)

let_through : (a b c : Bool) (tables : ℕ) → eqb tables 0 ≡ b → pick {A = ℕ} a 17 (pick b (pick c 18 0) tables) ≡ 0 → (a ≡ false) × (b ≡ true) × (c ≡ false)
unfolding pick
let_through false true false tables e h = (refl, refl, refl)
let_through false true true tables e h = absurd (omega arith)
let_through false false c tables e h = absurd (eqb-false tables 0 e h)
let_through true b c tables e h = absurd (omega arith)

pub answer_fits : (ask : OpenAsk) (tables kind : ℕ) (set : SetUp) (datagram out : ℕ) → answer_refusal ask tables kind set datagram out ≡ 0
    → Answerable ask tables kind set datagram out
unfolding answer_refusal unfit
answer_fits ask tables kind set datagram out h =
    let (a, b, c) = let_through (eqb (kind_of ask.stage) 0) (eqb tables 0) (unfit ask kind set datagram out) tables refl h in
    let (k, d, o, m) = fit (eqb (kind_of ask.stage) kind) (eqb datagram ask.datagram) (eqb out ask.out) (misfits ask.stage set.slots set.pending datagram out) c in
    record {
      asked = λ e. eqb-false (kind_of ask.stage) 0 a (idle_is_0 ask.stage e);
      tabled = eqb-true tables 0 b;
      wanted = eqb-true (kind_of ask.stage) kind k;
      same_datagram = eqb-true datagram ask.datagram d;
      same_out = eqb-true out ask.out o;
      fitting = m;
    }
