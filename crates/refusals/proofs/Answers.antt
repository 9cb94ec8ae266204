-- Every answer of the host meets the same tests, each before what follows it: an open ask, tables of set-up's lengths, an answer that fits the
-- ask, and for an ask to open the output of 1,400 bytes. So the first that fails decides the number, and where none fails there is none.
use mathlib.Core.Path.{◌≡◌, refl, ◌∙◌}
use mathlib.Core.Bool.{Bool, true, false}
use Prim.Native.Nat.{ℕ, ◌*◌, ◌<◌}
use native.Mathlib.Omega.{arith}
use lib.Dec.{eqb, ltb}
use borrow.Author.Tests.{eq-eqb, ne_eqb, le-ltb, eqb-true, eqb-false, ltb-true, ltb-false}
use Rattle.serialize.specs.Choice.{pick}
use Rattle.serialize.proofs.Choice.{by_test}
use Rattle.places.specs.Layout.{place_words}
use Rattle.server.specs.declared.SetUp.{SetUp}
use Rattle.server.specs.declared.Answer.TheVariants as answer
use Rattle.places.proofs.Searches.{true_false}
use Rattle.server.specs.declared.Stage.TheVariants.{Idle}
use Rattle.server.specs.Ready.{length_refusal, slots_refusal, pending_refusal, entries_refusal, list_refusal, before, both_refusal, all_refusal, kind_of, unfit, answer_refusal}
use Rattle.server.proofs.Inversions.{idle_only, idle_is_0, answer_fits}
use Rattle.turns.specs.Outcomes.{State, open_refusal}
use Rattle.refusals.specs.Answering.{Open, Fit, OpenFit}

-- a refusal's number is its own, and no other answer is one
pub same_refusal : {m n : ℕ} → answer.Refused m ≡ answer.Refused n → m ≡ n
same_refusal e = cc

pub not_asked : {n : ℕ} → answer.Ask ≡ answer.Refused n → ⊥
not_asked e = let z : ◌≡◌ {A = ℕ} 0 1 = cc in omega arith

pub not_nothing : {n : ℕ} → answer.Nothing ≡ answer.Refused n → ⊥
not_nothing e = let z : ◌≡◌ {A = ℕ} 0 1 = cc in omega arith

-- ---- the tables' number is 23

three : (a b c : Bool) → (pick {A = ℕ} a 23 (pick b 23 (pick c 0 23)) ≡ 0 → ⊥) → pick {A = ℕ} a 23 (pick b 23 (pick c 0 23)) ≡ 23
unfolding pick
three true b c n = refl
three false true c n = refl
three false false true n = absurd (n refl)
three false false false n = refl

last : (c : Bool) → (pick {A = ℕ} c 0 23 ≡ 0 → ⊥) → pick {A = ℕ} c 0 23 ≡ 23
unfolding pick
last true n = absurd (n refl)
last false n = refl

either : (a b : ℕ) → ((a ≡ 0 → ⊥) → a ≡ 23) → ((b ≡ 0 → ⊥) → b ≡ 23) → (before a b ≡ 0 → ⊥) → before a b ≡ 23
unfolding before pick
either a b f g n = by (eqb a 0) refl n
  where
    by : (c : Bool) → eqb a 0 ≡ c → (pick c b a ≡ 0 → ⊥) → pick c b a ≡ 23
    by true e k = g k
    by false e k = f k

pub length_23 : (len n most : ℕ) → (length_refusal len n most ≡ 0 → ⊥) → length_refusal len n most ≡ 23
unfolding length_refusal
length_23 len n most = three (eqb n 0) (ltb most n) (eqb len (n * place_words))

module _ (set : SetUp) (slots pending : ℕ) where
  pub both_23 : (both_refusal set slots pending ≡ 0 → ⊥) → both_refusal set slots pending ≡ 23
  both_23 = either (slots_refusal set slots) (pending_refusal set pending) (length_23 slots set.slots 1024) (length_23 pending set.pending 4096)

  entries_23 : (entries : ℕ) → (entries_refusal set entries ≡ 0 → ⊥) → entries_refusal set entries ≡ 23
  unfolding entries_refusal
  entries_23 entries = three (eqb set.entries 0) (ltb 2048 set.entries) (eqb entries (set.entries * 48))

  list_23 : (public : ℕ) → (list_refusal set public ≡ 0 → ⊥) → list_refusal set public ≡ 23
  unfolding list_refusal
  list_23 public = last (eqb public (set.addresses * 3))

  pub all_23 : (entries public : ℕ) → (all_refusal set slots pending entries public ≡ 0 → ⊥) → all_refusal set slots pending entries public ≡ 23
  all_23 entries public =
      either (both_refusal set slots pending) (before (entries_refusal set entries) (list_refusal set public)) both_23
      (either (entries_refusal set entries) (list_refusal set public) (entries_23 entries) (list_23 public))

-- ---- 17, 23, 18

module _ (t : State) (tables kind datagram out : ℕ) where
  abbrev r : ℕ
  r = answer_refusal t.server.ask tables kind t.server.set datagram out

  pub idle_17 : t.server.ask.stage ≡ Idle → r ≡ 17
  unfolding answer_refusal pick
  idle_17 e = simp (eq-eqb (kind_of t.server.ask.stage) 0 (idle_is_0 t.server.ask.stage e))

  opened : Open t → eqb (kind_of t.server.ask.stage) 0 ≡ false
  opened o = ne_eqb (kind_of t.server.ask.stage) 0 (λ z. o.open_ask (idle_only t.server.ask.stage z))

  pub tables_said : Open t → (tables ≡ 0 → ⊥) → r ≡ tables
  unfolding answer_refusal pick
  tables_said o n = simp (opened o, ne_eqb tables 0 n)

  unfit_18 : Open t → tables ≡ 0 → unfit t.server.ask kind t.server.set datagram out ≡ true → r ≡ 18
  unfolding answer_refusal pick
  unfit_18 o e u = simp (opened o, eq-eqb tables 0 e, u)

  unfit_0 : Open t → tables ≡ 0 → unfit t.server.ask kind t.server.set datagram out ≡ false → r ≡ 0
  unfolding answer_refusal pick
  unfit_0 o e u = simp (opened o, eq-eqb tables 0 e, u)

  -- the test for 18 is passed exactly by an answer that fits
  fits_pass : Fit t kind datagram out → unfit t.server.ask kind t.server.set datagram out ≡ false
  unfolding unfit
  fits_pass f =
      simp (
        eq-eqb (kind_of t.server.ask.stage) kind f.wanted,
        eq-eqb datagram t.server.ask.datagram f.datagram_same,
        eq-eqb out t.server.ask.out f.out_same,
        f.fits,
      )

  pass_fits : r ≡ 0 → Fit t kind datagram out
  pass_fits h =
      let a = answer_fits t.server.ask tables kind t.server.set datagram out h in
      record { wanted = a.wanted; datagram_same = a.same_datagram; out_same = a.same_out; fits = a.fitting }

  pub fit_0 : Open t → tables ≡ 0 → Fit t kind datagram out → r ≡ 0
  fit_0 o e f = unfit_0 o e (fits_pass f)

  pub no_fit_18 : Open t → tables ≡ 0 → (Fit t kind datagram out → ⊥) → r ≡ 18
  no_fit_18 o e n = by_test (unfit t.server.ask kind t.server.set datagram out) (λ u. unfit_18 o e u) (λ u. absurd (n (pass_fits (unfit_0 o e u))))

  -- the first test that fails, or none
  pub by_answer : {A : Type 0} → (t.server.ask.stage ≡ Idle → A) → (Open t → (tables ≡ 0 → ⊥) → A)
      → (Open t → tables ≡ 0 → (Fit t kind datagram out → ⊥) → A) → (Open t → tables ≡ 0 → Fit t kind datagram out → A) → A
  by_answer f g h k =
      let stage = t.server.ask.stage in
      by_test (eqb (kind_of stage) 0)
      (λ b. f (idle_only stage (eqb-true (kind_of stage) 0 b)))
      (λ b.
      let o : Open t = record { open_ask = λ e. eqb-false (kind_of stage) 0 b (idle_is_0 stage e) } in
      by_test (eqb tables 0)
      (λ c.
      let e : tables ≡ 0 = eqb-true tables 0 c in
      by_test (unfit t.server.ask kind t.server.set datagram out)
      (λ u. h o e (λ x. true_false u (fits_pass x)))
      (λ u. k o e (pass_fits (unfit_0 o e u))))
      (λ c. g o (eqb-false tables 0 c)))

  -- ---- and the output of 1,400 bytes

  abbrev q : ℕ
  q = open_refusal t.server tables kind datagram out

  stopped : (n : ℕ) → r ≡ n → (n ≡ 0 → ⊥) → q ≡ n
  unfolding open_refusal before pick
  stopped n e z = simp (e, ne_eqb n 0 z)

  passed : r ≡ 0 → q ≡ pick (ltb out 1400) 18 0
  unfolding open_refusal before pick
  passed e = simp e

  pub open_17 : t.server.ask.stage ≡ Idle → q ≡ 17
  open_17 e = stopped 17 (idle_17 e) (λ z. omega arith)

  pub open_tables : Open t → (tables ≡ 0 → ⊥) → q ≡ tables
  open_tables o n = stopped tables (tables_said o n) n

  pub open_0 : OpenFit t kind tables datagram out → q ≡ 0
  unfolding pick
  open_0 f = passed (fit_0 f.open_ask f.tables_same f.fit) ∙ simp (le-ltb out 1400 f.room)

  pub open_18 : Open t → tables ≡ 0 → (OpenFit t kind tables datagram out → ⊥) → q ≡ 18
  unfolding pick
  open_18 o e n =
      by_test (unfit t.server.ask kind t.server.set datagram out)
      (λ u. stopped 18 (unfit_18 o e u) (λ z. omega arith))
      (λ u.
      let p = unfit_0 o e u in
      by_test (ltb out 1400)
      (λ b. passed p ∙ simp b)
      (λ b. absurd (n (record { open_ask = o; tables_same = e; fit = pass_fits p; room = ltb-false out 1400 b }))))

  pub by_open : {A : Type 0} → (t.server.ask.stage ≡ Idle → A) → (Open t → (tables ≡ 0 → ⊥) → A)
      → (Open t → tables ≡ 0 → (OpenFit t kind tables datagram out → ⊥) → A) → (OpenFit t kind tables datagram out → A) → A
  by_open f g h k =
      by_answer f g
      (λ o e n. h o e (λ x. n x.fit))
      (λ o e x.
      by_test (ltb out 1400)
      (λ b. h o e (λ y. let l : out < 1400 = ltb-true out 1400 b in omega (arith, y.room)))
      (λ b. k (record { open_ask = o; tables_same = e; fit = x; room = ltb-false out 1400 b })))
