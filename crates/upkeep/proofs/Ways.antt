-- Each way out of a call is a case of its definition, by the tests and the callees' answers that led there.
use Rattle.std.specs.Prelude.{Result, Ok, Err, IsErrAnd}
use mathlib.Core.Path.{◌≡◌, refl, sym, ap, ◌∙◌}
use mathlib.Core.Bool.{Bool, true, false}
use Prim.Native.Nat.{ℕ, ◌+◌, ◌*◌, ◌/◌, ◌%◌, ◌^◌, ◌≤◌, ◌<◌, min}
use native.Mathlib.Omega.{arith}
use mathlib.Core.List.{List}
use lib.ListN.{length}
use lib.Dec.{eqb, leb}
use borrow.Author.Tests.{eq-eqb, ne_eqb, lt-ltb, le-ltb}
use Rattle.refusal.specs.Verdicts.{verdict}
use Rattle.refusal.proofs.Laws.{refused_as, refused_some, refuses_as}
use Rattle.serialize.specs.Choice.{pick}
use Rattle.times.specs.declared.Time.{Time}
use Rattle.times.specs.Times.{second, zero, whole, clock, added}
use Rattle.places.specs.Layout.{count, places_refusal}
use Rattle.entries.specs.Layout as entry
use Rattle.server.specs.declared.NetcodeServer.{NetcodeServer}
use Rattle.server.specs.declared.SetUp.{SetUp}
use Rattle.server.specs.declared.Step.{Step}
use Rattle.server.specs.declared.Answer.TheVariants.{Nothing}
use Rattle.server.specs.State.{with_clock, with_limit, step, refused}
use Rattle.server.specs.Ready.{call_refusal, pending_refusal}
use Rattle.upkeep.specs.declared.ServerConfig.{ServerConfig}
use Rattle.upkeep.specs.SetUps.{fixed_as, begun, lengths_refusal, set_up_refusal, Outcome, done, cleared, by_clock, set_up}
use Rattle.upkeep.specs.Clocks as clocks
use Rattle.upkeep.specs.Limits.{limited}

-- ---- the one number of a test

-- a clock that can't be moved on is 20
late_number : (b : Bool) (t : Time) (n : ℕ) → pick {A = Result Time ℕ} b (Err 20) (Ok t) ≡ Err n → n ≡ 20
unfolding pick
late_number true t n e = let k : 20 ≡ n = cc in sym k
late_number false t n e = let z : ◌≡◌ {A = ℕ} 0 1 = cc in absurd (omega arith)

pub added_late : (t step : Time) (n : ℕ) → added t step ≡ Err n → n ≡ 20
unfolding added
added_late t step n e = late_number (leb (2 ^ 64 * second) (whole t + whole step)) (clock (whole t + whole step)) n e

-- a table's length that is no good is 23
three_numbers : (a b c : Bool) → (pick {A = ℕ} a 23 (pick b 23 (pick c 23 0)) ≡ 0 → ⊥) → pick {A = ℕ} a 23 (pick b 23 (pick c 23 0)) ≡ 23
unfolding pick
three_numbers true b c n = refl
three_numbers false true c n = refl
three_numbers false false true n = refl
three_numbers false false false n = absurd (n refl)

pub places_number : (t : List ℕ) (most : ℕ) → (places_refusal t most ≡ 0 → ⊥) → places_refusal t most ≡ 23
unfolding places_refusal
places_number t most n = three_numbers _ _ _ n

pub entries_number : (t : List ℕ) → (entry.entries_refusal t ≡ 0 → ⊥) → entry.entries_refusal t ≡ 23
unfolding entry.entries_refusal
entries_number t n = three_numbers _ _ _ n

-- ---- a refusal that is passed on

-- what a `?` returns
pub passed_up : {A : Type 0} (r : Result A ℕ) (n : ℕ) → IsErrAnd r (λ x. x ≡ n) → r ≡ Err n
passed_up (Ok x) n h = absurd h
passed_up (Err x) n h = ap (λ (k : ℕ). Err k) h

-- x is what a test of the number d came to, and k the number of the whole
module _ (d : ℕ) (x : Result (Unit {0}) ℕ) (tested : x ≡ verdict d) (r : ℕ) (is : x ≡ Err r) (k : ℕ) where
  some : d ≡ 0 → ⊥
  some z = refused_some d x tested r is (refused_as d x tested r is ∙ z)

  pub passed_on : ((d ≡ 0 → ⊥) → d ≡ k) → Err r ≡ verdict k
  passed_on f = refuses_as k r (refused_some d x tested r is) (refused_as d x tested r is ∙ f some)

  pub passed_on_23 : ((d ≡ 0 → ⊥) → d ≡ 23) → ((d ≡ 0 → ⊥) → 23 ≡ k) → Err r ≡ verdict k
  passed_on_23 f g = passed_on (λ n. f n ∙ g n)

-- ---- the lengths: what each test gave, in their order

module _ (limit : ℕ) (slots pending entries public : List ℕ) (s : ℕ) (ts : s ≡ places_refusal slots 1024) where
  pub slots_refused : (s ≡ 0 → ⊥) → 23 ≡ lengths_refusal limit slots pending entries public
  unfolding lengths_refusal pick
  slots_refused n = simp (ne_eqb (places_refusal slots 1024) 0 (λ z. n (ts ∙ z)))

  module _ (zs : s ≡ 0) (p : ℕ) (tp : p ≡ places_refusal pending 4096) where
    slots_pass : eqb (places_refusal slots 1024) 0 ≡ true
    slots_pass = eq-eqb (places_refusal slots 1024) 0 (sym ts ∙ zs)

    pub pending_refused : (p ≡ 0 → ⊥) → 23 ≡ lengths_refusal limit slots pending entries public
    unfolding lengths_refusal pick
    pending_refused n = simp (slots_pass, ne_eqb (places_refusal pending 4096) 0 (λ z. n (tp ∙ z)))

    module _ (zp : p ≡ 0) (e : ℕ) (te : e ≡ entry.entries_refusal entries) where
      pending_pass : eqb (places_refusal pending 4096) 0 ≡ true
      pending_pass = eq-eqb (places_refusal pending 4096) 0 (sym tp ∙ zp)

      pub entries_refused : (e ≡ 0 → ⊥) → 23 ≡ lengths_refusal limit slots pending entries public
      unfolding lengths_refusal pick
      entries_refused n = simp (slots_pass, pending_pass, ne_eqb (entry.entries_refusal entries) 0 (λ z. n (te ∙ z)))

      module _ (ze : e ≡ 0) where
        entries_pass : eqb (entry.entries_refusal entries) 0 ≡ true
        entries_pass = eq-eqb (entry.entries_refusal entries) 0 (sym te ∙ ze)

        pub list_uneven : (length public % 3 ≡ 0 → ⊥) → 23 ≡ lengths_refusal limit slots pending entries public
        unfolding lengths_refusal pick
        list_uneven n = simp (slots_pass, pending_pass, entries_pass, ne_eqb (length public % 3) 0 n)

        module _ (zl : length public % 3 ≡ 0) (n : ℕ) (tn : n ≡ count slots) where
          pub limit_over : n < limit → 23 ≡ lengths_refusal limit slots pending entries public
          unfolding lengths_refusal pick
          limit_over h =
              simp (slots_pass, pending_pass, entries_pass, eq-eqb (length public % 3) 0 zl, lt-ltb (count slots) limit (omega arith))

          pub lengths_pass : limit ≤ n → 0 ≡ lengths_refusal limit slots pending entries public
          unfolding lengths_refusal pick
          lengths_pass h =
              simp (slots_pass, pending_pass, entries_pass, eq-eqb (length public % 3) 0 zl, le-ltb (count slots) limit (omega arith))

-- ---- set-up: r is what its tests gave, a the start time as the clock keeps it

module _ (c : ServerConfig) (slots pending entries public : List ℕ) (r : ℕ)
    (tested : r ≡ set_up_refusal c.max_clients slots pending entries public) where
  abbrev tests : ℕ
  tests = set_up_refusal c.max_clients slots pending entries public

  abbrev way : Bool → Outcome
  way b = pick b (by_clock c slots pending entries public (added zero c.current_time)) (done (Err tests) slots pending entries)

  pub set_up_stops : (r ≡ 0 → ⊥) → done (Err r) slots pending entries ≡ set_up c slots pending entries public
  unfolding set_up pick
  set_up_stops n = ap (λ (x : ℕ). done (Err x) slots pending entries) tested ∙ sym (ap way (ne_eqb tests 0 (λ z. n (tested ∙ z))))

  module _ (free : r ≡ 0) (z : Time) (e : z ≡ zero) (a : Result Time ℕ) (f : a ≡ added z c.current_time) where
    goes_on : by_clock c slots pending entries public a ≡ set_up c slots pending entries public
    unfolding set_up pick
    goes_on =
        ap (by_clock c slots pending entries public) (f ∙ ap (λ (x : Time). added x c.current_time) e)
        ∙ sym (ap way (eq-eqb tests 0 (sym tested ∙ free)))

    pub set_up_late : (n : ℕ) → a ≡ Err n → done (Err n) slots pending entries ≡ set_up c slots pending entries public
    unfolding by_clock
    set_up_late n g = ap (by_clock c slots pending entries public) (sym g) ∙ goes_on

    pub set_up_done : (clock : Time) → a ≡ Ok clock → (n m k : ℕ) → n ≡ count slots → m ≡ count pending → k ≡ entry.count entries
        → (u v w : List ℕ) → u ≡ cleared slots n → v ≡ cleared pending m → w ≡ cleared entries k
        → (set : SetUp) → set ≡ fixed_as c n m k (length public / 3) → (s : NetcodeServer) → s ≡ begun set c.max_clients clock
        → done (Ok s) u v w ≡ set_up c slots pending entries public
    unfolding by_clock
    set_up_done clock g n m k en em ek u v w eu ev ew set es s eb =
        laid ∙ ap (by_clock c slots pending entries public) (sym g) ∙ goes_on
      where
        laid : done (Ok s) u v w ≡ by_clock c slots pending entries public (Ok clock)
        laid = simp (eb, es, eu, ev, ew, en, em, ek)

-- ---- the clock: t is what the table's test gave, r what the call's gave, a the clock as it was moved on

module _ (s : NetcodeServer) (pending : List ℕ) (duration : Time) (t : ℕ) (tabled : t ≡ pending_refusal s.set (length pending))
    (r : ℕ) (tested : r ≡ call_refusal s.ask t) where
  abbrev refusal : ℕ
  refusal = clocks.update_refusal s pending

  abbrev move : Bool → clocks.Outcome
  move b = pick b (clocks.by_clock s pending (added s.current_time duration)) (clocks.done (refused s refusal) pending)

  same_refusal : r ≡ refusal
  same_refusal = tested ∙ ap (call_refusal s.ask) tabled

  pub update_stops : (r ≡ 0 → ⊥) → clocks.done (refused s r) pending ≡ clocks.updated s pending duration
  unfolding clocks.updated pick
  update_stops n =
      ap (λ (x : ℕ). clocks.done (refused s x) pending) same_refusal ∙ sym (ap move (ne_eqb refusal 0 (λ z. n (same_refusal ∙ z))))

  module _ (free : r ≡ 0) (a : Result Time ℕ) (f : a ≡ added s.current_time duration) where
    moves_on : clocks.by_clock s pending a ≡ clocks.updated s pending duration
    unfolding clocks.updated pick
    moves_on = ap (clocks.by_clock s pending) f ∙ sym (ap move (eq-eqb refusal 0 (sym same_refusal ∙ free)))

    pub update_late : (n : ℕ) → a ≡ Err n → clocks.done (refused s n) pending ≡ clocks.updated s pending duration
    unfolding clocks.by_clock
    update_late n g = ap (clocks.by_clock s pending) (sym g) ∙ moves_on

    pub update_done : (clock : Time) → a ≡ Ok clock → (u : List ℕ) → u ≡ clocks.dropped pending s.set.pending clock.secs
        → (n : NetcodeServer) → n ≡ with_clock s clock → clocks.done (step n Nothing) u ≡ clocks.updated s pending duration
    unfolding clocks.by_clock
    update_done clock g u e n h = laid ∙ ap (clocks.by_clock s pending) (sym g) ∙ moves_on
      where
        laid : clocks.done (step n Nothing) u ≡ clocks.by_clock s pending (Ok clock)
        laid = simp (e, h)

-- ---- the limit: r is what the call's test gave

module _ (s : NetcodeServer) (wish r : ℕ) (tested : r ≡ call_refusal s.ask 0) where
  abbrev limit_way : Bool → Step
  limit_way b = pick b (step (with_limit s (min wish 1024)) Nothing) (refused s (call_refusal s.ask 0))

  pub limit_stops : (r ≡ 0 → ⊥) → refused s r ≡ limited s wish
  unfolding limited pick
  limit_stops n = ap (refused s) tested ∙ sym (ap limit_way (ne_eqb (call_refusal s.ask 0) 0 (λ z. n (tested ∙ z))))

  pub limit_done : r ≡ 0 → (k : ℕ) → k ≡ min wish 1024 → (n : NetcodeServer) → n ≡ with_limit s k → step n Nothing ≡ limited s wish
  unfolding limited pick
  limit_done free k e n h =
      ap (λ (x : NetcodeServer). step x Nothing) (h ∙ ap (with_limit s) e)
      ∙ sym (ap limit_way (eq-eqb (call_refusal s.ask 0) 0 (sym tested ∙ free)))
