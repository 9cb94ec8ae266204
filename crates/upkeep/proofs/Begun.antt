-- Set-up comes to one of three ends, by its tests and its start time: so what is promised of each follows from its definition, and what it
-- leaves of the tables from what clearing leaves.
use Rattle.std.specs.Prelude.{Result, Ok, Err}
use mathlib.Core.Path.{◌≡◌, refl, sym, ap, subst, ◌∙◌}
use mathlib.Core.Logic.{◌↔◌}
use mathlib.Core.Bool.{Bool, true, false, not}
use Prim.Native.Nat.{ℕ, ◌*◌, ◌%◌, ◌^◌, ◌≤◌, ◌<◌}
use native.Mathlib.Omega.{arith}
use mathlib.Core.List.{List}
use lib.ListN.{length, length-replicate}
use lib.Dec.{eqb, ltb}
use borrow.Author.Tests.{eqb-true, eqb-false}
use Rattle.serialize.specs.Choice.{pick}
use Rattle.serialize.specs.Runs.{zeros}
use Rattle.serialize.proofs.Choice.{by_test}
use Rattle.serialize.proofs.Lists.{length_splice}
use Rattle.times.specs.declared.Time.{Time}
use Rattle.times.specs.Times.{second, zero, whole, added}
use Rattle.times.proofs.Meaning.{added_clock, added_out}
use Rattle.addresses.specs.Addresses as listed
use Rattle.places.specs.Layout.{count, place_words, places_refusal}
use Rattle.records.proofs.Invariants.{set_up_count, set_up_distinct}
use Rattle.entries.specs.Layout as entry
use Rattle.entries.proofs.Meaning.{emptied_marks, emptied_shaped}
use Rattle.entries.proofs.Marks.{empty_never_matches}
use Rattle.server.specs.State.{refused}
use Rattle.server.specs.Ready.{length_refusal, slots_refusal, pending_refusal, before}
use Rattle.server.proofs.Inversions.{Taken, length_exactly, entries_exactly, list_exactly, neither, idle_passes}
use Rattle.upkeep.specs.declared.ServerConfig.{ServerConfig}
use Rattle.upkeep.specs.SetUps.{connect_key, begun, found, blank, lengths_refusal, set_up_refusal, refusal_of, record_of, Outcome, done, cleared, set_up}
use Rattle.upkeep.specs.Fresh.{Fresh, Why, Lengths, Malformed, Range, Unstarted}
use Rattle.upkeep.specs.Clocks as clocks
use Rattle.upkeep.proofs.Tested.{Tested, tested, tests_exactly, slots_shaped, pending_shaped}
use Rattle.upkeep.proofs.Ways.{added_late, set_up_stops, set_up_late, set_up_done, update_stops}

pub by_sum : {A : Type 0} (a : Result Time ℕ) → ((t : Time) → a ≡ Ok t → A) → ((n : ℕ) → a ≡ Err n → A) → A
by_sum (Ok t) f g = f t refl
by_sum (Err n) f g = g n refl

-- clearing a table keeps its length
cleared_length : (t : List ℕ) (n : ℕ) → n ≤ length t → length (cleared t n) ≡ length t
cleared_length t n h = length_splice t 0 (zeros n) (omega (arith, length-replicate {A = ℕ} n 0))

cleared_taken : (t : List ℕ) (most : ℕ) → Taken (length t) (count t) most place_words → length_refusal (length (cleared t (count t))) (count t) most ≡ 0
cleared_taken t most k =
    let e : length (cleared t (count t)) ≡ length t = cleared_length t (count t) (omega (arith, k.long)) in
    (length_exactly (length (cleared t (count t))) (count t) most).1 (record { some = k.some; few = k.few; long = e ∙ k.long })

-- a test that refuses gives its own number
lengths_number : (a b c d e : Bool) → (pick {A = ℕ} a 23 (pick b 23 (pick c 23 (pick d 23 (pick e 23 0)))) ≡ 0 → ⊥)
    → pick {A = ℕ} a 23 (pick b 23 (pick c 23 (pick d 23 (pick e 23 0)))) ≡ 23
unfolding pick
lengths_number true b c d e n = refl
lengths_number false true c d e n = refl
lengths_number false false true d e n = refl
lengths_number false false false true e n = refl
lengths_number false false false false true n = refl
lengths_number false false false false false n = absurd (n refl)

list_number : (b : Bool) → (pick {A = ℕ} b 19 0 ≡ 0 → ⊥) → pick {A = ℕ} b 19 0 ≡ 19
unfolding pick
list_number true n = refl
list_number false n = absurd (n refl)

module _ (c : ServerConfig) (slots pending entries public : List ℕ) where
  abbrev tests : ℕ
  tests = set_up_refusal c.max_clients slots pending entries public

  abbrev start : Result Time ℕ
  start = added zero c.current_time

  -- the three ends
  by_end : {A : Type 0} → ((tests ≡ 0 → ⊥) → done (Err tests) slots pending entries ≡ set_up c slots pending entries public → A)
      → (tests ≡ 0 → start ≡ Err 20 → done (Err 20) slots pending entries ≡ set_up c slots pending entries public → A)
      → (tests ≡ 0 → (t : Time) → start ≡ Ok t
      → done (Ok (begun (found c slots pending entries public) c.max_clients t)) (cleared slots (count slots))
      (cleared pending (count pending)) (cleared entries (entry.count entries)) ≡ set_up c slots pending entries public → A)
      → A
  by_end f g h =
      by_test (eqb tests 0)
      (λ b.
      let free : tests ≡ 0 = eqb-true tests 0 b in
      by_sum start
      (λ t e. h free t e (set_up_done c slots pending entries public tests refl free zero refl start refl t e
      (count slots) (count pending) (entry.count entries) refl refl refl
      (cleared slots (count slots)) (cleared pending (count pending)) (cleared entries (entry.count entries)) refl refl refl
      (found c slots pending entries public) refl (begun (found c slots pending entries public) c.max_clients t) refl))
      (λ n e.
      let late : n ≡ 20 = added_late zero c.current_time n e in
      let is : start ≡ Err 20 = e ∙ ap (λ (x : ℕ). Err x) late in
      g free is (set_up_late c slots pending entries public tests refl free zero refl start refl 20 is)))
      (λ b. let n = eqb-false tests 0 b in f n (set_up_stops c slots pending entries public tests refl n))

  -- ---- set up

  fresh : tests ≡ 0 → (t : Time) → start ≡ Ok t → Fresh c (begun (found c slots pending entries public) c.max_clients t)
      (cleared slots (count slots)) (cleared pending (count pending)) (cleared entries (entry.count entries)) public
  fresh free t e =
      let k = tested c.max_clients slots pending entries public tests refl free in
      let s = slots_shaped c.max_clients slots pending entries public tests refl free (count slots) refl in
      let p = pending_shaped c.max_clients slots pending entries public tests refl free (count pending) refl in
      let w = emptied_shaped entries (entry.count entries) k.entered in
      let sum = added_clock zero c.current_time t e in
      record {
        connected = set_up_count slots (count slots) s;
        waiting = set_up_count pending (count pending) p;
        remembered = emptied_marks entries (entry.count entries) k.entered;
        unmatched = λ mac i h.
            empty_never_matches (cleared entries (entry.count entries)) (entry.count entries) mac i
            (emptied_marks entries (entry.count entries) k.entered i h);
        apart_slots = set_up_distinct slots (count slots) s;
        apart_pending = set_up_distinct pending (count pending) p;
        slots_taken = cleared_taken slots 1024 k.slotted;
        pending_taken = cleared_taken pending 4096 k.waiting;
        entries_taken = (entries_exactly (found c slots pending entries public) (length (cleared entries (entry.count entries)))).1
            (record { some = w.some; few = w.few; long = w.long });
        list_taken = (list_exactly (found c slots pending entries public) (length public)).1 k.even;
        idle = refl;
        unsent = refl;
        exact = omega (arith, sum.exact);
        small = sum.small;
        limit = refl;
        within = k.within;
        protocol = refl;
        connect_keyed = refl;
        challenge_keyed = refl;
      }

  -- what a set-up that does not refuse leaves
  pub set_up_fresh : refusal_of (set_up c slots pending entries public).result ≡ 0
      → Fresh c (record_of (set_up c slots pending entries public).result) (set_up c slots pending entries public).slots
      (set_up c slots pending entries public).pending (set_up c slots pending entries public).entries public
  set_up_fresh z =
      by_end
      (λ n e. absurd (n (ap (λ (o : Outcome). refusal_of o.result) e ∙ z)))
      (λ free q e. let x : 20 ≡ 0 = ap (λ (o : Outcome). refusal_of o.result) e ∙ z in absurd (omega arith))
      (λ free t q e. subst (λ (o : Outcome). Fresh c (record_of o.result) o.slots o.pending o.entries public) e (fresh free t q))

  -- and set-up refuses nothing exactly where all tests are passed and the start time's seconds fit a word, its nanoseconds carried
  pub set_up_exactly : (refusal_of (set_up c slots pending entries public).result ≡ 0)
      ↔ (Tested c.max_clients slots pending entries public × (whole c.current_time < 2 ^ 64 * second))
  set_up_exactly = (
    λ z.
        by_end
        (λ n e. absurd (n (ap (λ (o : Outcome). refusal_of o.result) e ∙ z)))
        (λ free q e. let x : 20 ≡ 0 = ap (λ (o : Outcome). refusal_of o.result) e ∙ z in absurd (omega arith))
        (λ free t q e.
        let sum = added_clock zero c.current_time t q in
        (tested c.max_clients slots pending entries public tests refl free, omega (arith, sum.exact, sum.small, sum.word))),
    λ k.
        by_end
        (λ n e. absurd (n ((tests_exactly c.max_clients slots pending entries public).1 k.0)))
        (λ free q e. absurd (omega (arith, (added_out zero c.current_time).0 q, k.1)))
        (λ free t q e. ap (λ (o : Outcome). refusal_of o.result) (sym e)),
  )

  -- ---- refused

  lengths_why : (lengths_refusal c.max_clients slots pending entries public ≡ 0 → ⊥)
      → lengths_refusal c.max_clients slots pending entries public ≡ 23
  unfolding lengths_refusal
  lengths_why =
      lengths_number (not (eqb (places_refusal slots 1024) 0)) (not (eqb (places_refusal pending 4096) 0))
      (not (eqb (entry.entries_refusal entries) 0)) (not (eqb (length public % 3) 0)) (ltb (count slots) c.max_clients)

  list_why : (listed.list_refusal public ≡ 0 → ⊥) → listed.list_refusal public ≡ 19
  unfolding listed.list_refusal
  list_why = list_number (listed.is_found (listed.find_malformed public))

  tests_why : (tests ≡ 0 → ⊥) → Why c slots pending entries public tests
  unfolding before pick
  tests_why n =
      let l : ℕ = lengths_refusal c.max_clients slots pending entries public in
      let f : ℕ = listed.list_refusal public in
      by_test (eqb l 0)
      (λ b.
      let same : tests ≡ f = ap (λ (x : Bool). pick x f l) b in
      let x : f ≡ 19 = list_why (λ z. n (same ∙ z)) in
      subst (Why c slots pending entries public) (sym (same ∙ x)) (Malformed (eqb-true l 0 b) x))
      (λ b.
      let same : tests ≡ l = ap (λ (x : Bool). pick x f l) b in
      let x : l ≡ 23 = lengths_why (λ z. n (same ∙ z)) in
      subst (Why c slots pending entries public) (sym (same ∙ x)) (Lengths x))

  -- a set-up that refuses leaves the tables, and says by its number which test was the first to fail
  pub set_up_refused : (refusal_of (set_up c slots pending entries public).result ≡ 0 → ⊥)
      → Unstarted c slots pending entries public (set_up c slots pending entries public)
  set_up_refused n =
      by_end
      (λ m e. subst (Unstarted c slots pending entries public) e (unstarted tests (tests_why m)))
      (λ free q e.
      let (l, f) = neither (lengths_refusal c.max_clients slots pending entries public) (listed.list_refusal public) free in
      subst (Unstarted c slots pending entries public) e (unstarted 20 (Range l f q)))
      (λ free t q e. absurd (n (ap (λ (o : Outcome). refusal_of o.result) (sym e))))
    where
      unstarted : (r : ℕ) → Why c slots pending entries public r → Unstarted c slots pending entries public (done (Err r) slots pending entries)
      unstarted r y = record { same_slots = refl; same_pending = refl; same_entries = refl; placeless = refl; why = y }

-- ---- the record beside a refusal: every call that is lent a table of connections refuses it

pub blank_refused_slots : (t : List ℕ) → slots_refusal blank.set (length t) ≡ 23
unfolding length_refusal pick
blank_refused_slots t = refl

pub blank_refused : (t : List ℕ) → pending_refusal blank.set (length t) ≡ 23
unfolding length_refusal pick
blank_refused t = refl

pub blank_update : (t : List ℕ) (duration : Time) → clocks.updated blank t duration ≡ clocks.done (refused blank 23) t
blank_update t duration =
    let e : clocks.update_refusal blank t ≡ 23 = idle_passes blank.ask (pending_refusal blank.set (length t)) refl ∙ blank_refused t in
    sym (update_stops blank t duration (pending_refusal blank.set (length t)) refl (clocks.update_refusal blank t) refl (λ z. omega arith))
    ∙ ap (λ (x : ℕ). clocks.done (refused blank x) t) e

-- ---- the connect key is the caller's where the server is secure, and zeros where it is not

pub secure_key : (c : ServerConfig) → c.secure ≡ true → connect_key c ≡ c.connect_key
unfolding connect_key pick
secure_key c e = simp e

pub insecure_key : (c : ServerConfig) → c.secure ≡ false → connect_key c ≡ zeros 32
unfolding connect_key pick
insecure_key c e = simp e
