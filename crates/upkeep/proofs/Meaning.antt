-- What the clock's call and the limit's come to, from the definitions alone: marks are new and nothing else, so every field but the mark is
-- kept, and a place stays used exactly where its mark does.
use Rattle.std.specs.Prelude.{Ok, Err}
use mathlib.Core.Path.{◌≡◌, refl, sym, ap, subst, ◌∙◌}
use mathlib.Core.Logic.{◌↔◌}
use mathlib.Core.Bool.{Bool, true, false, not, ◌&&◌, and-eq-true_iff}
use Prim.Native.Nat.{ℕ, ◌+◌, ◌*◌, ◌^◌, ◌≤◌, ◌<◌, min}
use native.Mathlib.Nat.{zero-add}
use native.Mathlib.Omega.{arith}
use mathlib.Core.List.{List}
use lib.ListN.{length, get_or}
use lib.Dec.{eqb, ltb}
use borrow.Author.Tests.{eqb-true, eqb-false, ltb-false, le-ltb, not-true}
use Rattle.serialize.specs.Choice.{pick}
use Rattle.serialize.proofs.Choice.{by_test}
use Rattle.serialize.proofs.Lists.{get_or_splice_in, part_splice_after}
use Rattle.times.specs.declared.Time.{Time}
use Rattle.times.specs.Times.{second, whole, added}
use Rattle.times.proofs.Meaning.{added_clock, added_out}
use Rattle.places.specs.Layout.{Shaped, place_words, used_mark, used_at, word_of, expiry_at}
use Rattle.places.specs.Columns.{Column, Marks, Ids, Addresses, Bodies, column_at, Field, Within, field_at, field_of, id, addr}
use Rattle.places.specs.Keys.{Distinct}
use Rattle.places.proofs.Frame.{field_inside}
use Rattle.server.specs.declared.NetcodeServer.{NetcodeServer}
use Rattle.server.specs.declared.Stage.TheVariants.{Idle}
use Rattle.server.specs.declared.Answer.TheVariants.{Refused, Nothing}
use Rattle.server.specs.declared.Step.{Step}
use Rattle.server.specs.State.{with_clock, with_limit, step, refused}
use Rattle.server.specs.Ready.{length_refusal, call_refusal, pending_refusal, kind_of}
use Rattle.server.proofs.Inversions.{call_free, pending_shaped, open_refused, idle_passes, idle_only, idle_is_0}
use Rattle.upkeep.specs.Clocks.{mark_left, marks_left, dropped, Outcome, done, update_refusal, updated}
use Rattle.upkeep.specs.Limits.{limited}
use Rattle.upkeep.proofs.Marks.{expired_left, lasting_left, length_marks, mark_at, half_shaped}
use Rattle.upkeep.proofs.Ways.{added_late, update_stops, update_late, update_done, limit_stops, limit_done}
use Rattle.upkeep.proofs.Begun.{by_sum}

-- ---- what is dropped

left_used : (m : ℕ) (past : Bool) → used_mark (pick (used_mark m && past) 0 m) ≡ used_mark m && not past
unfolding pick
left_used m past = by (used_mark m) past refl
  where
    by : (u p : Bool) → used_mark m ≡ u → used_mark (pick (u && p) 0 m) ≡ u && not p
    by true true e = refl
    by true false e = e
    by false p e = e

module _ (t : List ℕ) (n secs : ℕ) (shape : Shaped t n) where
  pub dropped_shaped : Shaped (dropped t n secs) n
  dropped_shaped = half_shaped t n secs shape (dropped t n secs) n (omega arith) refl

  pub dropped_mark : (i : ℕ) → i < n → get_or (dropped t n secs) i 0 ≡ mark_left t n secs i
  dropped_mark i h =
      let k : length (marks_left t n secs n) ≡ n = length_marks t n secs n in
      ap (λ (j : ℕ). get_or (dropped t n secs) j 0) (sym (zero-add i))
      ∙ get_or_splice_in t 0 (marks_left t n secs n) i (omega (arith, shape.long)) (omega arith)
      ∙ mark_at t n secs n i h

  -- a place is used afterwards exactly where it was, and the seconds are not past its expiry
  pub dropped_used : (i : ℕ) → i < n → (used_at (dropped t n secs) i ≡ true) ↔ ((used_at t i ≡ true) × (secs ≤ word_of t (expiry_at n i)))
  unfolding mark_left
  dropped_used i h =
      let x : ℕ = word_of t (expiry_at n i) in
      let e : used_at (dropped t n secs) i ≡ used_at t i && not (ltb x secs) = ap used_mark (dropped_mark i h) ∙ left_used (get_or t i 0) (ltb x secs) in (
        λ u. let b = (and-eq-true_iff (used_at t i) (not (ltb x secs))).0 (sym e ∙ u) in (b.0, ltb-false x secs (not-true (ltb x secs) b.1)),
        λ w. e ∙ (and-eq-true_iff (used_at t i) (not (ltb x secs))).1 (w.0, ap not (le-ltb x secs w.1)),
      )

  -- every other field keeps its words
  past_marks : (c : Column) (j : ℕ) → (c ≡ Marks → ⊥) → n ≤ column_at c n j
  past_marks Marks j d = absurd (d refl)
  past_marks Ids j d = omega arith
  past_marks Addresses j d = omega arith
  past_marks Bodies j d = omega arith

  pub dropped_fields : (f : Field) → Within f → (f.column ≡ Marks → ⊥) → (j : ℕ) → j < n → field_of (dropped t n secs) n j f ≡ field_of t n j f
  dropped_fields f w d j h =
      let k : length (marks_left t n secs n) ≡ n = length_marks t n secs n in
      let l : n ≤ column_at f.column n j = past_marks f.column j d in
      part_splice_after t 0 (marks_left t n secs n) (field_at f n j) f.size (field_inside f t n j shape w h) (omega arith)

  -- so used addresses, and used ids, stay distinct
  pub dropped_distinct : (key : Field) → Within key → (key.column ≡ Marks → ⊥) → Distinct key t n → Distinct key (dropped t n secs) n
  dropped_distinct key w d apart i j p q a b e =
      apart i j p q ((dropped_used i p).0 a).0 ((dropped_used j q).0 b).0 (sym (dropped_fields key w d i p) ∙ e ∙ dropped_fields key w d j q)

  pub dropped_distinct_addresses : Distinct addr t n → Distinct addr (dropped t n secs) n
  dropped_distinct_addresses = dropped_distinct addr (omega arith) (λ e. let z : ◌≡◌ {A = ℕ} 0 1 = cc in omega arith)

  pub dropped_distinct_ids : Distinct id t n → Distinct id (dropped t n secs) n
  dropped_distinct_ids = dropped_distinct id (omega arith) (λ e. let z : ◌≡◌ {A = ℕ} 0 1 = cc in omega arith)

-- the figures of document 01: expiry 100 stays at 100 s and goes at 101 s
pub expiry_figures : (t : List ℕ) (n i : ℕ) → used_at t i ≡ true → word_of t (expiry_at n i) ≡ 100
    → (mark_left t n 100 i ≡ get_or t i 0) × (mark_left t n 101 i ≡ 0)
expiry_figures t n i u e = (lasting_left t n 100 i (omega arith), expired_left t n 101 i u (omega arith))

-- ---- the clock's call

-- it was taken: the clock moved on by exactly the step, and what has expired by then is dropped
pub record Moved (s : NetcodeServer) (pending : List ℕ) (duration : Time) (o : Outcome) : Type 0 where
  pub exact : whole o.result.server.current_time ≡ whole s.current_time + whole duration
  pub small : o.result.server.current_time.nanos < second
  pub else : o.result.server ≡ with_clock s o.result.server.current_time
  pub idle : s.ask.stage ≡ Idle
  pub shaped : Shaped o.pending s.set.pending
  pub used : (i : ℕ) → i < s.set.pending → (used_at o.pending i ≡ true)
      ↔ ((used_at pending i ≡ true) × (o.result.server.current_time.secs ≤ word_of pending (expiry_at s.set.pending i)))
  pub kept : (f : Field) → Within f → (f.column ≡ Marks → ⊥) → (j : ℕ) → j < s.set.pending
      → field_of o.pending s.set.pending j f ≡ field_of pending s.set.pending j f
  pub apart_addresses : Distinct addr pending s.set.pending → Distinct addr o.pending s.set.pending
  pub apart_ids : Distinct id pending s.set.pending → Distinct id o.pending s.set.pending

answers_differ : (n : ℕ) → Refused n ≡ Nothing → ⊥
answers_differ n e = let z : ◌≡◌ {A = ℕ} 0 1 = cc in omega arith

-- why it refuses by a number: the first test that fails says so
pub data Stopped (s : NetcodeServer) (pending : List ℕ) (duration : Time) : ℕ → Type 0 where
  Asking : (s.ask.stage ≡ Idle → ⊥) → Stopped s pending duration 16
  Tables : s.ask.stage ≡ Idle → pending_refusal s.set (length pending) ≡ 23 → Stopped s pending duration 23
  Late : s.ask.stage ≡ Idle → pending_refusal s.set (length pending) ≡ 0 → added s.current_time duration ≡ Err 20
      → Stopped s pending duration 20

module _ (s : NetcodeServer) (pending : List ℕ) (duration : Time) where
  abbrev tables : ℕ
  tables = pending_refusal s.set (length pending)

  abbrev tests : ℕ
  tests = update_refusal s pending

  moved : tests ≡ 0 → (t : Time) → added s.current_time duration ≡ Ok t
      → Moved s pending duration (done (step (with_clock s t) Nothing) (dropped pending s.set.pending t.secs))
  unfolding with_clock
  moved free t e =
      let sum = added_clock s.current_time duration t e in
      let (idle, tabled) = call_free s.ask tables free in
      let shape = pending_shaped s.set pending tabled in
      record {
        exact = sum.exact;
        small = sum.small;
        else = refl;
        idle = idle;
        shaped = dropped_shaped pending s.set.pending t.secs shape;
        used = dropped_used pending s.set.pending t.secs shape;
        kept = dropped_fields pending s.set.pending t.secs shape;
        apart_addresses = dropped_distinct_addresses pending s.set.pending t.secs shape;
        apart_ids = dropped_distinct_ids pending s.set.pending t.secs shape;
      }

  -- the three ends: refused by a test, out of range, taken
  by_end : {A : Type 0} → ((tests ≡ 0 → ⊥) → done (refused s tests) pending ≡ updated s pending duration → A)
      → (tests ≡ 0 → added s.current_time duration ≡ Err 20 → done (refused s 20) pending ≡ updated s pending duration → A)
      → (tests ≡ 0 → (t : Time) → added s.current_time duration ≡ Ok t
      → done (step (with_clock s t) Nothing) (dropped pending s.set.pending t.secs) ≡ updated s pending duration → A)
      → A
  by_end f g h =
      by_test (eqb tests 0)
      (λ b.
      let free : tests ≡ 0 = eqb-true tests 0 b in
      by_sum (added s.current_time duration)
      (λ t e. h free t e (update_done s pending duration tables refl tests refl free (added s.current_time duration) refl t e
      (dropped pending s.set.pending t.secs) refl (with_clock s t) refl))
      (λ n e.
      let late : n ≡ 20 = added_late s.current_time duration n e in
      let is : added s.current_time duration ≡ Err 20 = e ∙ ap (λ (x : ℕ). Err x) late in
      g free is (update_late s pending duration tables refl tests refl free (added s.current_time duration) refl 20 is)))
      (λ b. let n = eqb-false tests 0 b in f n (update_stops s pending duration tables refl tests refl n))

  pub update_moves : (updated s pending duration).result.answer ≡ Nothing → Moved s pending duration (updated s pending duration)
  update_moves z =
      by_end
      (λ n e. absurd (answers_differ tests (ap (λ (o : Outcome). o.result.answer) e ∙ z)))
      (λ free q e. absurd (answers_differ 20 (ap (λ (o : Outcome). o.result.answer) e ∙ z)))
      (λ free t q e. subst (Moved s pending duration) e (moved free t q))

  -- it is taken exactly where no ask is open, the table is set-up's, and the seconds of the sum fit a word
  pub update_exactly : ((updated s pending duration).result.answer ≡ Nothing)
      ↔ ((s.ask.stage ≡ Idle) × (tables ≡ 0) × (whole s.current_time + whole duration < 2 ^ 64 * second))
  update_exactly = (
    λ z.
        by_end
        (λ n e. absurd (answers_differ tests (ap (λ (o : Outcome). o.result.answer) e ∙ z)))
        (λ free q e. absurd (answers_differ 20 (ap (λ (o : Outcome). o.result.answer) e ∙ z)))
        (λ free t q e.
        let (idle, tabled) = call_free s.ask tables free in
        let sum = added_clock s.current_time duration t q in
        (idle, tabled, omega (arith, sum.exact, sum.small, sum.word))),
    λ k.
        by_end
        (λ n e. absurd (n (idle_passes s.ask tables k.0 ∙ k.1)))
        (λ free q e. absurd (omega (arith, (added_out s.current_time duration).0 q, k.2)))
        (λ free t q e. ap (λ (o : Outcome). o.result.answer) (sym e)),
  )

  -- ---- refused

  length_number : (a b d : Bool) → (pick {A = ℕ} a 23 (pick b 23 (pick d 0 23)) ≡ 0 → ⊥) → pick {A = ℕ} a 23 (pick b 23 (pick d 0 23)) ≡ 23
  unfolding pick
  length_number true b d n = refl
  length_number false true d n = refl
  length_number false false true n = absurd (n refl)
  length_number false false false n = refl

  tables_why : (tables ≡ 0 → ⊥) → tables ≡ 23
  unfolding length_refusal
  tables_why = length_number (eqb s.set.pending 0) (ltb 4096 s.set.pending) (eqb (length pending) (s.set.pending * place_words))

  tests_why : (tests ≡ 0 → ⊥) → Stopped s pending duration tests
  tests_why n =
      by_test (eqb (kind_of s.ask.stage) 0)
      (λ b.
      let idle = idle_only s.ask.stage (eqb-true (kind_of s.ask.stage) 0 b) in
      let same : tests ≡ tables = idle_passes s.ask tables idle in
      let x : tables ≡ 23 = tables_why (λ z. n (same ∙ z)) in
      subst (Stopped s pending duration) (sym (same ∙ x)) (Tables idle x))
      (λ b.
      let asked : s.ask.stage ≡ Idle → ⊥ = λ e. eqb-false (kind_of s.ask.stage) 0 b (idle_is_0 s.ask.stage e) in
      subst (Stopped s pending duration) (sym (open_refused s.ask tables asked)) (Asking asked))

  -- nothing has changed, and the number says which test was the first to fail
  pub update_refused : (n : ℕ) → (updated s pending duration).result.answer ≡ Refused n
      → (updated s pending duration ≡ done (refused s n) pending) × Stopped s pending duration n
  update_refused n z =
      by_end
      (λ m e. stopped tests e (tests_why m))
      (λ free q e. stopped 20 e (let (idle, tabled) = call_free s.ask tables free in Late idle tabled q))
      (λ free t q e. absurd (answers_differ n (sym (ap (λ (o : Outcome). o.result.answer) e ∙ z))))
    where
      stopped : (m : ℕ) → done (refused s m) pending ≡ updated s pending duration → Stopped s pending duration m
          → (updated s pending duration ≡ done (refused s n) pending) × Stopped s pending duration n
      stopped m e w =
          let x : Refused m ≡ Refused n = ap (λ (o : Outcome). o.result.answer) e ∙ z in
          let y : m ≡ n = cc in
          (sym e ∙ ap (λ (k : ℕ). done (refused s k) pending) y, subst (Stopped s pending duration) y w)

-- ---- the limit

pub record Capped (s : NetcodeServer) (wish : ℕ) (o : Step) : Type 0 where
  pub else : o ≡ step (with_limit s o.server.max_clients) Nothing
  pub wished : wish ≤ 1024 → o.server.max_clients ≡ wish
  pub capped : 1024 ≤ wish → o.server.max_clients ≡ 1024

module _ (s : NetcodeServer) (wish : ℕ) where
  -- it is capped, and is otherwise the wish, whatever the number of slots
  pub limit_capped : s.ask.stage ≡ Idle → Capped s wish (limited s wish)
  unfolding with_limit
  limit_capped e =
      subst (Capped s wish)
      (limit_done s wish (call_refusal s.ask 0) refl (idle_passes s.ask 0 e) (min wish 1024) refl (with_limit s (min wish 1024)) refl)
      (record { else = refl; wished = λ h. omega arith; capped = λ h. omega arith })

  -- 16 while an ask is open, and the record as it was
  pub limit_refused : (s.ask.stage ≡ Idle → ⊥) → limited s wish ≡ refused s 16
  limit_refused n =
      let e : call_refusal s.ask 0 ≡ 16 = open_refused s.ask 0 n in
      sym (limit_stops s wish (call_refusal s.ask 0) refl (λ z. omega arith)) ∙ ap (refused s) e
