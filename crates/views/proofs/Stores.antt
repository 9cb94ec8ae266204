-- A view is read from five fields of one place, and a write to a field leaves the others: so a store to a time, a counter, user data or
-- the confirmed mark is not seen, and every other write is seen at its own place alone.
use mathlib.Core.Path.{◌≡◌, refl, sym, ap, ap₂, ◌∙◌}
use mathlib.Core.Bool.{Bool, true, false}
use Prim.Native.Nat.{ℕ, ◌+◌, ◌≤◌, ◌<◌}
use native.Mathlib.Nat.{add-zero}
use native.Mathlib.Omega.{arith}
use mathlib.Core.List.{List, [], ◌∷◌}
use lib.ListN.{length, take, set, get_or}
use lib.Seq.{take_all}
use lib.Dec.{eqb, ltb}
use borrow.Author.Tests.{lt-ltb, ltb-true, eqb-true, eqb-false}
use Rattle.serialize.specs.Choice.{pick}
use Rattle.serialize.specs.Runs.{part, splice}
use Rattle.serialize.specs.Le.{words}
use Rattle.serialize.proofs.Choice.{by_test}
use Rattle.serialize.proofs.Lists.{part_part, part_ext, get_or_part, length_part}
use Rattle.times.specs.declared.Time.{Time}
use Rattle.replay_protection.specs.Replay.{Window, window, arrive}
use Rattle.replay_protection.specs.Stored.{window_at, put_window}
use Rattle.replay_protection.specs.Ours.{width, window_of}
use Rattle.replay_protection.proofs.Stored.{length_arrive, arrived_loads}
use Rattle.addresses.specs.Addresses.{words_of}
use Rattle.places.specs.Layout.{Shaped, address_at, body_at, body_words, id_of, used_at, used_mark, window_place}
use Rattle.places.specs.Columns as columns
use Rattle.places.specs.Columns.{Marks, Bodies, Field, field, Within, field_at, field_of, Elsewhere}
use Rattle.places.proofs.Frame.{Apart, put_elsewhere, store_elsewhere, elsewhere_put, elsewhere_store, shaped_kept}
use Rattle.places.proofs.Same.{body_put, body_store}
use Rattle.places.proofs.Searches.{word_of_lem}
use Rattle.places.proofs.Ways.{empty_unused}
use Rattle.records.specs.declared.Connection.{Connection}
use Rattle.records.specs.Records.{put_time, body_of, filled, emptied, moved}
use Rattle.records.proofs.Kept.{placed_elsewhere, window_elsewhere, window_same}
use Rattle.records.proofs.ReadBack.{emptied_rest, placed_used, placed_address, placed_id, placed_body, moved_body, moved_address, moved_id}
use Rattle.records.proofs.Invariants.{emptied_mark}
use Rattle.views.specs.Views.{View, view, nobody, standing, gone, advanced, here, view_at}

-- ---- a view is its five fields

window_in : List ℕ → Window
window_in l = window (get_or l 0 0) (part l 1 width)

window_of_lem : (t : List ℕ) (n i : ℕ) → window_at width t (window_place n i) ≡ window_in (field_of t n i columns.window)
unfolding window_at window_in
window_of_lem t n i =
    let at = window_place n i in
    ap₂ window
    (ap (λ (k : ℕ). get_or t k 0) (sym (add-zero at)) ∙ sym (get_or_part t at (1 + width) 0 (omega arith)))
    (sym (part_part t at (1 + width) 1 width (omega arith)))

-- place j has the same of all that a view shows
pub record Alike (n j : ℕ) (t u : List ℕ) : Type 0 where
  pub marks : field_of u n j columns.mark ≡ field_of t n j columns.mark
  pub addrs : field_of u n j columns.addr ≡ field_of t n j columns.addr
  pub keys : field_of u n j columns.receive_key ≡ field_of t n j columns.receive_key
  pub ids : field_of u n j columns.id ≡ field_of t n j columns.id
  pub windows : field_of u n j columns.window ≡ field_of t n j columns.window

used_of : (t : List ℕ) (n j : ℕ) → used_at t j ≡ used_mark (get_or (field_of t n j columns.mark) 0 0)
used_of t n j = ap used_mark (sym (word_of_lem t n j columns.mark 0 j (omega arith) (omega arith)))

pub used_alike : (n j : ℕ) (t u : List ℕ) → field_of u n j columns.mark ≡ field_of t n j columns.mark → used_at u j ≡ used_at t j
used_alike n j t u e = used_of u n j ∙ ap (λ (l : List ℕ). used_mark (get_or l 0 0)) e ∙ sym (used_of t n j)

pub window_alike : (n j : ℕ) (t u : List ℕ) → field_of u n j columns.window ≡ field_of t n j columns.window
    → window_at width u (window_place n j) ≡ window_at width t (window_place n j)
window_alike n j t u e = window_of_lem u n j ∙ ap window_in e ∙ sym (window_of_lem t n j)

-- of two tables
pub window_across : (t : List ℕ) (n i : ℕ) (u : List ℕ) (m j : ℕ) → field_of t n i columns.window ≡ field_of u m j columns.window
    → window_at width t (window_place n i) ≡ window_at width u (window_place m j)
window_across t n i u m j e = window_of_lem t n i ∙ ap window_in e ∙ sym (window_of_lem u m j)

-- an id's field is its word
id_words : (t : List ℕ) (n i : ℕ) → Shaped t n → i < n → id_of t n i ∷ [] ≡ field_of t n i columns.id
id_words t n i shape h =
    sym (part_ext t (id_of t n i ∷ []) (field_at columns.id n i) 0 1 (omega (arith, shape.long)) (omega arith) (λ k l. one k l) ∙ refl)
  where
    one : (k : ℕ) → k < 1 → get_or t (field_at columns.id n i + k) 0 ≡ get_or (id_of t n i ∷ []) (0 + k) 0
    one k l =
        let z : k ≡ 0 = omega arith in
        let e : n + i + 0 + 0 ≡ n + i = omega arith in
        rw z (ap (λ (x : ℕ). get_or t x 0) e)

-- a view, part by part
pub view_parts : {a b : Bool} {p q r s k l : List ℕ} {v w : Window} → a ≡ b → p ≡ q → r ≡ s → k ≡ l → v ≡ w → view a p r k v ≡ view b q s l w
view_parts {a} {b} {p} {q} {r} {s} {k} {l} {v} {w} e f g h i = simp (e, f, g, h, i)

pub here_alike : (n j : ℕ) (t u : List ℕ) → Alike n j t u → here u n j ≡ here t n j
here_alike n j t u a = view_parts (used_alike n j t u a.marks) a.addrs a.keys a.ids (window_alike n j t u a.windows)

pub view_inside : (t : List ℕ) (n j : ℕ) → j < n → view_at t n j ≡ here t n j
unfolding view_at pick
view_inside t n j h = simp (lt-ltb j n h)

pub view_outside : (t : List ℕ) (n j : ℕ) → ltb j n ≡ false → view_at t n j ≡ nobody
unfolding view_at pick
view_outside t n j e = simp e

pub view_alike : (n j : ℕ) (t u : List ℕ) → (j < n → Alike n j t u) → view_at u n j ≡ view_at t n j
view_alike n j t u a =
    by_test (ltb j n)
    (λ e. let h = ltb-true j n e in view_inside u n j h ∙ here_alike n j t u (a h) ∙ sym (view_inside t n j h))
    (λ e. view_outside u n j e ∙ sym (view_outside t n j e))

-- who is seen as used is at a place of the table
pub view_within : (t : List ℕ) (n j : ℕ) → (view_at t n j).used ≡ true → ltb j n ≡ true
view_within t n j u =
    by_test (ltb j n) (λ e. e)
    (λ e.
    let z : false ≡ true = ap (λ (v : View). v.used) (sym (view_outside t n j e)) ∙ u in
    let w : ◌≡◌ {A = ℕ} 0 1 = cc in
    absurd (omega arith))

-- ---- what a write to place i leaves of the others

pub else_alike : (n i j : ℕ) (t u : List ℕ) → Elsewhere n i t u → (i ≡ j → ⊥) → j < n → Alike n j t u
else_alike n i j t u e d h = record {
  marks = e.same j h d columns.mark (omega arith);
  addrs = e.same j h d columns.addr (omega arith);
  keys = e.same j h d columns.receive_key (omega arith);
  ids = e.same j h d columns.id (omega arith);
  windows = e.same j h d columns.window (omega arith);
}

pub view_else : (n i j : ℕ) (t u : List ℕ) → Elsewhere n i t u → (i ≡ j → ⊥) → view_at u n j ≡ view_at t n j
view_else n i j t u e d = view_alike n j t u (else_alike n i j t u e d)

-- ---- writes that no view shows

-- u looks like t at every place
pub record Unseen (n : ℕ) (t u : List ℕ) : Type 0 where
  pub long : length u ≡ length t
  pub same : (j : ℕ) → view_at u n j ≡ view_at t n j

pub unseen_refl : (n : ℕ) (t : List ℕ) → Unseen n t t
unseen_refl n t = record { long = refl; same = λ j. refl }

pub unseen_trans : {n : ℕ} {t u v : List ℕ} → Unseen n t u → Unseen n u v → Unseen n t v
unseen_trans a b = record { long = b.long ∙ a.long; same = λ j. b.same j ∙ a.same j }

-- what is alike at i and the same elsewhere
pub unseen_by : (n i : ℕ) (t u : List ℕ) → Elsewhere n i t u → Alike n i t u → Unseen n t u
unseen_by n i t u e a = record {
  long = e.long;
  same = λ j.
      by_test (eqb i j)
      (λ x. view_alike n j t u (λ h. at j (eqb-true i j x)))
      (λ x. view_else n i j t u e (eqb-false i j x));
}
  where
    at : (j : ℕ) → i ≡ j → Alike n j t u
    at j e = rw (← e) a

module _ (t : List ℕ) (n i : ℕ) (shape : Shaped t n) (inside : i < n) where
  -- one word
  pub store_unseen : (o v : ℕ) → o < 48 → (5 ≤ o → 9 ≤ o) → Unseen n t (set t (body_at n i + o) v)
  store_unseen o v h d =
      let at = body_at n i + o in
      let f = field Bodies o 1 in
      let e : field_at f n i + 0 ≡ at = omega arith in
      let c = body_store t n i shape inside o 1 (omega arith) 0 at v (omega arith) e in
      let k : (p r : ℕ) → Within (field Bodies p r) → Apart f (field Bodies p r) n i i → field_of (set t at v) n i (field Bodies p r) ≡ field_of t n i (field Bodies p r) =
      λ p r w a.
      ap (λ (x : ℕ). field_of (set t x v) n i (field Bodies p r)) (sym e)
      ∙ store_elsewhere t n i i shape f (field Bodies p r) (omega arith) w inside inside a 0 v (omega arith) in
      unseen_by n i t (set t at v) (elsewhere_store t n i shape inside f (omega arith) 0 at v (omega arith) e)
      (record {
        marks = c.marks i inside;
        addrs = c.addresses i inside;
        keys = k 5 4 (omega arith) (λ x q a b y. let z : o ≡ 5 + x → ⊥ = λ w. let g = d (omega arith) in omega arith in z (omega arith));
        ids = c.ids i inside;
        windows = k 48 (1 + width) (omega arith) (λ x q a b y. omega arith);
      })

  -- a run of them, after the receive key
  pub put_unseen : (o s : ℕ) (vs : List ℕ) → 9 ≤ o → o + s ≤ 48 → length vs ≡ s → Unseen n t (splice t (body_at n i + o) vs)
  put_unseen o s vs g h l =
      let at = body_at n i + o in
      let f = field Bodies o s in
      let c = body_put t n i shape inside o s (omega arith) at refl vs l in
      let k : (p r : ℕ) → Within (field Bodies p r) → Apart f (field Bodies p r) n i i → field_of (splice t at vs) n i (field Bodies p r) ≡ field_of t n i (field Bodies p r) =
      λ p r w a. put_elsewhere t n i i shape f (field Bodies p r) (omega arith) w inside inside a vs l in
      unseen_by n i t (splice t at vs) (elsewhere_put t n i shape inside f (omega arith) at refl vs l)
      (record {
        marks = c.marks i inside;
        addrs = c.addresses i inside;
        keys = k 5 4 (omega arith) (λ x q a b y. omega arith);
        ids = c.ids i inside;
        windows = k 48 (1 + width) (omega arith) (λ x q a b y. omega arith);
      })

-- user data has 32 words
pub words_32 : (l : List ℕ) → length (words 32 l) ≡ 32
unfolding words
words_32 l = refl

-- a time
pub time_unseen : (t : List ℕ) (n i : ℕ) → Shaped t n → i < n → (o : ℕ) (v : Time) → 9 ≤ o → o + 1 < 48 → Unseen n t (put_time t (body_at n i + o) v)
time_unseen t n i shape h o v g k =
    let u = set t (body_at n i + o) v.secs in
    let a = store_unseen t n i shape h o v.secs (omega arith) (λ _. g) in
    let e : body_at n i + (o + 1) ≡ body_at n i + o + 1 = omega arith in
    let b = store_unseen u n i (shaped_kept a.long shape) h (o + 1) v.nanos (omega arith) (λ _. omega arith) in
    unseen_trans a (rw e at b)

-- ---- the window

-- a sequence arrives at place i of n
abbrev pub arrived : List ℕ → ℕ → ℕ → ℕ → List ℕ
arrived t n i sequence = put_window t (window_place n i) (arrive width (window_at width t (window_place n i)) sequence)

module _ (t : List ℕ) (n i : ℕ) (shape : Shaped t n) (inside : i < n) (sequence : ℕ) where
  full : length (arrive width (window_at width t (window_place n i)) sequence).ring ≡ width
  unfolding window_at
  full = length_arrive width (window_at width t (window_place n i)) sequence ∙ length_part t (window_place n i + 1) width (omega (arith, shape.long))

  pub arrived_else : Elsewhere n i t (arrived t n i sequence)
  arrived_else = window_elsewhere t n i shape inside (arrive width (window_at width t (window_place n i)) sequence) full

  key_kept : field_of (arrived t n i sequence) n i columns.receive_key ≡ field_of t n i columns.receive_key
  unfolding put_window
  key_kept =
      let win = arrive width (window_at width t (window_place n i)) sequence in
      put_elsewhere t n i i shape columns.window columns.receive_key (omega arith) (omega arith) inside inside (λ x q a b y. omega arith) (win.most ∷ win.ring) (omega (arith, full))

  pub arrived_here : view_at (arrived t n i sequence) n i ≡ advanced (view_at t n i) sequence
  arrived_here =
      let u = arrived t n i sequence in
      let win = arrive width (window_at width t (window_place n i)) sequence in
      let c = window_same t n i shape inside win full in
      view_inside u n i inside
      ∙ view_parts (used_alike n i t u (c.marks i inside)) (c.addresses i inside) key_kept (c.ids i inside)
      (arrived_loads width t (window_place n i) sequence (omega (arith, shape.long)))
      ∙ ap (λ (v : View). advanced v sequence) (sym (view_inside t n i inside))

-- ---- marks

module _ (t : List ℕ) (n i : ℕ) (shape : Shaped t n) (inside : i < n) where
  pub emptied_here : view_at (emptied t i) n i ≡ gone (view_at t n i)
  emptied_here =
      let u = emptied t i in
      let r : (g : Field) → Within g → (Marks ≡ g.column → ⊥) → field_of u n i g ≡ field_of t n i g = emptied_rest t n i shape inside in
      view_inside u n i inside
      ∙ view_parts (empty_unused u i (emptied_mark t n i shape inside))
      (r columns.addr (omega arith) (λ e. let z : ◌≡◌ {A = ℕ} 0 1 = cc in omega arith))
      (r columns.receive_key (omega arith) (λ e. let z : ◌≡◌ {A = ℕ} 0 1 = cc in omega arith))
      (r columns.id (omega arith) (λ e. let z : ◌≡◌ {A = ℕ} 0 1 = cc in omega arith))
      (window_alike n i t u (r columns.window (omega arith) (λ e. let z : ◌≡◌ {A = ℕ} 0 1 = cc in omega arith)))
      ∙ ap gone (sym (view_inside t n i inside))

  pub emptied_gone : (view_at (emptied t i) n i).used ≡ false
  emptied_gone = ap (λ (v : View). v.used) emptied_here

  -- a place that is marked empty is seen so
  pub free_view : get_or t i 0 ≡ 0 → (view_at t n i).used ≡ false
  free_view e = ap (λ (v : View). v.used) (view_inside t n i inside) ∙ empty_unused t i e

  -- ---- a record put into place i

  module _ (c : Connection) (full : length (window_of c.replay_protection).ring ≡ width) where
    whole : length (body_of c) ≡ body_words
    unfolding body_of words
    whole = omega (arith, full)

    body_run : (o s : ℕ) → Within (field Bodies o s) → field_of (filled t n i c) n i (field Bodies o s) ≡ part (body_of c) o s
    body_run = placed_body t n i shape inside c.client_id (words_of c.addr) (body_of c) refl whole

    win_run : window_in (part (body_of c) 48 (1 + width)) ≡ window_of c.replay_protection
    unfolding window_in body_of words
    win_run =
        let w = window_of c.replay_protection in
        ap (window w.most) (ap (take width) (take_all width w.ring (omega (arith, full))) ∙ take_all width w.ring (omega (arith, full)))

    key_run : part (body_of c) 5 4 ≡ words 4 c.receive_key
    unfolding body_of words
    key_run = refl

    pub filled_here : view_at (filled t n i c) n i ≡ view true (words_of c.addr) (words 4 c.receive_key) (c.client_id ∷ []) (window_of c.replay_protection)
    filled_here =
        let u = filled t n i c in
        view_inside u n i inside
        ∙ view_parts
        (placed_used t n i shape inside c.client_id (words_of c.addr) (body_of c) refl whole)
        (placed_address t n i shape inside c.client_id (words_of c.addr) (body_of c) refl whole)
        (body_run 5 4 (omega arith) ∙ key_run)
        (placed_id t n i shape inside c.client_id (words_of c.addr) (body_of c) refl whole)
        (window_of_lem u n i ∙ ap window_in (body_run 48 (1 + width) (omega arith)) ∙ win_run)

    pub filled_else : Elsewhere n i t (filled t n i c)
    filled_else = placed_elsewhere t n i shape inside c.client_id (words_of c.addr) (body_of c) refl whole

-- ---- a record moved

pub moved_here : (slots : List ℕ) (n i : ℕ) (pending : List ℕ) (m j : ℕ) → Shaped slots n → i < n → Shaped pending m → j < m
    → view_at (moved slots n i pending m j) n i ≡ standing (view_at pending m j)
moved_here slots n i pending m j shape inside from there =
    let u = moved slots n i pending m j in
    let b : (o s : ℕ) → Within (field Bodies o s) → field_of u n i (field Bodies o s) ≡ field_of pending m j (field Bodies o s) = moved_body slots n i pending m j shape inside from there in
    view_inside u n i inside
    ∙ view_parts
    (placed_used slots n i shape inside (id_of pending m j) (part pending (address_at m j) 3) (part pending (body_at m j) body_words)
    (length_part pending (address_at m j) 3 (omega (arith, from.long))) (length_part pending (body_at m j) body_words (omega (arith, from.long))))
    (moved_address slots n i pending m j shape inside from there)
    (b 5 4 (omega arith))
    (moved_id slots n i pending m j shape inside from there ∙ id_words pending m j from there)
    (window_across u n i pending m j (b 48 (1 + width) (omega arith)))
    ∙ ap standing (sym (view_inside pending m j there))
