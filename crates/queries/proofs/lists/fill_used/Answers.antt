-- After i turns the first i places are put, whatever is said of them, and k is the index after them.
use mathlib.Core.Path.{◌≡◌, refl, ◌∙◌}
use mathlib.Core.Bool.{true}
use Prim.Native.Nat.{◌+◌, ◌<◌}
use native.Mathlib.Omega.{arith}
use borrow.Author.Rules.{rules}
use lib.ListN.{length, get_or}
use Rattle.places.specs.Finds.{count_one}
use Rattle.places.proofs.Counted.{count_turn, used_counts}
use Rattle.queries.proofs.Filled.{put_start, room_left, put_none, put_one, put_turn, put_end}
use Rattle.queries.proofs.lists.fill_used.Goals as goal

pub loop-i-init : goal.loop-i-init
loop-i-init g c =
    let a = c.args in
    let room = c.requires.table.1 in
    (omega arith, (put_start a.slots.now a.n true a.list.now room).1, refl, λ ids h. (put_start a.slots.now a.n ids a.list.now room).0)

pub bounds-list-k : goal.bounds-list-k
bounds-list-k g c =
    let a = c.args in
    let l = c.loop-i in
    let room = room_left a.slots.now a.n true a.list.now c.requires.table.1 l.k l.i l.invariant.1 c.loop-i-test.true in
    omega (arith, room, used_counts (get_or a.slots.now l.i 0) c.if-slots-i-eq0.false, l.invariant.2)

pub offset_bounds-list-k : goal.offset_bounds-list-k
offset_bounds-list-k g c =
    let h : c.loop-i.k < length c.loop-i.list = bounds-list-k g c in
    search rules

pub overflow_add-k : goal.overflow_add-k
overflow_add-k g c =
    let h : c.loop-i.k < length c.loop-i.list = bounds-list-k g c in
    search rules

pub loop-i-preserved-then-slots-i-eq0 : goal.loop-i-preserved-then-slots-i-eq0
loop-i-preserved-then-slots-i-eq0 g c =
    let a = c.args in
    let l = c.loop-i in
    let w = l.invariant in
    let none = put_none a.slots.now a.n true l.i l.k l.list c.if-slots-i-eq0.true in (
      omega (arith, c.loop-i-test.true),
      none.0 ∙ count_turn a.slots.now l.i l.k (count_one (get_or a.slots.now l.i 0)) w.1 refl,
      w.2,
      λ ids h.
          (put_turn a.slots.now a.n ids a.list.now c.requires.table.1 l.list l.k l.i (w.3 ids h, w.1, w.0, w.2) c.loop-i-test.true
          l.list l.k (put_none a.slots.now a.n ids l.i l.k l.list c.if-slots-i-eq0.true).1 none.0).0,
    )

pub loop-i-preserved : goal.loop-i-preserved
loop-i-preserved g c =
    let a = c.args in
    let l = c.loop-i in
    let w = l.invariant in
    let more : l.k + 1 ≡ l.k + count_one (get_or a.slots.now l.i 0) =
    omega (arith, used_counts (get_or a.slots.now l.i 0) c.if-slots-i-eq0.false) in (
      omega (arith, c.loop-i-test.true),
      more ∙ count_turn a.slots.now l.i l.k (count_one (get_or a.slots.now l.i 0)) w.1 refl,
      search rules,
      λ ids h.
          (put_turn a.slots.now a.n ids a.list.now c.requires.table.1 l.list l.k l.i (w.3 ids h, w.1, w.0, w.2) c.loop-i-test.true _ _
          (put_one a.slots.now a.n ids l.i l.k l.list c.value.result c.if-slots-i-eq0.false
          (h l.i c.loop-i-test.true c.value.result c.value.ensures) (bounds-list-k g c)).1 more).0,
    )

pub returns : goal.returns
returns g c = λ ids h.
    let a = c.args in
    let l = c.loop-i in
    let w = l.invariant in
    put_end a.slots.now a.n ids a.list.now c.requires.table.1 l.list l.k l.i (w.3 ids h, w.1, w.0, w.2) c.loop-i-test.false
