-- Prefix byte, sequence bytes, payload and tag are few, and what was tested is the packet's need.
use mathlib.Core.Path.{sym}
use mathlib.Core.Bool.{true≢false}
use Prim.Native.Nat.{◌^◌, ◌<◌}
use native.Mathlib.Omega.{arith}
use borrow.Author.Tests.{leb-true}
use Rattle.prefix.proofs.Fewest.{fewest_le}
use Rattle.netcode.proofs.Speaks.{room_found}
use borrow.Author.Rules.{rules}
use Rattle.netcode.proofs.speaking.has_room.Goals as goal

pub returns-then-sequence : goal.returns-then-sequence
returns-then-sequence c = λ e. absurd (true≢false (sym e))

pub overflow_add-result : goal.overflow_add-result
overflow_add-result c =
    let b : c.sequence-sequence.result < 256 ^ 8 = search rules in
    let l = fewest_le c.sequence-sequence.result b in
    let e = c.sequence_bytes_required.ensures in
    omega arith

pub overflow_add-result-2 : goal.overflow_add-result-2
overflow_add-result-2 c =
    let b : c.sequence-sequence.result < 256 ^ 8 = search rules in
    let l = fewest_le c.sequence-sequence.result b in
    let e = c.sequence_bytes_required.ensures in
    omega arith

pub overflow_add-result-3 : goal.overflow_add-result-3
overflow_add-result-3 c =
    let b : c.sequence-sequence.result < 256 ^ 8 = search rules in
    let l = fewest_le c.sequence-sequence.result b in
    let e = c.sequence_bytes_required.ensures in
    omega arith

pub returns : goal.returns
returns c =
    let a = c.args in
    λ e. room_found a.slots.now a.n a.i a.payload a.out _ c.sequence-sequence.ensures c.if-sequence.false _ c.sequence_bytes_required.ensures (leb-true _ _ e)
