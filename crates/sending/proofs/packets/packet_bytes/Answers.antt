-- Prefix byte, sequence bytes, body and tag are few: a word holds their sum.
use Prim.Native.Nat.{◌^◌, ◌<◌}
use native.Mathlib.Omega.{arith}
use Rattle.prefix.proofs.Fewest.{fewest_le}
use Rattle.sending.proofs.Ways.{body_small, packet_sized}
use borrow.Author.Rules.{rules}
use Rattle.sending.proofs.packets.packet_bytes.Goals as goal

pub overflow_add-result : goal.overflow_add-result
overflow_add-result c =
    let b : c.args.sequence < 256 ^ 8 = search rules in
    let l = fewest_le c.args.sequence b in
    let e = c.sequence_bytes_required.ensures in
    omega arith

pub overflow_add-result-2 : goal.overflow_add-result-2
overflow_add-result-2 c =
    let b : c.args.sequence < 256 ^ 8 = search rules in
    let l = fewest_le c.args.sequence b in
    let m = body_small c.args.kind c.args.given c.requires.1 in
    let e = c.sequence_bytes_required.ensures in
    let g = c.body_len.ensures in
    omega arith

pub overflow_add-result-3 : goal.overflow_add-result-3
overflow_add-result-3 c =
    let b : c.args.sequence < 256 ^ 8 = search rules in
    let l = fewest_le c.args.sequence b in
    let m = body_small c.args.kind c.args.given c.requires.1 in
    let e = c.sequence_bytes_required.ensures in
    let g = c.body_len.ensures in
    omega arith

pub returns : goal.returns
returns c =
    let e = c.sequence_bytes_required.ensures in
    let g = c.body_len.ensures in
    let s = packet_sized c.args.kind c.args.given c.args.sequence c.requires.0 in
    omega arith
