-- Refused and unchanged, or head and body and what follows from them.
use mathlib.Core.Path.{refl, sym}
use native.Mathlib.Omega.{arith}
use lib.ListN.{length}
use Rattle.refusal.proofs.Laws.{passed, refused_as, refused_some}
use Rattle.encode.proofs.Ways.{tested_keyed, encodable, encode_refused, room_for_body, encode_written}
use Rattle.encode.proofs.writing.encode.Goals as goal

pub returns-in-Err : goal.returns-in-Err
returns-in-Err c =
    let s = c.args in
    let t = tested_keyed _ _ _ s.private_key s.sequence c.unencodable.ensures c.is_some.ensures in
    encode_refused s.out.now s.packet s.bytes.now s.protocol_id s.private_key s.sequence c.packet_type-kind.ensures (refused_as _ _ t _ c.in-Err.is) c.refused.ensures (refused_some _ _ t _ c.in-Err.is)

pub write_head-start-requires : goal.write_head-start-requires
write_head-start-requires c =
    let s = c.args in
    let k = c.packet_type-kind.result in
    let t = tested_keyed _ _ _ s.private_key s.sequence c.unencodable.ensures c.is_some.ensures in
    let room = encodable (length s.out.now) k (length s.bytes.now) _ s.sequence (sym (passed _ _ t _ c.in_default.is)) in
    omega arith

pub write-requires : goal.write-requires
write-requires c =
    let s = c.args in
    let t = tested_keyed _ _ _ s.private_key s.sequence c.unencodable.ensures c.is_some.ensures in
    room_for_body s.out.now s.packet s.bytes.now s.protocol_id s.private_key s.sequence c.packet_type-kind.ensures (passed _ _ t _ c.in_default.is) c.write_head-start.new.out refl c.write_head-start.ensures.0 c.write_head-start.auto.out

pub written-requires : goal.written-requires
written-requires c =
    let s = c.args in
    let k = c.packet_type-kind.result in
    let t = tested_keyed _ _ _ s.private_key s.sequence c.unencodable.ensures c.is_some.ensures in
    let room = encodable (length s.out.now) k (length s.bytes.now) _ s.sequence (sym (passed _ _ t _ c.in_default.is)) in
    room.1.0

pub returns : goal.returns
returns c =
    let s = c.args in
    let t = tested_keyed _ _ _ s.private_key s.sequence c.unencodable.ensures c.is_some.ensures in
    encode_written s.out.now s.packet s.bytes.now s.protocol_id s.private_key s.sequence c.packet_type-kind.ensures (passed _ _ t _ c.in_default.is) refl c.write_head-start.ensures.0 c.write_head-start.ensures.1 c.write.ensures c.written.ensures
