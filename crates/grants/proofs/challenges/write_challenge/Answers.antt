-- Head, token sequence and token are one run from the start of the output.
use mathlib.Core.Path.{◌≡◌, ap, ◌∙◌}
use Prim.Native.Nat.{ℕ, ◌^◌, ◌<◌}
use native.Mathlib.Omega.{arith}
use lib.ListN.{length, length-set}
use Rattle.prefix.specs.Head.{fewest, prefix_byte}
use Rattle.prefix.proofs.Fewest.{fewest_le}
use Rattle.grants.proofs.Sending.{challenge_written}
use borrow.Author.Rules.{rules}
use Rattle.grants.proofs.challenges.write_challenge.Goals as goal

pub write_sequence-count-requires : goal.write_sequence-count-requires
write_sequence-count-requires c =
    let g = c.args.global_sequence in
    let b : g < 256 ^ 8 = search rules in
    let k = fewest_le g b in
    let l = length-set c.args.out.now 0 c.encode_prefix.result in
    let p = c.requires in
    omega arith

pub write_u64-requires : goal.write_u64-requires
write_u64-requires c =
    let g = c.args.global_sequence in
    let b : g < 256 ^ 8 = search rules in
    let k = fewest_le g b in
    let n = c.write_sequence-count.ensures.0 in
    let l = c.write_sequence-count.auto.out ∙ length-set c.args.out.now 0 c.encode_prefix.result in
    let p = c.requires in
    omega arith

pub shape_of-out : goal.shape_of-out
shape_of-out c = c.generate_challenge-encoded.auto.out ∙ c.write_u64.auto.dst ∙ c.write_sequence-count.auto.out ∙ length-set c.args.out.now 0 c.encode_prefix.result

pub returns : goal.returns
returns c =
    let a = c.args in
    let b : a.global_sequence < 256 ^ 8 = search rules in
    let l : length a.user_data ≡ 256 = search rules in
    challenge_written a.out.now a.global_sequence a.challenge_sequence a.challenge_key a.client_id a.user_data c.requires b l
    _ _ (c.encode_prefix.ensures ∙ ap (λ (k : ℕ). prefix_byte k (fewest a.global_sequence)) c.to_u8.ensures) c.write_sequence-count.ensures.0 _ _ c.write_sequence-count.ensures.1 c.write_u64.ensures
    _ _ c.generate_challenge-encoded.ensures _ c.packet_ask.ensures
