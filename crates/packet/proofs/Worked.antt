-- The premises can be met: a host that seals by sixteen zeros keeps its word, and a keep-alive goes through it and is read back.
use mathlib.Core.Path.{◌≡◌, refl, ap, ◌∙◌}
use Prim.Native.Nat.{ℕ, ◌+◌, ◌-◌}
use native.Mathlib.Omega.{arith}
use mathlib.Core.List.{List, [], ◌++◌}
use Rattle.std.specs.Prelude.{Option, Some}
use lib.ListN.{length, take, length-append}
use lib.Seq.{take_at}
use Rattle.serialize.specs.Choice.{pick}
use Rattle.serialize.specs.Search.{first_from}
use Rattle.serialize.specs.Runs.{zeros}
use Rattle.prefix.specs.Head.{fewest}
use Rattle.replay_protection.specs.declared.ReplayProtection.{ReplayProtection}
use Rattle.replay_protection.specs.Replay.{fresh, refusal_by, spent, behind, repeated}
use Rattle.replay_protection.specs.Ours.{width, protection}
use Rattle.bodies.specs.declared.Packet.TheVariants.{KeepAlive}
use Rattle.bodies.proofs.Back.{length_body}
use Rattle.encode.specs.Encodes.{shown, tag_places, unencodable, written_as, encode}
use Rattle.decode.specs.Decodes.{window_refusal, guard_refusal}
use Rattle.packet.specs.Hosts.{Host, Yes, sent, ReadBack}
use Rattle.packet.proofs.RoundTrip.{round_trip, length_sent}

pub plain : Host
plain = record {
  seal = λ key nonce additional text. text ++ zeros 16;
  opens = λ key nonce additional sealed. Yes (take (length sealed - 16) sealed);
  tagged = λ key nonce additional text. length-append text (zeros 16);
  honest = λ key nonce additional text.
      let n : length (text ++ zeros 16) ≡ length text + 16 = length-append text (zeros 16) in
      let l : length (text ++ zeros 16) - 16 ≡ length text = omega arith in
      ap (λ (k : ℕ). Yes (take k (text ++ zeros 16))) l ∙ ap Yes (take_at text (zeros 16) (length text) refl);
}

abbrev some_key : Option (List ℕ)
some_key = Some (zeros 32)

abbrev fresh_guard : Option ReplayProtection
fresh_guard = Some (protection (fresh width))

-- slot 3 of 8, protocol 7, sequence 0, a fresh window, a buffer of the 25 bytes that it needs
pub worked : ReadBack plain (KeepAlive 3 8) [] 7 some_key 0 fresh_guard (encode (zeros 25) (KeepAlive 3 8) [] 7 some_key 0).encoded.ask (sent plain (encode (zeros 25) (KeepAlive 3 8) [] 7 some_key 0))
unfolding pick first_from fewest encode written_as unencodable shown tag_places guard_refusal window_refusal refusal_by spent behind repeated fresh
worked =
    round_trip plain (zeros 25) (KeepAlive 3 8) [] 7 some_key 0 refl fresh_guard (omega arith, omega arith) (omega arith) refl
    (omega (arith, length_sent plain (zeros 25) (KeepAlive 3 8) [] 7 some_key 0 refl, length_body (KeepAlive 3 8) [] (omega arith)))
