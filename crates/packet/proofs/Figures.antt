-- Every starred figure holds: each side computes to the same.
use mathlib.Core.Path.{refl}
use Rattle.serialize.specs.Choice.{pick}
use Rattle.serialize.specs.Search.{first_from}
use Rattle.serialize.specs.Runs.{splice}
use Rattle.serialize.specs.Le.{of_le, to_le}
use Rattle.prefix.specs.Head.{fewest}
use Rattle.prefix.specs.Sealed.{additional_data}
use Rattle.replay_protection.specs.Replay.{fresh, behind, repeated, spent, refusal_by, advance, arrive}
use Rattle.replay_protection.specs.Arrivals.{run}
use Rattle.bodies.specs.Kinds.{type_of}
use Rattle.bodies.specs.Bodies.{keep_alive_body, read_body}
use Rattle.encode.specs.Encodes.{shown, tag_places, unencodable, written_as, encode}
use Rattle.decode.specs.Decodes.{type_at, start_at, window_refusal, guard_refusal, read_opened, decode_at, decode_sealed, decode_of, decode, answer_opened}
use Rattle.packet.specs.Figures.{Figures}

pub figures : Figures
unfolding pick first_from to_le of_le splice fewest additional_data run arrive advance refusal_by spent behind repeated fresh type_of keep_alive_body read_body shown tag_places unencodable written_as encode type_at start_at
    window_refusal guard_refusal read_opened decode_at decode_sealed decode_of decode answer_opened
figures = record {
  keep_alive_0 = refl;
  payload_255 = refl;
  payload_256 = refl;
  payload_last = refl;
  keep_alive_body = refl;
  additional_data = refl;
  disconnect_0 = (refl, refl);
  disconnect_0_bytes = refl;
  disconnect_0_refused = refl;
  disconnect_1 = (refl, refl);
  disconnect_1_asked = refl;
  disconnect_1_read = refl;
  after_300_refused = refl;
  after_300_accepted = refl;
  after_0_accepted = refl;
  after_256_refused = refl;
  last_passes = refl;
  past_last = refl;
}
