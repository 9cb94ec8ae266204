-- Four zeros stay, and the sequence fills the rest.
use Rattle.serialize.specs.Runs.{splice}
use Rattle.serialize.specs.Le.{to_le}
use Rattle.prefix.specs.Sealed.{packet_nonce}
use Rattle.prefix.proofs.packet_nonce.Goals as goal

pub returns : goal.returns
unfolding splice to_le packet_nonce
returns c = c.write_u64.ensures
