-- Each way out is a case of the definition.
use borrow.Author.Tests.{lt-ltb, le-ltb}
use Rattle.serialize.specs.Choice.{pick}
use Rattle.netcode.specs.Calls.{size_of}
use Rattle.netcode.proofs.sizes.netcode_slots_words.Goals as goal

pub returns-then-slots-gt-NETCODE_MAX_CLIENTS : goal.returns-then-slots-gt-NETCODE_MAX_CLIENTS
unfolding size_of pick
returns-then-slots-gt-NETCODE_MAX_CLIENTS c = simp (lt-ltb _ _ c.if-slots-gt-NETCODE_MAX_CLIENTS.true)

pub returns : goal.returns
unfolding size_of pick
returns c = simp (le-ltb _ _ c.if-slots-gt-NETCODE_MAX_CLIENTS.false)
