-- Each way out is a case of the definition.
use borrow.Author.Tests.{lt-ltb, le-ltb}
use Rattle.serialize.specs.Choice.{pick}
use Rattle.netcode.specs.Calls.{size_of}
use Rattle.netcode.proofs.sizes.netcode_addresses_words.Goals as goal

pub returns-then-addresses-gt-MAX_ADDRESSES : goal.returns-then-addresses-gt-MAX_ADDRESSES
unfolding size_of pick
returns-then-addresses-gt-MAX_ADDRESSES c = simp (lt-ltb _ _ c.if-addresses-gt-MAX_ADDRESSES.true)

pub returns : goal.returns
unfolding size_of pick
returns c = simp (le-ltb _ _ c.if-addresses-gt-MAX_ADDRESSES.false)
