-- Each way out is a case of the definition.
use borrow.Author.Tests.{lt-ltb, le-ltb}
use Rattle.serialize.specs.Choice.{pick}
use Rattle.netcode.specs.Calls.{size_of}
use Rattle.netcode.proofs.sizes.netcode_entries_bytes.Goals as goal

pub returns-then-entries-gt-MAX_ENTRIES : goal.returns-then-entries-gt-MAX_ENTRIES
unfolding size_of pick
returns-then-entries-gt-MAX_ENTRIES c = simp (lt-ltb _ _ c.if-entries-gt-MAX_ENTRIES.true)

pub returns : goal.returns
unfolding size_of pick
returns c = simp (le-ltb _ _ c.if-entries-gt-MAX_ENTRIES.false)
