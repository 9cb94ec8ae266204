-- The answer and the bytes left go by what the search for a match found.
use mathlib.Core.Path.{sym, ap, ◌∙◌}
use Rattle.addresses.specs.declared.Address.{Address}
use Rattle.addresses.specs.Addresses.{same}
use Rattle.addresses.proofs.Meaning.{same_derived}
use Rattle.entries.specs.Layout.{match_at}
use Rattle.entries.proofs.Last.{found_last}
use Rattle.entries.proofs.Ways.{entry_matched, entry_added}
use Rattle.entries.proofs.find_or_add_connect_token_entry.Goals as goal

pub address_at-requires : goal.address_at-requires
address_at-requires c =
    let p = match_at c.args.entries.now c.args.k c.args.new_entry.mac in
    (c.requires, (found_last p c.args.k c.in-Some.i (sym c.find_match.ensures ∙ c.in-Some.is)).below)

pub returns-in-Some : goal.returns-in-Some
returns-in-Some c =
    let a = c.args in
    let x = c.address_at in
    entry_matched a.entries.now a.k a.new_entry
    (sym c.find_match.ensures ∙ c.in-Some.is)
    (c.eq.ensures ∙ same_derived x.result a.new_entry.address ∙ ap (λ (y : Address). same y a.new_entry.address) x.ensures)

pub returns-in-None : goal.returns-in-None
returns-in-None c =
    let a = c.args in
    entry_added a.entries.now a.k a.new_entry
    (sym c.find_match.ensures ∙ c.in-None.is)
    c.place_for-place.ensures.0
    c.write_entry.ensures
