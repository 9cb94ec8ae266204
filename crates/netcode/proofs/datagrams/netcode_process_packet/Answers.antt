-- A sealed packet of a slot is asked about the short way, and any datagram the general way: both come to the same.
use mathlib.Core.Path.{ap, ◌∙◌}
use lib.ListN.{length}
use Rattle.addresses.specs.declared.Address.{Address}
use Rattle.turns.specs.Outcomes.{state}
use Rattle.arrivals.specs.Arrivals.{arrives}
use Rattle.netcode.specs.Laid.{record_in}
use Rattle.netcode.specs.Told.{desk}
use Rattle.netcode.specs.Calls.{moved_as}
use Rattle.netcode.proofs.Quickly.{seen_fits, seen_told}
use Rattle.netcode.proofs.datagrams.netcode_process_packet.Goals as goal

pub ask_open-requires : goal.ask_open-requires
ask_open-requires c =
    let a = c.args in
    seen_fits a.words.now a.slots.now a.pending.now c.new-addr.result (length a.out.now) a.datagram.now c.look.result c.in-Some.seen.place c.in-Some.seen.kind c.in-Some.seen.sequence c.in-Some.seen.start c.look.ensures c.in-Some.is

pub returns-in-Some : goal.returns-in-Some
returns-in-Some c =
    let a = c.args in
    seen_told (desk a.words.now a.answer.now a.ask.now) (desk c.ask_open.new.words c.ask_open.new.answer c.ask_open.new.ask) a.slots.now a.pending.now
    c.new-addr.result (length a.out.now) a.datagram.now c.look.result c.in-Some.seen.place c.in-Some.seen.kind c.in-Some.seen.sequence c.in-Some.seen.start c.look.ensures c.in-Some.is c.ask_open.ensures
    ∙ ap (λ (x : Address). moved_as (desk a.words.now a.answer.now a.ask.now) (arrives (state (record_in a.words.now) a.slots.now a.pending.now) x (length a.out.now) a.datagram.now)) c.new-addr.ensures

pub returns-in-None : goal.returns-in-None
returns-in-None c =
    let a = c.args in
    c.process_any.ensures
    ∙ ap (λ (x : Address). moved_as (desk a.words.now a.answer.now a.ask.now) (arrives (state (record_in a.words.now) a.slots.now a.pending.now) x (length a.out.now) a.datagram.now)) c.new-addr.ensures
