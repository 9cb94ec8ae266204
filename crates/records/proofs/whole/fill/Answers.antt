-- Id, address, body and mark are stored in turn, as the definition has them.
use mathlib.Core.Path.{◌∙◌}
use native.Mathlib.Omega.{arith}
use lib.ListN.{length-set}
use Rattle.addresses.specs.Addresses.{words_of}
use Rattle.records.specs.Records.{body_of}
use Rattle.records.proofs.Pieces.{record_written}
use Rattle.records.proofs.whole.fill.Goals as goal

pub put_address-requires : goal.put_address-requires
put_address-requires c = simp length-set (omega arith)

pub put_body-requires : goal.put_body-requires
put_body-requires c = omega (arith, simp length-set at c.put_address.auto.t)

pub bounds-t-i : goal.bounds-t-i
bounds-t-i c = omega (arith, c.put_body.auto.t, simp length-set at c.put_address.auto.t)

pub shape_of-t : goal.shape_of-t
shape_of-t c = simp length-set (c.put_body.auto.t ∙ c.put_address.auto.t ∙ simp length-set)

pub returns : goal.returns
returns c =
    let a = c.args in
    record_written
    a.t.now
    c.put_address.new.t
    c.put_body.new.t
    a.n
    a.i
    a.connection.client_id
    (words_of a.connection.addr)
    (body_of a.connection)
    c.put_address.ensures
    c.put_body.ensures
