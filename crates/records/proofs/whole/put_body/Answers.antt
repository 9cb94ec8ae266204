-- The pieces lie one after the other, so together they are the body's run of words.
use Rattle.records.proofs.Pieces.{body_written}
use Rattle.records.proofs.whole.put_body.Goals as goal

pub returns : goal.returns
returns c =
    let a = c.args in
    body_written
    a.t.now
    c.put_keys.new.t
    c.put_numbers.new.t
    c.pack_words.new.dst
    c.store_window.new.t
    a.at
    a.connection
    c.put_keys.ensures
    c.put_numbers.ensures
    c.pack_words.ensures
    c.store_window.ensures
    c.store_window.auto.t
    c.requires
