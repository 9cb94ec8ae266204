-- What set-up fixed is laid first, and then what calls change.
use Rattle.netcode.proofs.Words.{whole, laid_bit}
use Rattle.netcode.proofs.record.lay_whole.Goals as goal

pub returns : goal.returns
returns c =
    let a = c.args in
    whole a.server a.words.now c.copy.new.dst c.lay_key.new.words c.lay_key-2.new.words c.lay.new.words c.from.result (laid_bit a.server.set.secure c.from.result c.from.ensures)
    c.copy.ensures c.lay_key.ensures c.lay_key-2.ensures c.lay.ensures
