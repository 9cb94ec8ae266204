-- A store and two runs of four words, each right after the last, are one run of nine.
use mathlib.Core.Path.{◌∙◌}
use native.Mathlib.Omega.{arith}
use lib.ListN.{length-set}
use Rattle.records.proofs.Pieces.{bit_from, keys_written}
use borrow.Author.Rules.{rules}
use Rattle.records.proofs.whole.put_keys.Goals as goal

pub pack_words-requires : goal.pack_words-requires
pack_words-requires c = (simp length-set (omega arith), search rules)

pub pack_words-requires-2 : goal.pack_words-requires-2
pack_words-requires-2 c = (omega (arith, simp length-set at c.pack_words.auto.dst), search rules)

pub shape_of-t : goal.shape_of-t
shape_of-t c = c.pack_words-2.auto.dst ∙ c.pack_words.auto.dst ∙ simp length-set

pub returns : goal.returns
returns c =
    let a = c.args in
    keys_written
    a.t.now
    c.pack_words.new.dst
    c.pack_words-2.new.dst
    a.at
    a.confirmed
    a.send_key
    a.receive_key
    (c.from.ensures ∙ bit_from a.confirmed)
    c.pack_words.ensures
    c.pack_words-2.ensures
    c.requires
