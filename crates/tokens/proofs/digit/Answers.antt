-- Each range has its value.
use Rattle.std.proofs.Common.{◌∙◌, arith, le-ltb, lt-ltb, le-leb}
use borrow.Author.Tests.{lt-leb}
use Rattle.serialize.specs.Choice.{pick}
use Rattle.tokens.specs.Text.{digit_of}
use Rattle.tokens.proofs.digit.Goals as goal

pub returns-in-48-to-57 : goal.returns-in-48-to-57
unfolding digit_of pick
returns-in-48-to-57 c =
    let k = c.args.c in
    (c.from.ensures ∙ simp (le-ltb k 48 (omega arith), le-leb k 57 (omega arith)), omega arith)

pub returns-in-97-to-102 : goal.returns-in-97-to-102
unfolding digit_of pick
returns-in-97-to-102 c =
    let k = c.args.c in
    let d = c.from-in-97-to-102 in
    (rw d.ensures (simp (le-ltb k 48 (omega arith), lt-leb k 57 (omega arith), le-ltb k 97 (omega arith), le-leb k 102 (omega arith))), omega arith)

pub returns-in_default : goal.returns-in_default
unfolding digit_of pick
returns-in_default c = (simp (lt-ltb c.args.c 48 (omega arith)), omega arith)

pub returns-in_default-2 : goal.returns-in_default-2
unfolding digit_of pick
returns-in_default-2 c =
    let k = c.args.c in
    (simp (le-ltb k 48 (omega arith), lt-leb k 57 (omega arith), lt-ltb k 97 (omega arith)), omega arith)

pub returns-in_default-3 : goal.returns-in_default-3
unfolding digit_of pick
returns-in_default-3 c =
    let k = c.args.c in
    (simp (le-ltb k 48 (omega arith), lt-leb k 57 (omega arith), le-ltb k 97 (omega arith), lt-leb k 102 (omega arith)), omega arith)
