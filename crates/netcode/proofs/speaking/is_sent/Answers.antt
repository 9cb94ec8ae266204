-- Each test that is passed is a fact of a packet that was sent.
use mathlib.Core.Path.{sym, ◌∙◌}
use mathlib.Core.Bool.{true≢false}
use Prim.Native.Nat.{◌+◌, ◌<◌}
use native.Mathlib.Omega.{arith}
use lib.ListN.{get_or}
use borrow.Author.Tests.{leb-true}
use Rattle.refusal.proofs.Laws.{is_err_none}
use Rattle.netcode.proofs.speaking.is_sent.Goals as goal

pub returns-then-is_err : goal.returns-then-is_err
returns-then-is_err c = λ e. absurd (true≢false (sym e))

pub returns-then-out-words : goal.returns-then-out-words
returns-then-out-words c = λ e. absurd (true≢false (sym e))

pub returns-then-words : goal.returns-then-words
returns-then-words c = λ e. absurd (true≢false (sym e))

pub returns-then-words-ge-MOST : goal.returns-then-words-ge-MOST
returns-then-words-ge-MOST c = λ e. absurd (true≢false (sym e))

pub returns-then-is_sending_step : goal.returns-then-is_sending_step
returns-then-is_sending_step c =
    let l = c.if-words-ge-MOST.false in
    let m : get_or c.args.words.now 25 0 + 1 < 18446744073709551616 = omega (arith, l) in
    λ e. record {
      seals = c.is_sending_step.ensures c.if-is_sending_step.true;
      fits = is_err_none _ c.tables_refusal.result c.tables_refusal.ensures (sym c.is_err.ensures.value ∙ c.if-is_err.false);
      same = c.if-out-words.false;
      place = c.if-words.false;
      more = m;
      room = leb-true _ _ e;
    }

pub returns : goal.returns
returns c = λ e. absurd (true≢false (sym e))
