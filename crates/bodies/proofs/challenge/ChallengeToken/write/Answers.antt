-- Three runs, each right after the one before it.
use mathlib.Core.Path.{◌≡◌}
use lib.ListN.{length}
use Rattle.bodies.proofs.Fields.{challenge_written}
use borrow.Author.Rules.{rules}
use Rattle.bodies.proofs.challenge.ChallengeToken.write.Goals as goal

pub returns : goal.returns
returns c =
    let a = c.args in
    let k : length a.self.user_data ≡ 256 = search rules in
    challenge_written a.out.now a.at _ _ _ a.self.client_id a.self.user_data c.requires k c.write_u64.ensures c.copy.ensures c.fill.ensures
