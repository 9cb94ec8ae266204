-- The step laid is the one that was there.
use Rattle.netcode.specs.Told.{desk}
use Rattle.netcode.proofs.Speaks.{rest_told}
use Rattle.netcode.proofs.speaking.rest.Goals as goal

pub returns : goal.returns
returns c =
    let a = c.args in
    rest_told a.words.now a.answer.now a.ask.now c.requires (desk c.lay_quiet.new.words c.lay_quiet.new.answer c.lay_quiet.new.ask) c.lay_quiet.ensures
