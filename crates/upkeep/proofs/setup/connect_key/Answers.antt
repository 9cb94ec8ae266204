-- Each way out is a case of the definition.
use Rattle.serialize.specs.Choice.{pick}
use Rattle.upkeep.specs.SetUps.{connect_key}
use Rattle.upkeep.proofs.setup.connect_key.Goals as goal

pub returns-then-config : goal.returns-then-config
unfolding connect_key pick
returns-then-config c = simp c.if-config.true

pub returns : goal.returns
unfolding connect_key pick
returns c = simp c.if-config.false
