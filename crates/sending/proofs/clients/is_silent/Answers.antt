-- The sent time as it is read, and the clock.
use mathlib.Core.Path.{ap, ◌∙◌}
use Rattle.times.specs.declared.Time.{Time}
use Rattle.times.specs.Times.{due}
use Rattle.sending.proofs.clients.is_silent.Goals as goal

pub returns : goal.returns
returns c = c.is_due.ensures ∙ ap (λ (x : Time). due x c.args.server.current_time) c.sent_time-sent.ensures
