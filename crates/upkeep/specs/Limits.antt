-- The client limit (document 01, "How a connection lives": `set_max_clients` caps at 1,024 and may pass the slots).
use Rattle.std.specs.Prelude.{ℕ, min, eqb}
use Rattle.serialize.specs.Choice.{pick}
use Rattle.server.specs.declared.NetcodeServer.{NetcodeServer}
use Rattle.server.specs.declared.Step.{Step}
use Rattle.server.specs.declared.Answer.TheVariants.{Nothing}
use Rattle.server.specs.State.{with_limit, step, refused}
use Rattle.server.specs.Ready.{call_refusal}

-- 16; no table is lent
unfoldable pub limited : NetcodeServer → ℕ → Step
limited s limit =
    pick (eqb (call_refusal s.ask 0) 0) (step (with_limit s (min limit 1024)) Nothing) (refused s (call_refusal s.ask 0))
