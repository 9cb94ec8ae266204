-- What `set_up` comes to, and its record in words; beside a refusal, those of a record of no places.
use Rattle.std.specs.Prelude.{Result}
use mathlib.Core.Path.{sym, ap, ap₂, ◌∙◌}
use Prim.Native.Nat.{ℕ}
use mathlib.Core.List.{List}
use Rattle.server.specs.declared.NetcodeServer.{NetcodeServer}
use Rattle.upkeep.specs.SetUps.{refusal_of, record_of}
use Rattle.netcode.specs.Laid.{whole_words}
use Rattle.netcode.specs.Calls.{started, started_as}
use Rattle.netcode.proofs.standing.netcode_set_up.Goals as goal

pub returns-in-Ok : goal.returns-in-Ok
returns-in-Ok c =
    let w = c.args.words.now in
    let t = c.set_up.new in
    ap (λ (x : List ℕ). started 0 x t.slots t.pending t.entries) c.lay_whole.ensures
    ∙ ap (λ (r : Result NetcodeServer ℕ). started (refusal_of r) (whole_words w (record_of r)) t.slots t.pending t.entries) (sym c.in-Ok.is)
    ∙ ap (started_as w) c.set_up.ensures

pub returns-in-Err : goal.returns-in-Err
returns-in-Err c =
    let w = c.args.words.now in
    let t = c.set_up.new in
    ap₂ (λ (n : ℕ) (x : List ℕ). started n x t.slots t.pending t.entries) c.number.ensures (c.lay_whole-in-Err.ensures ∙ ap (whole_words w) c.placeless.ensures)
    ∙ ap (λ (r : Result NetcodeServer ℕ). started (refusal_of r) (whole_words w (record_of r)) t.slots t.pending t.entries) (sym c.in-Err.is)
    ∙ ap (started_as w) c.set_up.ensures
