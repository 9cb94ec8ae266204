-- What the callees promise, put together: the record that was read is the one that the words are, and what the call came to is told on the desk.
use mathlib.Core.Path.{◌≡◌, ap, ◌∙◌}
use mathlib.Core.List.{List, []}
use Prim.Native.Nat.{ℕ}
use Rattle.server.specs.declared.NetcodeServer.{NetcodeServer}
use Rattle.server.specs.declared.Step.{Step}
use Rattle.upkeep.specs.Clocks as clocks
use Rattle.queries.specs.declared.Reply.{Reply}
use Rattle.queries.specs.Replies.{words_of}
use Rattle.queries.specs.Queries as queries
use Rattle.turns.specs.declared.Turn.{Turn}
use Rattle.turns.specs.Outcomes as turns
use Rattle.turns.specs.Packets as packets
use Rattle.grants.specs.Grants as grants
use Rattle.sending.specs.Packets as sending
use Rattle.netcode.specs.Laid.{record_in}
use Rattle.netcode.specs.Told.{Desk}
use Rattle.netcode.specs.Calls.{turn_on, Stepped, stepped, stepped_as, updated_as, moved, moved_as, wrote, wrote_as, booked, booked_as, spoke, spoke_as, attended, attended_as, replied, replied_as}

module _ (words : List ℕ) (s : NetcodeServer) (read : s ≡ record_in words) where
  -- a query q that gives a reply r
  pub answered : (q : NetcodeServer → Reply) (r : Reply) → r ≡ q s → (laid : List ℕ) → laid ≡ words_of r → laid ≡ words_of (q (record_in words))
  answered q r e laid l = l ∙ ap words_of (e ∙ ap q read)

  -- and one that leaves something in what it was lent
  pub filled : (q : NetcodeServer → queries.Outcome) (r : Reply) (left : List ℕ) → queries.told r left ≡ q s → (laid : List ℕ) → laid ≡ words_of r
      → replied laid left ≡ replied_as (q (record_in words))
  filled q r left e laid l = ap (λ (x : List ℕ). replied x left) l ∙ ap replied_as (e ∙ ap q read)

  -- a call that never asks, with the pending table and without one
  pub moved_on : (q : NetcodeServer → clocks.Outcome) (st : Step) (pending : List ℕ) → clocks.done st pending ≡ q s → (answer w a : List ℕ)
      → stepped w a [] ≡ stepped_as words answer st [] → stepped w a pending ≡ updated_as words answer (q (record_in words))
  moved_on q st pending e answer w a l = ap (λ (x : Stepped). stepped x.words x.answer pending) l ∙ ap (updated_as words answer) (e ∙ ap q read)

  pub limited_to : (q : NetcodeServer → Step) (st : Step) → st ≡ q s → (answer w a : List ℕ) → stepped w a [] ≡ stepped_as words answer st []
      → stepped w a [] ≡ stepped_as words answer (q (record_in words)) []
  limited_to q st e answer w a l = l ∙ ap (λ (x : Step). stepped_as words answer x []) (e ∙ ap q read)

  -- a call that may ask: its turn r is told on the desk d, which is then e
  module _ (d e : Desk) (r : Turn) (told : e ≡ turn_on d r) where
    pub arrived : (q : NetcodeServer → turns.Outcome) (slots pending : List ℕ) → turns.came r slots pending ≡ q s
        → moved e slots pending ≡ moved_as d (q (record_in words))
    arrived q slots pending is = ap (λ (x : Desk). moved x slots pending) told ∙ ap (moved_as d) (is ∙ ap q read)

    pub opened : (q : NetcodeServer → turns.Written) (slots pending held out : List ℕ) → turns.written (turns.came r slots pending) held out ≡ q s
        → wrote (moved e slots pending) held out ≡ wrote_as d (q (record_in words))
    opened q slots pending held out is = ap (λ (x : Desk). wrote (moved x slots pending) held out) told ∙ ap (wrote_as d) (is ∙ ap q read)

    pub granted : (q : NetcodeServer → grants.Granted) (slots pending entries held out : List ℕ)
        → grants.granted (turns.came r slots pending) entries held out ≡ q s
        → booked (wrote (moved e slots pending) held out) entries ≡ booked_as d (q (record_in words))
    granted q slots pending entries held out is =
        ap (λ (x : Desk). booked (wrote (moved x slots pending) held out) entries) told ∙ ap (booked_as d) (is ∙ ap q read)

    pub spoken : (q : NetcodeServer → packets.Spoken) (out : List ℕ) → packets.spoken r out ≡ q s → spoke e out ≡ spoke_as d (q (record_in words))
    spoken q out is = ap (λ (x : Desk). spoke x out) told ∙ ap (spoke_as d) (is ∙ ap q read)

    pub served : (q : NetcodeServer → sending.Served) (slots out : List ℕ) → sending.served r slots out ≡ q s
        → attended e slots out ≡ attended_as d (q (record_in words))
    served q slots out is = ap (λ (x : Desk). attended x slots out) told ∙ ap (attended_as d) (is ∙ ap q read)
