-- An answer and an ask, where the host reads them. The answer's 14 words: the nine of `words_of`, and of an ask its work (0 open, 1 seal), the
-- sizes of its nonce and additional data, its part's start and end. The ask's 85 bytes: key, nonce, additional data.
use Rattle.std.specs.Prelude.{ℕ, List, [], ◌∷◌}
use Rattle.serialize.specs.Runs.{part, splice}
use Rattle.asks.specs.declared.Work.{Work}
use Rattle.asks.specs.declared.Work.TheVariants.{Open, Seal}
use Rattle.server.specs.declared.NetcodeServer.{NetcodeServer}
use Rattle.server.specs.declared.Answer.{Answer}
use Rattle.server.specs.declared.Ask as host
use Rattle.server.specs.Answers.{words_of}
use Rattle.netcode.specs.Laid.{record_words}

unfoldable pub work_number : Work → ℕ
work_number Open = 0
work_number Seal = 1

abbrev pub ask_numbers : host.Ask → List ℕ
ask_numbers a = work_number a.work ∷ a.nonce_size ∷ a.size ∷ a.start ∷ a.end ∷ []

-- over what stood there, which is as long
unfoldable pub answer_words : List ℕ → Answer → host.Ask → List ℕ
answer_words w answer a = splice (splice w 0 (part (words_of answer) 0 9)) 9 (ask_numbers a)

unfoldable pub ask_bytes : List ℕ → host.Ask → List ℕ
ask_bytes b a = splice (splice (splice b 0 (part a.key 0 32)) 32 (part a.nonce 0 24)) 56 (part a.additional 0 29)

-- the three that a call is lent to be told in
pub record Desk : Type 0 where
  pub words : List ℕ
  pub answer : List ℕ
  pub ask : List ℕ

abbrev pub desk : List ℕ → List ℕ → List ℕ → Desk
desk words answer ask = record { words = words; answer = answer; ask = ask }

abbrev pub told_on : Desk → NetcodeServer → Answer → host.Ask → Desk
told_on d s answer a = desk (record_words d.words s) (answer_words d.answer answer a) (ask_bytes d.ask a)
