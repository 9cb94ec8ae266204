-- Each arm is a case of the definition, laid out by `lay`.
use Rattle.server.specs.Answers.{words_of}
use Rattle.server.proofs.Answer.words.Goals as goal

pub returns-in-Refused : goal.returns-in-Refused
unfolding words_of
returns-in-Refused c = simp (c.in-Refused.is, c.lay.ensures, c.nobody.ensures, c.number.ensures)

pub returns-in-Nothing : goal.returns-in-Nothing
unfolding words_of
returns-in-Nothing c = simp (c.in-Nothing.is, c.lay-in-Nothing.ensures, c.nobody-in-Nothing.ensures)

pub returns-in-Ask : goal.returns-in-Ask
unfolding words_of
returns-in-Ask c = simp (c.in-Ask.is, c.lay-in-Ask.ensures, c.nobody-in-Ask.ensures)

pub returns-in-PacketToSend : goal.returns-in-PacketToSend
unfolding words_of
returns-in-PacketToSend c = simp (c.in-PacketToSend.is, c.lay-in-PacketToSend.ensures)

pub returns-in-Payload : goal.returns-in-Payload
unfolding words_of
returns-in-Payload c = simp (c.in-Payload.is, c.lay-in-Payload.ensures, c.nobody-in-Payload.ensures)

pub returns-in-ClientConnected : goal.returns-in-ClientConnected
unfolding words_of
returns-in-ClientConnected c = simp (c.in-ClientConnected.is, c.lay-in-ClientConnected.ensures)

pub returns-in-ClientDisconnected : goal.returns-in-ClientDisconnected
unfolding words_of
returns-in-ClientDisconnected c = simp (c.in-ClientDisconnected.is, c.lay-in-ClientDisconnected.ensures, c.told.ensures)
