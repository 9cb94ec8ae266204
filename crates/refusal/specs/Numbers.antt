-- Document 01's numbers ("When the server says no"): the table's lines, in its order.
use Rattle.std.specs.Prelude.{ℕ, Bool, true, false, ◌==◌}
use Rattle.refusal.specs.declared.Why.{Why}
use Rattle.refusal.specs.declared.Why.TheVariants.{DatagramShort, NoSuchType, Stranger, SequenceLong, SequenceLate, Repeated, TagMissing, NotOpened, BodyShort, VersionWrong, ProtocolWrong, Expired, NotForUs, OutputShort, CounterSpent, AskOpen, NoAsk, AnswerUnfit, AddressMalformed, ClockOver, PayloadLong, NoSuchClient, TableUnfit, NotSealed}
use Rattle.refusal.specs.declared.Refusal.TheInside.{Inside}

abbrev pub number_of : Why → ℕ
number_of DatagramShort = 1
number_of NoSuchType = 2
number_of Stranger = 3
number_of SequenceLong = 4
number_of SequenceLate = 5
number_of Repeated = 6
number_of TagMissing = 7
number_of NotOpened = 8
number_of BodyShort = 9
number_of VersionWrong = 10
number_of ProtocolWrong = 11
number_of Expired = 12
number_of NotForUs = 13
number_of OutputShort = 14
number_of CounterSpent = 15
number_of AskOpen = 16
number_of NoAsk = 17
number_of AnswerUnfit = 18
number_of AddressMalformed = 19
number_of ClockOver = 20
number_of PayloadLong = 21
number_of NoSuchClient = 22
number_of TableUnfit = 23
number_of NotSealed = 24

-- and back; a number that the table does not have is taken for its last

abbrev pub choose : Bool → Why → Why → Why
choose true a b = a
choose false a b = b

abbrev pub why_of : ℕ → Why
why_of n =
    choose (n == 1) DatagramShort
    (choose (n == 2) NoSuchType
    (choose (n == 3) Stranger
    (choose (n == 4) SequenceLong
    (choose (n == 5) SequenceLate
    (choose (n == 6) Repeated
    (choose (n == 7) TagMissing
    (choose (n == 8) NotOpened
    (choose (n == 9) BodyShort
    (choose (n == 10) VersionWrong
    (choose (n == 11) ProtocolWrong
    (choose (n == 12) Expired
    (choose (n == 13) NotForUs
    (choose (n == 14) OutputShort
    (choose (n == 15) CounterSpent
    (choose (n == 16) AskOpen
    (choose (n == 17) NoAsk
    (choose (n == 18) AnswerUnfit
    (choose (n == 19) AddressMalformed
    (choose (n == 20) ClockOver
    (choose (n == 21) PayloadLong
    (choose (n == 22) NoSuchClient
    (choose (n == 23) TableUnfit
    NotSealed))))))))))))))))))))))

-- a refusal's field
abbrev pub inside_of : Why → Inside
inside_of why = record { 0 = why }
