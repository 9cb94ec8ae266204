-- A line of the table is found again by its number, since no two lines have one.
use Rattle.std.specs.Prelude.{◌≡◌, ◌≤◌, refl}
use Rattle.std.proofs.Common.{ap, arith}
use Rattle.refusal.specs.declared.Why.{Why}
use Rattle.refusal.specs.declared.Why.TheVariants.{DatagramShort, NoSuchType, Stranger, SequenceLong, SequenceLate, Repeated, TagMissing, NotOpened, BodyShort, VersionWrong, ProtocolWrong, Expired, NotForUs, OutputShort, CounterSpent, AskOpen, NoAsk, AnswerUnfit, AddressMalformed, ClockOver, PayloadLong, NoSuchClient, TableUnfit, NotSealed}
use Rattle.refusal.specs.declared.Refusal.TheInside.{Inside}
use Rattle.refusal.specs.Numbers.{number_of, why_of, inside_of}

pub why_back : (w : Why) → why_of (number_of w) ≡ w
why_back DatagramShort = refl
why_back NoSuchType = refl
why_back Stranger = refl
why_back SequenceLong = refl
why_back SequenceLate = refl
why_back Repeated = refl
why_back TagMissing = refl
why_back NotOpened = refl
why_back BodyShort = refl
why_back VersionWrong = refl
why_back ProtocolWrong = refl
why_back Expired = refl
why_back NotForUs = refl
why_back OutputShort = refl
why_back CounterSpent = refl
why_back AskOpen = refl
why_back NoAsk = refl
why_back AnswerUnfit = refl
why_back AddressMalformed = refl
why_back ClockOver = refl
why_back PayloadLong = refl
why_back NoSuchClient = refl
why_back TableUnfit = refl
why_back NotSealed = refl

pub inside_back : (a : Inside) → inside_of (why_of (number_of a.0)) ≡ a
inside_back a = ap inside_of (why_back a.0)

-- every line's number is the table's: 1 to 24
pub number_in_table : (w : Why) → (1 ≤ number_of w) × (number_of w ≤ 24)
number_in_table DatagramShort = (omega arith, omega arith)
number_in_table NoSuchType = (omega arith, omega arith)
number_in_table Stranger = (omega arith, omega arith)
number_in_table SequenceLong = (omega arith, omega arith)
number_in_table SequenceLate = (omega arith, omega arith)
number_in_table Repeated = (omega arith, omega arith)
number_in_table TagMissing = (omega arith, omega arith)
number_in_table NotOpened = (omega arith, omega arith)
number_in_table BodyShort = (omega arith, omega arith)
number_in_table VersionWrong = (omega arith, omega arith)
number_in_table ProtocolWrong = (omega arith, omega arith)
number_in_table Expired = (omega arith, omega arith)
number_in_table NotForUs = (omega arith, omega arith)
number_in_table OutputShort = (omega arith, omega arith)
number_in_table CounterSpent = (omega arith, omega arith)
number_in_table AskOpen = (omega arith, omega arith)
number_in_table NoAsk = (omega arith, omega arith)
number_in_table AnswerUnfit = (omega arith, omega arith)
number_in_table AddressMalformed = (omega arith, omega arith)
number_in_table ClockOver = (omega arith, omega arith)
number_in_table PayloadLong = (omega arith, omega arith)
number_in_table NoSuchClient = (omega arith, omega arith)
number_in_table TableUnfit = (omega arith, omega arith)
number_in_table NotSealed = (omega arith, omega arith)
