-- An answer in numbers (document 01, "Our forms for each place": where an answer is an enum, a definition gives this paper's number and values
-- for each of its cases; "When the server says no": a slot ended with 15 or 24 is empty and no packet comes).
use Rattle.std.specs.Prelude.{ℕ, List, [], ◌∷◌, Option, None, Some}
use Rattle.addresses.specs.declared.Address.{Address}
use Rattle.addresses.specs.Addresses.{address, first_word}
use Rattle.server.specs.declared.Answer.{Answer}
use Rattle.server.specs.declared.Answer.TheVariants.{Refused, Nothing, Ask, PacketToSend, Payload, ClientConnected, ClientDisconnected}

-- the number of a refusal that there may be; 0 for none
abbrev pub told : Option ℕ → ℕ
told None = 0
told (Some n) = n

-- the refusal's number, 0 where nothing is refused; of a record that ended, 15 or 24 where that is why no packet comes
unfoldable pub number_of : Answer → ℕ
number_of (Refused n) = n
number_of Nothing = 0
number_of Ask = 0
number_of (PacketToSend addr end) = 0
number_of (Payload id start end) = 0
number_of (ClientConnected id slot addr end) = 0
number_of (ClientDisconnected id addr end refusal) = told refusal

-- an address that none is
abbrev pub nobody : Address
nobody = address 0 0 0 0

-- the case, its number, id, slot, three words of an address, start and end of a part
abbrev pub laid : ℕ → ℕ → ℕ → ℕ → Address → ℕ → ℕ → List ℕ
laid case number id slot a start end = case ∷ number ∷ id ∷ slot ∷ first_word a ∷ a.low ∷ a.high ∷ start ∷ end ∷ []

-- a packet to send stands in the output from 0 to end, a payload in the datagram from start to end; what a case does not have is 0
unfoldable pub words_of : Answer → List ℕ
words_of (Refused n) = laid 0 n 0 0 nobody 0 0
words_of Nothing = laid 1 0 0 0 nobody 0 0
words_of Ask = laid 2 0 0 0 nobody 0 0
words_of (PacketToSend addr end) = laid 3 0 0 0 addr 0 end
words_of (Payload id start end) = laid 4 0 id 0 nobody start end
words_of (ClientConnected id slot addr end) = laid 5 0 id slot addr 0 end
words_of (ClientDisconnected id addr end refusal) = laid 6 (told refusal) id 0 addr 0 end
