-- Who sends (document 01, "When the server says no", 3: address neither connected nor pending; "How the host answers": searches take the
-- lowest): the slots are looked at first.
use Rattle.std.specs.Prelude.{ℕ, List, Option, Some, None}
use Rattle.addresses.specs.declared.Address.{Address}
use Rattle.places.specs.Finds.{find_address}
use Rattle.arrivals.specs.declared.Sender.{Sender}
use Rattle.arrivals.specs.declared.Sender.TheVariants.{Connected, Pending, Unknown}

unfoldable pub waiting : Option ℕ → Sender
waiting (Some j) = Pending j
waiting None = Unknown

unfoldable pub sender : Option ℕ → Option ℕ → Sender
sender (Some i) pending = Connected i
sender None pending = waiting pending

abbrev pub sender_of : List ℕ → ℕ → List ℕ → ℕ → Address → Sender
sender_of slots n pending m addr = sender (find_address slots n addr) (find_address pending m addr)
