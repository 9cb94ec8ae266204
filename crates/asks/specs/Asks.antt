-- What the host is asked for (document 01, "How the host answers": open or seal, with key, nonce, additional data and the part
-- concerned; "Bytes on the wire": the packet nonce is the sequence, a challenge token has no additional data).
use Rattle.std.specs.Prelude.{ℕ, ◌+◌, Bool, not, ◌||◌, List, eqb, ltb, Option, unwrap_or}
use Rattle.serialize.specs.Runs.{zeros}
use Rattle.prefix.specs.Sealed.{additional_data, packet_nonce}
use Rattle.asks.specs.declared.Ask.{Ask}
use Rattle.asks.specs.declared.Work.{Work}
use Rattle.asks.specs.declared.Work.TheVariants.{Open}

abbrev pub ask : Work → List ℕ → List ℕ → List ℕ → ℕ → ℕ → ℕ → Ask
ask work key nonce additional size start end =
    record { work = work; key = key; nonce = nonce; additional = additional; size = size; start = start; end = end }

-- beside an answer that asks for nothing
abbrev pub no_ask : Ask
no_ask = ask Open (zeros 32) (zeros 12) (zeros 22) 0 0 0

-- a packet: its sequence is the nonce; version, protocol and prefix byte are the additional data
abbrev pub packet_ask : Work → List ℕ → ℕ → ℕ → ℕ → ℕ → ℕ → Ask
packet_ask work key sequence prefix protocol start end = ask work key (packet_nonce sequence) (additional_data prefix protocol) 22 start end

-- a challenge token: its own sequence is the nonce
abbrev pub token_ask : Work → List ℕ → ℕ → ℕ → ℕ → Ask
token_ask work key sequence start end = ask work key (packet_nonce sequence) (zeros 22) 0 start end

-- a key that may be missing: where it is, zeros stand for it, and are not looked at
abbrev pub key_bytes : Option (List ℕ) → List ℕ
key_bytes key = unwrap_or key (zeros 32)

-- an answer lends the same buffers, and acts on its ask's place: 18 where room, the length that it lends, is not the ask's, or where
-- the ask's buffer does not have the n bytes from at on that it speaks of
abbrev pub unlike : ℕ → ℕ → ℕ → ℕ → Bool
unlike at n len room = not (eqb room len) || ltb len (at + n)
