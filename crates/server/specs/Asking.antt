-- What the host is asked for (document 01, "How the host answers": open or seal, with key, nonce, additional data and the part concerned;
-- "Bytes on the wire": the private token has the request's nonce, and version, protocol, expiry for additional data).
use Rattle.std.specs.Prelude.{ℕ, List, ◌++◌}
use Rattle.serialize.specs.Runs.{part, zeros}
use Rattle.prefix.specs.Sealed.{token_additional_data}
use Rattle.asks.specs.declared.Work.{Work}
use Rattle.asks.specs.declared.Work.TheVariants.{Open, Seal}
use Rattle.asks.specs.declared.Ask as packet
use Rattle.server.specs.declared.Ask.{Ask}
use Rattle.server.specs.declared.Buffer.{Buffer}
use Rattle.server.specs.declared.Buffer.TheVariants.{Datagram, Output}

abbrev pub ask : Work → Buffer → List ℕ → List ℕ → ℕ → List ℕ → ℕ → ℕ → ℕ → Ask
ask work buffer key nonce nonceSize additional size start end =
    record { work = work; buffer = buffer; key = key; nonce = nonce; nonce_size = nonceSize; additional = additional; size = size; start = start; end = end }

-- beside an answer that asks for nothing
abbrev pub no_ask : Ask
no_ask = ask Open Datagram (zeros 32) (zeros 24) 0 (zeros 29) 0 0 0

-- what is opened stands in the datagram, what is sealed in the output
unfoldable pub buffer_of : Work → Buffer
buffer_of Open = Datagram
buffer_of Seal = Output

-- the ask for a packet or a challenge token: a nonce of 12 bytes, additional data of up to 22, zeros after them
unfoldable pub asked : packet.Ask → Ask
asked a =
    ask a.work (buffer_of a.work) a.key (part a.nonce 0 12 ++ zeros 12) 12 (part a.additional 0 22 ++ zeros 7) a.size a.start a.end

-- the ask for a request's private token: its 1,024 bytes, after prefix 1, version 13, protocol 8, expiry 8 and nonce 24
unfoldable pub private_token_ask : List ℕ → ℕ → ℕ → List ℕ → Ask
private_token_ask key protocol expiry nonce = ask Open Datagram key nonce 24 (token_additional_data protocol expiry) 29 54 1078
