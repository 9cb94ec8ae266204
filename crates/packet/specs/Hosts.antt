-- A host that keeps its word, and its work on an ask (document 01, "How the host answers": it works in place and answers yes or no;
-- demand 3: it says yes to what was sealed, giving its plaintext). Theorems speak of any such host; no code does.
use Rattle.std.specs.Prelude.{ℕ, ◌+◌, ◌-◌, ◌≡◌, true, List, length, take, Option, Some}
use Rattle.serialize.specs.Runs.{part, splice}
use Rattle.replay_protection.specs.declared.ReplayProtection.{ReplayProtection}
use Rattle.bodies.specs.declared.Packet.{Packet}
use Rattle.bodies.specs.Bodies.{kind_of, takes, body, beside}
use Rattle.asks.specs.declared.Ask.{Ask}
use Rattle.asks.specs.declared.Work.TheVariants as work
use Rattle.decode.specs.declared.Decoding.TheVariants.{Asked, Read}
use Rattle.encode.specs.Encodes.{Done}
use Rattle.decode.specs.Decodes.{decoded_as, ended, opening_as, opened, guard_accepts, decode, answer_open}

-- what a host says to an ask to open: no, or yes with the text
pub data Said : Type 0 where
  No : Said
  Yes : List ℕ → Said

-- of key, nonce, additional data and text: a seal is 16 bytes longer than its text, and opens to that text again
pub record Host : Type 0 where
  pub seal : List ℕ → List ℕ → List ℕ → List ℕ → List ℕ
  pub opens : List ℕ → List ℕ → List ℕ → List ℕ → Said
  pub tagged : (key nonce additional text : List ℕ) → length (seal key nonce additional text) ≡ length text + 16
  pub honest : (key nonce additional text : List ℕ) → opens key nonce additional (seal key nonce additional text) ≡ Yes text

-- the additional data that an ask means
abbrev pub meant : Ask → List ℕ
meant a = take a.size a.additional

-- the buffer once the host has sealed the ask's part in place: its text is all of the part but the 16 tag places
abbrev pub sealed_in : Host → Ask → List ℕ → List ℕ
sealed_in h a out = splice out a.start (h.seal a.key a.nonce (meant a) (part out a.start (a.end - 16 - a.start)))

-- what the host says of the ask's part, and the buffer once it has opened it in place to a text
abbrev pub said_of : Host → Ask → List ℕ → Said
said_of h a d = h.opens a.key a.nonce (meant a) (part d a.start (a.end - a.start))

abbrev pub opened_in : Ask → List ℕ → List ℕ → List ℕ
opened_in a d text = splice d a.start text

-- the datagram that an encode leads to, once the host has sealed it
abbrev pub sent : Host → Done → List ℕ
sent h e = part (sealed_in h e.encoded.ask e.out) 0 e.encoded.ask.end

-- the same ask, to open
abbrev pub reopened : Ask → Ask
reopened a = record { work = work.Open; key = a.key; nonce = a.nonce; additional = a.additional; size = a.size; start = a.start; end = a.end }

-- a datagram d that was sealed by ask a is read back as its packet, under its sequence, with its bytes beside it
pub record ReadBack (h : Host) (packet : Packet) (bytes : List ℕ) (protocol : ℕ) (key : Option (List ℕ)) (sequence : ℕ) (guard : Option ReplayProtection) (a : Ask) (d : List ℕ) : Type 0 where
  -- decode asks to open what was sealed, under the same key, nonce and additional data; the window is as it was
  pub asks : decode d protocol key guard ≡ decoded_as Asked (reopened a) (Some (opening_as (kind_of packet) sequence a.start (length d))) guard
  -- the host says yes
  pub agrees : said_of h (reopened a) d ≡ Yes (body packet bytes)
  -- and its answer gives the packet with its sequence, and the window with the sequence accepted
  pub reads : answer_open (Some (opening_as (kind_of packet) sequence a.start (length d))) (opened_in (reopened a) d (body packet bytes)) guard true
      ≡ ended (Read (opened sequence packet a.start (length d - 16))) (guard_accepts (kind_of packet) guard sequence)
  -- the body's place holds the bytes beside it
  pub holds : beside (kind_of packet) (part (opened_in (reopened a) d (body packet bytes)) a.start (length d - 16 - a.start)) ≡ part bytes 0 (takes (kind_of packet) (length bytes))
