-- An answer's nine words say all of it: the case stands first, and each value has a word of its own.
use mathlib.Core.Path.{◌≡◌, refl, sym, ap, ap₂, ◌∙◌}
use native.Mathlib.Omega.{arith}
use Prim.Native.Nat.{ℕ, ◌<◌}
use mathlib.Core.List.{List}
use lib.ListN.{get_or}
use lib.Dec.{eqb}
use Rattle.std.specs.Prelude.{Option, None, Some, zero, suc}
use Rattle.serialize.specs.Choice.{pick}
use Rattle.refusal.specs.declared.Why.{Why}
use Rattle.refusal.specs.Numbers.{number_of as number_of_why}
use Rattle.refusal.specs.Back.{number_in_table}
use Rattle.addresses.specs.declared.Address.{Address}
use Rattle.addresses.specs.Addresses.{of_words}
use Rattle.addresses.proofs.Meaning.{words_read_back}
use Rattle.server.specs.declared.Answer.{Answer}
use Rattle.server.specs.declared.Answer.TheVariants.{Refused, Nothing, Ask, PacketToSend, Payload, ClientConnected, ClientDisconnected}
use Rattle.server.specs.Answers.{number_of, told, words_of}

-- the address in words 4 to 6
address_in : List ℕ → Address
address_in w = of_words (get_or w 4 0) (get_or w 5 0) (get_or w 6 0)

-- the refusal that a number stands for: 0 for none
refusal_in : ℕ → Option ℕ
refusal_in zero = None
refusal_in (suc n) = Some (suc n)

-- the answer that nine words are
answer_in : List ℕ → Answer
answer_in w =
    pick (eqb (get_or w 0 0) 0) (Refused (get_or w 1 0))
    (pick (eqb (get_or w 0 0) 1) Nothing
    (pick (eqb (get_or w 0 0) 2) Ask
    (pick (eqb (get_or w 0 0) 3) (PacketToSend (address_in w) (get_or w 8 0))
    (pick (eqb (get_or w 0 0) 4) (Payload (get_or w 2 0) (get_or w 7 0) (get_or w 8 0))
    (pick (eqb (get_or w 0 0) 5) (ClientConnected (get_or w 2 0) (get_or w 3 0) (address_in w) (get_or w 8 0))
    (ClientDisconnected (get_or w 2 0) (address_in w) (get_or w 8 0) (refusal_in (get_or w 1 0))))))))

-- an address as the code's types have it
pub record Fits (a : Address) : Type 0 where
  pub kind : a.kind < 256
  pub port : a.port < 65536

-- a refusal that there may be, as the code's type has it: a refusal's number is not 0
abbrev pub Numbered : Option ℕ → Type 0
Numbered None = Unit {0}
Numbered (Some n) = 0 < n

pub record Ended (a : Address) (refusal : Option ℕ) : Type 0 where
  pub fits : Fits a
  pub numbered : Numbered refusal

-- the address of an answer, where it has one, fits, and so does the refusal of a record that ended
unfoldable pub Formed : Answer → Type 0
Formed (Refused n) = Unit {0}
Formed Nothing = Unit {0}
Formed Ask = Unit {0}
Formed (PacketToSend addr end) = Fits addr
Formed (Payload id start end) = Unit {0}
Formed (ClientConnected id slot addr end) = Fits addr
Formed (ClientDisconnected id addr end refusal) = Ended addr refusal

-- which every refusal of the code's type has
pub numbered_always : (w : Why) → Numbered (Some (number_of_why w))
numbered_always w = omega (arith, (number_in_table w).0)

numbered_back : (refusal : Option ℕ) → Numbered refusal → refusal_in (told refusal) ≡ refusal
unfolding refusal_in
numbered_back None f = refl
numbered_back (Some zero) f = absurd (omega (arith, f))
numbered_back (Some (suc n)) f = refl

reads : (a : Answer) → Formed a → answer_in (words_of a) ≡ a
unfolding answer_in address_in words_of Formed pick
reads (Refused n) f = refl
reads Nothing f = refl
reads Ask f = refl
reads (PacketToSend addr end) f = ap (λ (a : Address). PacketToSend a end) (words_read_back addr f.kind f.port)
reads (Payload id start end) f = refl
reads (ClientConnected id slot addr end) f = ap (λ (a : Address). ClientConnected id slot a end) (words_read_back addr f.kind f.port)
reads (ClientDisconnected id addr end refusal) f =
    ap₂ (λ (a : Address) (r : Option ℕ). ClientDisconnected id a end r) (words_read_back addr f.fits.kind f.fits.port) (numbered_back refusal f.numbered)

-- two answers with the same words are one
pub words_tell : (a b : Answer) → Formed a → Formed b → words_of a ≡ words_of b → a ≡ b
words_tell a b f g e = sym (reads a f) ∙ ap answer_in e ∙ reads b g

-- the second word is the number
pub number_told : (a : Answer) → get_or (words_of a) 1 0 ≡ number_of a
unfolding words_of number_of
number_told (Refused n) = refl
number_told Nothing = refl
number_told Ask = refl
number_told (PacketToSend addr end) = refl
number_told (Payload id start end) = refl
number_told (ClientConnected id slot addr end) = refl
number_told (ClientDisconnected id addr end refusal) = refl
