-- A reply's five words say all of it: the case stands first, and each value has a word of its own.
use mathlib.Core.Path.{◌≡◌, refl, sym, ap, ◌∙◌}
use Prim.Native.Nat.{ℕ, ◌<◌}
use mathlib.Core.List.{List}
use lib.ListN.{get_or}
use lib.Dec.{eqb}
use Rattle.serialize.specs.Choice.{pick}
use Rattle.times.specs.Times.{time}
use Rattle.addresses.specs.Addresses.{of_words}
use Rattle.addresses.proofs.Meaning.{words_read_back}
use Rattle.queries.specs.declared.Reply.{Reply}
use Rattle.queries.specs.declared.Reply.TheVariants.{Refused, Nothing, Connected, Count, Addr, Since, UserData}
use Rattle.queries.specs.Replies.{number_of, words_of}

-- the reply that five words are
reply_in : List ℕ → Reply
reply_in w =
    pick (eqb (get_or w 0 0) 0) (Refused (get_or w 1 0))
    (pick (eqb (get_or w 0 0) 1) Nothing
    (pick (eqb (get_or w 0 0) 2) Connected
    (pick (eqb (get_or w 0 0) 3) (Count (get_or w 2 0))
    (pick (eqb (get_or w 0 0) 4) (Addr (of_words (get_or w 2 0) (get_or w 3 0) (get_or w 4 0)))
    (pick (eqb (get_or w 0 0) 5) (Since (time (get_or w 2 0) (get_or w 3 0))) UserData)))))

-- the address of a reply, where it has one, is as the code's types have it
unfoldable pub Formed : Reply → Type 0
Formed (Refused n) = Unit {0}
Formed Nothing = Unit {0}
Formed Connected = Unit {0}
Formed (Count n) = Unit {0}
Formed (Addr a) = (a.kind < 256) × (a.port < 65536)
Formed (Since t) = Unit {0}
Formed UserData = Unit {0}

reads : (r : Reply) → Formed r → reply_in (words_of r) ≡ r
unfolding reply_in words_of Formed pick
reads (Refused n) f = refl
reads Nothing f = refl
reads Connected f = refl
reads (Count n) f = refl
reads (Addr a) f = ap Addr (words_read_back a f.0 f.1)
reads (Since t) f = refl
reads UserData f = refl

-- two replies with the same words are one
pub words_tell : (r q : Reply) → Formed r → Formed q → words_of r ≡ words_of q → r ≡ q
words_tell r q f g e = sym (reads r f) ∙ ap reply_in e ∙ reads q g

-- the second word is the number
pub number_told : (r : Reply) → get_or (words_of r) 1 0 ≡ number_of r
unfolding words_of number_of
number_told (Refused n) = refl
number_told Nothing = refl
number_told Connected = refl
number_told (Count n) = refl
number_told (Addr a) = refl
number_told (Since t) = refl
number_told UserData = refl
