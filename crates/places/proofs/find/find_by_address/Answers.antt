-- A walk up the places: what is left of it finds what the whole finds.
use mathlib.Core.Path.{◌≡◌, sym, ap, ◌∙◌}
use Prim.Native.Nat.{ℕ}
use Rattle.serialize.specs.Search.{first_from}
use Rattle.serialize.proofs.Search.{scan_start, scan_hit, scan_miss, scan_end}
use mathlib.Core.List.{List}
use Rattle.addresses.specs.declared.Address.{Address}
use Rattle.addresses.specs.Addresses.{first_word}
use Rattle.places.specs.Finds.{has_address, find_address}
use borrow.Author.Rules.{rules}
use Rattle.places.proofs.find.find_by_address.Goals as goal

-- the walk compares with the first word that was computed
by-words : (t : List ℕ) (n : ℕ) (a : Address) (first : ℕ) → first ≡ first_word a → find_address t n a ≡ first_from (has_address t n first a.low a.high) 0 n
by-words t n a first e = ap (λ (f : ℕ). first_from (has_address t n f a.low a.high) 0 n) (sym e)

pub loop-i-init : goal.loop-i-init
loop-i-init c = (scan_start _ _, search rules)

pub loop-i-preserved : goal.loop-i-preserved
loop-i-preserved c =
    let l = c.loop-i in
    (l.invariant.0 ∙ scan_miss _ l.i _ c.if-i-n.false (sym c.has_address.ensures ∙ c.if-has_address.false), search rules)

pub returns-then-i-n : goal.returns-then-i-n
returns-then-i-n c =
    let l = c.loop-i in
    let a = c.args in
    sym (by-words a.t.now a.n a.addr _ c.first_word-first.ensures ∙ l.invariant.0 ∙ scan_end _ l.i _ c.if-i-n.true)

pub returns-then-has_address : goal.returns-then-has_address
returns-then-has_address c =
    let l = c.loop-i in
    let a = c.args in
    sym (by-words a.t.now a.n a.addr _ c.first_word-first.ensures ∙ l.invariant.0 ∙ scan_hit _ l.i _ c.if-i-n.false (sym c.has_address.ensures ∙ c.if-has_address.true))
