-- Each way out of a test is a case of its definition, and an answer that no test refuses has the tables and the output that it asks for.
use Rattle.std.specs.Prelude.{Option, Some, None, is_some, zero, suc, Result}
use Rattle.std.specs.Result.{is_err}
use mathlib.Core.Path.{◌≡◌, refl, sym, ap, ◌∙◌}
use mathlib.Core.Bool.{Bool, true, false, not, ◌||◌, true≢false}
use Prim.Native.Nat.{ℕ, ◌%◌, ◌≤◌, ◌<◌}
use native.Mathlib.Omega.{arith}
use mathlib.Core.List.{List}
use lib.ListN.{length}
use lib.Dec.{eqb, ltb}
use borrow.Author.Tests.{eq-eqb, ne_eqb, lt-ltb, le-ltb, ltb-false}
use Rattle.serialize.specs.Choice.{pick}
use Rattle.serialize.proofs.Choice.{by_test}
use Rattle.refusal.specs.Verdicts.{verdict}
use Rattle.asks.proofs.Lent.{told}
use Rattle.addresses.specs.declared.Address.{Address}
use Rattle.addresses.specs.Addresses as addresses
use Rattle.places.specs.Layout.{Shaped}
use Rattle.places.specs.Finds.{find_address, find_id, find_free}
use Rattle.records.specs.Records.{emptied}
use Rattle.entries.specs.Layout as entry
use Rattle.server.specs.declared.NetcodeServer.{NetcodeServer}
use Rattle.server.specs.declared.SetUp.{SetUp}
use Rattle.server.specs.Ready.{all_refusal, answer_refusal}
use Rattle.server.proofs.Ways.{first_refuses, second_decides}
use Rattle.server.proofs.Inversions.{neither, answer_fits, all_shaped}
use Rattle.turns.specs.Outcomes.{State, state, open_refusal, open_verdict}
use Rattle.turns.proofs.Ways.{open_tested}
use Rattle.grants.specs.Tokens.{dropped, is_connected, no_place}
use Rattle.grants.specs.Grants.{list_unfit, fields_refusal, grant_refusal, foreign}

-- ---- the fields of a yes

told_err : (n : ℕ) → is_err (verdict n) ≡ not (eqb n 0)
unfolding verdict
told_err zero = refl
told_err (suc n) = simp (ne_eqb (suc n) 0 (λ e. omega (arith, e)))

-- a test refuses where its number is not 0
pub err_told : (n : ℕ) (x : Result (Unit {0}) ℕ) → x ≡ verdict n → is_err x ≡ not (eqb n 0)
err_told n x e = ap is_err e ∙ told_err n

module _ (list : List ℕ) where
  pub list_uneven : (length list % 3 ≡ 0 → ⊥) → true ≡ list_unfit list
  unfolding list_unfit
  list_uneven n = simp (ne_eqb (length list % 3) 0 n)

  module _ (even : length list % 3 ≡ 0) (k : ℕ) (counted : k ≡ addresses.count list) where
    pub list_long : 32 < k → true ≡ list_unfit list
    unfolding list_unfit
    list_long h = simp (eq-eqb (length list % 3) 0 even, lt-ltb 32 (addresses.count list) (omega arith))

    pub list_told : k ≤ 32 → (r : ℕ) → r ≡ addresses.list_refusal list → not (eqb r 0) ≡ list_unfit list
    unfolding list_unfit
    list_told h r e =
        ap (λ (x : ℕ). not (eqb x 0)) e ∙ simp (eq-eqb (length list % 3) 0 even, le-ltb 32 (addresses.count list) (omega arith))

module _ (given : Bool) (list : List ℕ) where
  pub fields_none : given ≡ false → 0 ≡ fields_refusal given list
  unfolding fields_refusal pick
  fields_none g = simp g

  module _ (g : given ≡ true) (u : Bool) (tested : u ≡ list_unfit list) where
    pub fields_refused : u ≡ true → 18 ≡ fields_refusal given list
    unfolding fields_refusal pick
    fields_refused e = simp (g, told tested e)

    pub fields_pass : u ≡ false → 0 ≡ fields_refusal given list
    unfolding fields_refusal pick
    fields_pass e = simp (g, told tested e)

-- ---- the answer

pub tables_tested : (t : State) (entries public datagram out : ℕ) (tables : Result (Unit {0}) ℕ)
    → tables ≡ verdict (all_refusal t.server.set (length t.slots) (length t.pending) entries public)
    → (r : Result (Unit {0}) ℕ) → r ≡ open_verdict t.server tables 2 datagram out
    → r ≡ verdict (open_refusal t.server (all_refusal t.server.set (length t.slots) (length t.pending) entries public) 2 datagram out)
tables_tested t entries public datagram out tables e r f =
    open_tested t.server (all_refusal t.server.set (length t.slots) (length t.pending) entries public) 2 datagram out tables r e f

-- tables is the number of the tables' test, r that of the shared one

module _ (t : State) (entries public datagram out : ℕ) (given : Bool) (list : List ℕ) (tables : ℕ)
    (tabled : tables ≡ all_refusal t.server.set (length t.slots) (length t.pending) entries public)
    (r : ℕ) (tested : r ≡ open_refusal t.server tables 2 datagram out) where
  abbrev first : ℕ
  first = open_refusal t.server (all_refusal t.server.set (length t.slots) (length t.pending) entries public) 2 datagram out

  same_first : r ≡ first
  same_first = tested ∙ ap (λ (x : ℕ). open_refusal t.server x 2 datagram out) tabled

  pub shared_refuses : (r ≡ 0 → ⊥) → r ≡ grant_refusal t entries public datagram out given list
  unfolding grant_refusal
  shared_refuses n = first_refuses first (fields_refusal given list) r same_first n

  pub fields_decide : r ≡ 0 → (f : ℕ) → f ≡ fields_refusal given list → f ≡ grant_refusal t entries public datagram out given list
  unfolding grant_refusal
  fields_decide z f e = second_decides first (fields_refusal given list) r same_first z f e

-- where nothing refuses, the tables are set-up's and the output is a datagram's
module _ (s : NetcodeServer) (slots pending entries public : List ℕ) (datagram : ℕ) (out : List ℕ) (given : Bool) (list : List ℕ) where
  wide : (b : Bool) → ltb (length out) 1400 ≡ b → pick {A = ℕ} b 18 0 ≡ 0 → 1400 ≤ length out
  unfolding pick
  wide false e h = ltb-false (length out) 1400 e
  wide true e h = absurd (omega arith)

  pub grantable : (n : ℕ) → n ≡ grant_refusal (state s slots pending) (length entries) (length public) datagram (length out) given list → n ≡ 0
      → Shaped slots s.set.slots × Shaped pending s.set.pending × entry.Shaped entries s.set.entries × (1400 ≤ length out)
  unfolding grant_refusal open_refusal
  grantable n tested h =
      let tables : ℕ = all_refusal s.set (length slots) (length pending) (length entries) (length public) in
      let k = neither (open_refusal s tables 2 datagram (length out)) (fields_refusal given list) (told tested h) in
      let l = neither (answer_refusal s.ask tables 2 s.set datagram (length out)) (pick (ltb (length out) 1400) 18 0) k.0 in
      let shaped = all_shaped s.set slots pending entries public (answer_fits s.ask tables 2 s.set datagram (length out) l.0).tabled in
      (shaped.0, shaped.1, shaped.2, wide (ltb (length out) 1400) refl l.1)

-- ---- 13

module _ (set : SetUp) (list public : List ℕ) where
  pub foreign_never : set.secure ≡ false → false ≡ foreign set list public
  unfolding foreign
  foreign_never e = simp e

  module _ (e : set.secure ≡ true) (o : Bool) (tested : o ≡ addresses.any_ours list public) where
    pub foreign_not : o ≡ true → false ≡ foreign set list public
    unfolding foreign
    foreign_not h = simp (e, told tested h)

    pub foreign_all : o ≡ false → true ≡ foreign set list public
    unfolding foreign
    foreign_all h = simp (e, told tested h)

    pub foreign_told : not o ≡ foreign set list public
    foreign_told = by_test o (λ h. ap not h ∙ foreign_not h) (λ h. ap not h ∙ foreign_all h)

-- ---- searches

pub found_at : (f : Option ℕ) (i : ℕ) → f ≡ Some i → true ≡ addresses.is_found f
unfolding addresses.is_found
found_at f i e = sym (ap addresses.is_found e)

pub found_not : (f : Option ℕ) → f ≡ None → false ≡ addresses.is_found f
unfolding addresses.is_found
found_not f e = sym (ap addresses.is_found e)

pub found_told : (f : Option ℕ) → is_some f ≡ addresses.is_found f
unfolding addresses.is_found
found_told None = refl
found_told (Some i) = refl

pub none_told : (f : Option ℕ) (b : Bool) → is_some f ≡ not b → b ≡ not (addresses.is_found f)
unfolding addresses.is_found
none_told None true e = refl
none_told None false e = absurd (true≢false (sym e))
none_told (Some i) false e = refl
none_told (Some i) true e = absurd (true≢false e)

-- f and g are what the searches gave, b and d whether they found
module _ (s : NetcodeServer) (slots : List ℕ) (addr : Address) (id : ℕ) (f : Option ℕ) (searched : f ≡ find_address slots s.set.slots addr)
    (b : Bool) (tested : b ≡ addresses.is_found f) where
  by_address : b ≡ addresses.is_found (find_address slots s.set.slots addr)
  by_address = tested ∙ ap addresses.is_found searched

  pub connected_by_address : b ≡ true → true ≡ is_connected s slots addr id
  unfolding is_connected
  connected_by_address h = simp (told by_address h)

  pub connected_by_id : b ≡ false → (g : Option ℕ) → g ≡ find_id slots s.set.slots id → (d : Bool) → d ≡ addresses.is_found g
      → d ≡ is_connected s slots addr id
  unfolding is_connected
  connected_by_id h g e d k = k ∙ ap addresses.is_found e ∙ simp (told by_address h)

module _ (s : NetcodeServer) (pending : List ℕ) (addr : Address) (f : Option ℕ) (searched : f ≡ find_address pending s.set.pending addr)
    (b : Bool) (tested : b ≡ addresses.is_found f) where
  waiting : b ≡ addresses.is_found (find_address pending s.set.pending addr)
  waiting = tested ∙ ap addresses.is_found searched

  pub place_pending : b ≡ true → false ≡ no_place s pending addr
  unfolding no_place
  place_pending h = simp (told waiting h)

  pub place_free : b ≡ false → (g : Option ℕ) → g ≡ find_free pending s.set.pending → (d : Bool) → d ≡ addresses.is_found g
      → not d ≡ no_place s pending addr
  unfolding no_place
  place_free h g e d k = ap not (k ∙ ap addresses.is_found e) ∙ simp (told waiting h)

-- the first of two, or the second
pub either_first : (a b x : Bool) → x ≡ a → x ≡ true → true ≡ a || b
either_first a b x e h = simp (told e h)

pub either_second : (a b x : Bool) → x ≡ a → x ≡ false → (y : Bool) → y ≡ b → y ≡ a || b
either_second a b x e h y k = k ∙ simp (told e h)

-- the place that is emptied, if there is one
module _ (pending : List ℕ) (m : ℕ) (addr : Address) (f : Option ℕ) (searched : f ≡ find_address pending m addr) where
  pub place_dropped : (j : ℕ) → f ≡ Some j → (u : List ℕ) → u ≡ emptied pending j → u ≡ dropped pending (find_address pending m addr)
  unfolding dropped
  place_dropped j h u e = e ∙ ap (dropped pending) (told h searched)

  pub none_dropped : f ≡ None → pending ≡ dropped pending (find_address pending m addr)
  unfolding dropped
  none_dropped h = ap (dropped pending) (told h searched)
