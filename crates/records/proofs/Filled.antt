-- A place that was filled reads as the record that it was filled with: each field lies in the body where its reader looks, and bytes
-- packed eight to a word are unpacked as they were.
use mathlib.Core.Path.{◌≡◌, refl, sym, ap, ap₂, ◌∙◌}
use mathlib.Core.Bool.{Bool, true, false, not}
use Prim.Native.Nat.{ℕ, ◌+◌, ◌*◌, ◌%◌, ◌<◌}
use native.Mathlib.Nat.{add-zero}
use native.Mathlib.Omega.{arith}
use mathlib.Core.List.{List}
use lib.ListN.{length, get_or}
use lib.Seq.{take_all}
use lib.Dec.{eqb}
use Rattle.serialize.specs.Choice.{pick}
use Rattle.serialize.specs.Runs.{part, Below}
use Rattle.serialize.specs.Le.{words, bytes_of}
use Rattle.serialize.proofs.Lists.{get_or_part}
use Rattle.serialize.proofs.Packed.{bytes_of_words}
use Rattle.times.specs.Times.{time}
use Rattle.addresses.specs.Addresses.{words_of, first_word, of_words}
use Rattle.addresses.proofs.Meaning.{words_read_back}
use Rattle.replay_protection.specs.Replay.{window}
use Rattle.replay_protection.specs.Stored.{window_at}
use Rattle.replay_protection.specs.Ours.{width, window_of}
use Rattle.places.specs.Layout.{Shaped, id_at, address_at, body_at, body_words, word_of, window_place}
use Rattle.places.specs.Columns.{Bodies, field, Within, field_of, id, addr}
use Rattle.places.proofs.Searches.{word_of_lem}
use Rattle.records.specs.declared.Connection.{Connection}
use Rattle.records.specs.Records.{bit, body_of, filled}
use Rattle.records.specs.Reads.{Sized, ReadsAs}
use Rattle.records.proofs.ReadBack.{placed_used, placed_id, placed_address, placed_body}

bit_reads : (b : Bool) → not (eqb (bit b) 0) ≡ b
unfolding bit pick
bit_reads true = refl
bit_reads false = refl

-- bytes packed and unpacked
unpacked : (k : ℕ) (bs : List ℕ) → Below 256 bs → length bs ≡ k * 8 → bytes_of (words k bs) ≡ bs
unpacked k bs b l = bytes_of_words k bs b (omega arith) ∙ take_all (k * 8) bs (omega arith)

module _ (c : Connection) (sized : Sized c) where
  pub body_length_lem : length (body_of c) ≡ body_words
  unfolding body_of words
  body_length_lem = omega (arith, sized.ring)

  ring_part : part (body_of c) 49 width ≡ (window_of c.replay_protection).ring
  unfolding body_of words
  ring_part = take_all width (window_of c.replay_protection).ring (omega (arith, sized.ring))

  module _ (t : List ℕ) (n i : ℕ) (shape : Shaped t n) (here : i < n) where
    u : List ℕ
    u = filled t n i c

    -- a run of the body, and a word of it
    run : (o s : ℕ) → Within (field Bodies o s) → part u (body_at n i + o) s ≡ part (body_of c) o s
    unfolding u
    run o s w = placed_body t n i shape here c.client_id (words_of c.addr) (body_of c) refl body_length_lem o s w

    word : (o : ℕ) → o < body_words → word_of u (body_at n i + o) ≡ get_or (body_of c) o 0
    word o h =
        ap (λ (j : ℕ). get_or u j 0) (sym (add-zero (body_at n i + o)))
        ∙ sym (get_or_part u (body_at n i + o) 1 0 (omega arith))
        ∙ ap (λ (l : List ℕ). get_or l 0 0) (run o 1 (omega arith))
        ∙ get_or_part (body_of c) o 1 0 (omega arith)
        ∙ ap (λ (j : ℕ). get_or (body_of c) j 0) (add-zero o)

    -- the word after it
    next : (o p : ℕ) → o + 1 ≡ p → p < body_words → word_of u (body_at n i + o + 1) ≡ get_or (body_of c) p 0
    next o p e h = let q : body_at n i + o + 1 ≡ body_at n i + p = omega arith in ap (λ (j : ℕ). get_or u j 0) q ∙ word p h

    words3 : field_of u n i addr ≡ words_of c.addr
    unfolding u
    words3 = placed_address t n i shape here c.client_id (words_of c.addr) (body_of c) refl body_length_lem

    address_word : (k : ℕ) → k < 3 → word_of u (address_at n i + k) ≡ get_or (words_of c.addr) k 0
    address_word k h =
        sym (word_of_lem u n i addr k (address_at n i + k) h (omega arith)) ∙ ap (λ (l : List ℕ). get_or l k 0) words3

    pub filled_reads : ReadsAs (filled t n i c) n i c
    unfolding u body_of words window_at
    filled_reads = record {
      used = placed_used t n i shape here c.client_id (words_of c.addr) (body_of c) refl body_length_lem;
      client_id =
          sym (word_of_lem u n i id 0 (id_at n i) (omega arith) (omega arith))
          ∙ ap (λ (l : List ℕ). get_or l 0 0) (placed_id t n i shape here c.client_id (words_of c.addr) (body_of c) refl body_length_lem);
      address =
          ap (λ (f : ℕ). of_words f (word_of u (address_at n i + 1)) (word_of u (address_at n i + 2))) (ap (λ (j : ℕ). get_or u j 0) (sym (add-zero (address_at n i))) ∙ address_word 0 (omega arith))
          ∙ ap₂ (λ (l h : ℕ). of_words (first_word c.addr) l h) (address_word 1 (omega arith)) (address_word 2 (omega arith))
          ∙ words_read_back c.addr sized.kind sized.port;
      confirmed = ap (λ (w : ℕ). not (eqb w 0)) (word 0 (omega arith)) ∙ bit_reads c.confirmed;
      send_key = ap bytes_of (run 1 4 (omega arith)) ∙ unpacked 4 c.send_key sized.send_bytes sized.send;
      receive_key = ap bytes_of (run 5 4 (omega arith)) ∙ unpacked 4 c.receive_key sized.receive_bytes sized.receive;
      received = ap₂ time (word 9 (omega arith)) (next 9 10 refl (omega arith));
      sent = ap₂ time (word 11 (omega arith)) (next 11 12 refl (omega arith));
      timeout = ap (λ (w : ℕ). w % 4294967296) (word 13 (omega arith)) ∙ small c.timeout_seconds sized.timeout;
      sequence = word 14 (omega arith);
      expiry = word 15 (omega arith);
      user_data = ap bytes_of (run 16 32 (omega arith)) ∙ unpacked 32 c.user_data sized.user_bytes sized.user;
      replay = ap₂ window (word 48 (omega arith)) (ap (λ (j : ℕ). part u j width) after ∙ run 49 width (omega arith) ∙ ring_part);
    }
      where
        small : (w : ℕ) → w < 4294967296 → w % 4294967296 ≡ w
        small w h = omega arith

        after : window_place n i + 1 ≡ body_at n i + 49
        after = omega arith
