-- Every write of a record is a store or a splice of one of its fields, so the laws of fields say what it leaves: filling, emptying and
-- moving leave the other places, and a store to a body changes no search.
use mathlib.Core.Path.{◌≡◌}
use Prim.Native.Nat.{ℕ, ◌+◌, ◌<◌}
use native.Mathlib.Omega.{arith}
use mathlib.Core.List.{List, ◌∷◌}
use lib.ListN.{length, set, length-set}
use Rattle.serialize.specs.Runs.{splice}
use Rattle.times.specs.declared.Time.{Time}
use Rattle.replay_protection.specs.Replay.{Window}
use Rattle.replay_protection.specs.Stored.{put_window}
use Rattle.replay_protection.specs.Ours.{width}
use Rattle.places.specs.Layout.{Shaped, id_at, address_at, body_at, body_words, window_place}
use Rattle.places.specs.Columns.{Bodies, field, Within, mark, id, addr, window, Elsewhere, SameColumns}
use Rattle.places.proofs.Frame.{shaped_kept, elsewhere_trans, elsewhere_put, elsewhere_store}
use Rattle.places.proofs.Same.{body_put, body_store, same_trans}
use Rattle.records.specs.Records.{put_time, placed, emptied}

module _ (t : List ℕ) (n i : ℕ) (shape : Shaped t n) (here : i < n) where
  -- emptying
  pub emptied_elsewhere : Elsewhere n i t (emptied t i)
  emptied_elsewhere = elsewhere_store t n i shape here mark (omega arith) 0 i 0 (omega arith) (omega arith)

  -- filling and moving: id, address, body, mark
  pub placed_elsewhere : (x : ℕ) (words body : List ℕ) → length words ≡ 3 → length body ≡ body_words → Elsewhere n i t (placed t n i x words body)
  unfolding placed
  placed_elsewhere x words body p q =
      let e1 = elsewhere_store t n i shape here id (omega arith) 0 (id_at n i) x (omega arith) (omega arith) in
      let s1 = shaped_kept e1.long shape in
      let t1 = set t (id_at n i) x in
      let e2 = elsewhere_put t1 n i s1 here addr (omega arith) (address_at n i) (omega arith) words p in
      let t2 = splice t1 (address_at n i) words in
      let s2 = shaped_kept e2.long s1 in
      let e3 = elsewhere_put t2 n i s2 here (field Bodies 0 body_words) (omega arith) (body_at n i) (omega arith) body q in
      let t3 = splice t2 (body_at n i) body in
      let s3 = shaped_kept e3.long s2 in
      let e4 = elsewhere_store t3 n i s3 here mark (omega arith) 0 i 1 (omega arith) (omega arith) in
      elsewhere_trans e1 (elsewhere_trans e2 (elsewhere_trans e3 e4))

  -- a time, stored in two words of a body from offset o on
  module _ (o : ℕ) (inside : Within (field Bodies o 2)) (v : Time) where
    pub time_elsewhere : Elsewhere n i t (put_time t (body_at n i + o) v)
    time_elsewhere =
        let e1 = elsewhere_store t n i shape here (field Bodies o 2) inside 0 (body_at n i + o) v.secs (omega arith) (omega arith) in
        let s1 = shaped_kept e1.long shape in
        let t1 = set t (body_at n i + o) v.secs in
        let e2 = elsewhere_store t1 n i s1 here (field Bodies o 2) inside 1 (body_at n i + o + 1) v.nanos (omega arith) (omega arith) in
        elsewhere_trans e1 e2

    pub time_same : SameColumns n t (put_time t (body_at n i + o) v)
    time_same =
        let t1 = set t (body_at n i + o) v.secs in
        let s1 = shaped_kept (length-set t (body_at n i + o) v.secs) shape in
        let c1 = body_store t n i shape here o 2 inside 0 (body_at n i + o) v.secs (omega arith) (omega arith) in
        let c2 = body_store t1 n i s1 here o 2 inside 1 (body_at n i + o + 1) v.nanos (omega arith) (omega arith) in
        same_trans c1 c2

  -- the window
  module _ (win : Window) (full : length win.ring ≡ width) where
    pub window_elsewhere : Elsewhere n i t (put_window t (window_place n i) win)
    unfolding put_window
    window_elsewhere = elsewhere_put t n i shape here window (omega arith) (window_place n i) (omega arith) (win.most ∷ win.ring) (omega arith)

    pub window_same : SameColumns n t (put_window t (window_place n i) win)
    unfolding put_window
    window_same = body_put t n i shape here 48 (1 + width) (omega arith) (window_place n i) (omega arith) (win.most ∷ win.ring) (omega arith)
