-- Any two outcomes that satisfy a promise coincide (document 01, "What every promise pins down"): each promise is an equation for
-- all that a call can change. `Post` is the function's `ensures`, of its arguments a, its result x and its slices at exit e.
use mathlib.Core.Path.{◌≡◌, sym, ◌∙◌}
use Rattle.serialize.proofs.number.read_u16.Reads as read-u16
use Rattle.serialize.proofs.number.read_u32.Reads as read_u32
use Rattle.serialize.proofs.number.read_u64.Reads as read_u64
use Rattle.serialize.proofs.bytes.same_bytes.Reads as same_bytes
use Rattle.serialize.proofs.number.write_u16.Reads as write-u16
use Rattle.serialize.proofs.number.write_u32.Reads as write-u32
use Rattle.serialize.proofs.number.write_u64.Reads as write-u64
use Rattle.serialize.proofs.words.pack_words.Reads as pack-words
use Rattle.serialize.proofs.runs.copy.Reads as copy
use Rattle.serialize.proofs.runs.fill.Reads as fill
use Rattle.serialize.proofs.words.unpack_words.Reads as unpack-words

-- the one law
pub coincide : {A : Type 0} {x y z : A} → x ≡ z → y ≡ z → x ≡ y
coincide p q = p ∙ sym q

-- ---- functions that return a value and write nothing: two results of the same call are equal

pub read_u16_determined : (κs : _) (a : _) (x y : _) (e f : _) → read-u16.Post κs a x e → read-u16.Post κs a y f → x ≡ y
read_u16_determined κs a x y e f p q = coincide p q

pub read_u32_determined : (κs : _) (a : _) (x y : _) (e f : _) → read_u32.Post κs a x e → read_u32.Post κs a y f → x ≡ y
read_u32_determined κs a x y e f p q = coincide p q

pub read_u64_determined : (κs : _) (a : _) (x y : _) (e f : _) → read_u64.Post κs a x e → read_u64.Post κs a y f → x ≡ y
read_u64_determined κs a x y e f p q = coincide p q

pub same_bytes_determined : (κs : _) (a : _) (x y : _) (e f : _) → same_bytes.Post κs a x e → same_bytes.Post κs a y f → x ≡ y
same_bytes_determined κs a x y e f p q = coincide p q

-- ---- functions that write their first slice: two lists left there by the same call are equal

pub write_u16_determined : (κs : _) (a : _) (x y : _) (e f : _) → write-u16.Post κs a x e → write-u16.Post κs a y f → e.0.now ≡ f.0.now
write_u16_determined κs a x y e f p q = coincide p q

pub write_u32_determined : (κs : _) (a : _) (x y : _) (e f : _) → write-u32.Post κs a x e → write-u32.Post κs a y f → e.0.now ≡ f.0.now
write_u32_determined κs a x y e f p q = coincide p q

pub write_u64_determined : (κs : _) (a : _) (x y : _) (e f : _) → write-u64.Post κs a x e → write-u64.Post κs a y f → e.0.now ≡ f.0.now
write_u64_determined κs a x y e f p q = coincide p q

pub pack_words_determined : (κs : _) (a : _) (x y : _) (e f : _) → pack-words.Post κs a x e → pack-words.Post κs a y f → e.0.now ≡ f.0.now
pack_words_determined κs a x y e f p q = coincide p q

pub unpack_words_determined : (κs : _) (a : _) (x y : _) (e f : _) → unpack-words.Post κs a x e → unpack-words.Post κs a y f → e.0.now ≡ f.0.now
unpack_words_determined κs a x y e f p q = coincide p q

-- at any type of elements, with what its bounds bring

pub copy_determined : (T b₁ b₂ b₃ b₄ : _) (κs : _) (a : _) (x y : _) (e f : _) → copy.Post T b₁ b₂ b₃ b₄ κs a x e → copy.Post T b₁ b₂ b₃ b₄ κs a y f → e.0.now ≡ f.0.now
copy_determined T b₁ b₂ b₃ b₄ κs a x y e f p q = coincide p q

pub fill_determined : (T b₁ b₂ b₃ b₄ : _) (κs : _) (a : _) (x y : _) (e f : _) → fill.Post T b₁ b₂ b₃ b₄ κs a x e → fill.Post T b₁ b₂ b₃ b₄ κs a y f → e.0.now ≡ f.0.now
fill_determined T b₁ b₂ b₃ b₄ κs a x y e f p q = coincide p q
