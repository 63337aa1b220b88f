-- Laws of loadHalf and storeHalf: what is stored is read back, and half-words with no byte in common are independent. A half-word is two
-- bytes, so each law is the law of one store, twice.
use Prim.Native.Nat.{ℕ, ◌+◌, ◌*◌, ◌/◌, ◌%◌, ◌<◌}
use mathlib.Core.Path.{◌≡◌, refl, sym, ◌∙◌, ap}
use mathlib.Core.Logic.{◌≢◌, ◌⊎◌, inl, inr}
use mathlib.Core.List.{List}
use native.Mathlib.Omega.{arith}
use native.Mathlib.Nat.{div-add-mod'}
use lib.ListN.{length, get_or, set, length-set}
use lib.Seq.{get_or-set_same, get_or-set_other, set_comm}
use Rattle.ram.specs.Ram.{load_half, store_half}

-- the half-words at a and at b have no byte in common
abbrev pub Apart : ℕ → ℕ → Type 0
Apart a b = (a + 1 < b) ⊎ (b + 1 < a)

pub apart_sym : {a b : ℕ} → Apart a b → Apart b a
apart_sym (inl h) = inr h
apart_sym (inr h) = inl h

-- an address apart from a, byte by byte
pub apart_ne : {a b : ℕ} → Apart a b → (b ≢ a) × (b ≢ a + 1) × (b + 1 ≢ a) × (b + 1 ≢ a + 1)
apart_ne (inl h) = omega arith
apart_ne (inr h) = omega arith

-- the two bytes of a half-word
pub record Bytes : Type 0 where
  pub high : ℕ
  pub low : ℕ

abbrev pub split : ℕ → Bytes
split v = record { high = v / 256; low = v % 256 }

abbrev pub joined : Bytes → ℕ
joined b = b.high * 256 + b.low

pub joined_split : (v : ℕ) → joined (split v) ≡ v
joined_split v = div-add-mod' v 256

pub split_inj : {v w : ℕ} → split v ≡ split w → v ≡ w
split_inj {v} {w} e = sym (joined_split v) ∙ ap joined e ∙ joined_split w

abbrev pub bytes : List ℕ → ℕ → Bytes
bytes m a = record { high = get_or m a 0; low = get_or m (a + 1) 0 }

pub half-bytes : (m : List ℕ) (a : ℕ) → load_half m a ≡ joined (bytes m a)
unfolding load_half
half-bytes m a = refl

module _ (m : List ℕ) (a v : ℕ) where
  pub length-store_half : length (store_half m a v) ≡ length m
  unfolding store_half
  length-store_half = simp length-set

  pub byte_stored_other : (b : ℕ) → b ≢ a → b ≢ a + 1 → get_or (store_half m a v) b 0 ≡ get_or m b 0
  unfolding store_half
  byte_stored_other b h k = rw (get_or-set_other, get_or-set_other)

  pub bytes_stored_same : a + 1 < length m → bytes (store_half m a v) a ≡ split v
  unfolding store_half
  bytes_stored_same h =
      let n : List ℕ = set m a (v / 256) in
      let d : a ≢ a + 1 = omega arith in
      rw (
        get_or-set_other n (a + 1) a (v % 256) 0 d,
        get_or-set_same m a (v / 256) 0 (omega arith),
        get_or-set_same n (a + 1) (v % 256) 0 (simp length-set h),
      )

  pub bytes_stored_other : (b : ℕ) → Apart a b → bytes (store_half m a v) b ≡ bytes m b
  bytes_stored_other b h =
      let n = apart_ne h in
      rw (byte_stored_other b n.0 n.1, byte_stored_other (b + 1) n.2 n.3)

  pub half_stored_same : a + 1 < length m → load_half (store_half m a v) a ≡ v
  half_stored_same h = half-bytes (store_half m a v) a ∙ ap joined (bytes_stored_same h) ∙ joined_split v

  pub half_stored_other : (b : ℕ) → Apart a b → load_half (store_half m a v) b ≡ load_half m b
  half_stored_other b h = half-bytes (store_half m a v) b ∙ ap joined (bytes_stored_other b h) ∙ sym (half-bytes m b)

  set_past : (i x : ℕ) → i ≢ a → i ≢ a + 1 → set (store_half m a v) i x ≡ store_half (set m i x) a v
  unfolding store_half
  set_past i x h k =
      set_comm (set m a (v / 256)) (a + 1) i (v % 256) x (λ e. k (sym e))
      ∙ ap (λ l. set l (a + 1) (v % 256)) (set_comm m a i (v / 256) x (λ e. h (sym e)))

pub store_half-comm : (m : List ℕ) (a v b w : ℕ) → Apart a b → store_half (store_half m a v) b w ≡ store_half (store_half m b w) a v
unfolding store_half
store_half-comm m a v b w h =
    let n = apart_ne h in
    ap (λ l. set l (b + 1) (w % 256)) (set_past m a v b (w / 256) n.0 n.1)
    ∙ set_past (set m b (w / 256)) a v (b + 1) (w % 256) n.2 n.3
