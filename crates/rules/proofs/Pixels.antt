-- A pixel's two half-words as one cell: what stands in it, which byte of the RAM belongs to which pixel, and what writing a pixel leaves.
-- Where the half-words stand is known by the laws of Strips alone.
use Prim.Native.Nat.{ℕ, zero, suc, ◌+◌, ◌<◌}
use mathlib.Core.Path.{◌≡◌, ◌∙◌, subst}
use mathlib.Core.Logic.{◌⊎◌, inl, inr}
use mathlib.Core.List.{List}
use native.Mathlib.Omega.{arith}
use native.Mathlib.Decide.{ℕ_discrete}
use lib.ListN.{length, get_or}
use Rattle.rules.specs.declared.Screen.{Screen}
use Rattle.ram.specs.Ram.{store_half}
use Rattle.rules.specs.Sizes.{width, height, colour_at, depth_at, put_pixel}
use Rattle.ram.proofs.Halves.{Apart, apart_sym, Bytes, split, bytes}
use Rattle.ram.proofs.Halves.{length-store_half, byte_stored_other, bytes_stored_same, bytes_stored_other}
pub use Rattle.rules.proofs.Strips.{On, Other, Sound, and_l, and_r, sound_facts, width-le, height-le, colour-fits, depth-fits}
pub use Rattle.rules.proofs.Strips.{colour_apart, depth_apart, colour_depth_apart, colour_leaf, depth_leaf}

-- b is a byte of the half-word at a
abbrev pub ByteOf : ℕ → ℕ → Type 0
ByteOf a b = (b ≡ a) ⊎ (b ≡ a + 1)

-- b is no byte of any pixel's colour or depth
pub record Outside (s : Screen) (b : ℕ) : Type 0 where
  pub no_colour : {x y : ℕ} → On s x y → ¬ ByteOf (colour_at s x y) b
  pub no_depth : {x y : ℕ} → On s x y → ¬ ByteOf (depth_at s x y) b

-- where a byte stands: in a pixel's colour, in a pixel's depth, or outside
pub data Stands (s : Screen) (b : ℕ) : Type 0 where
  in_colour_lem : {x y : ℕ} → On s x y → ByteOf (colour_at s x y) b → Stands s b
  in_depth : {x y : ℕ} → On s x y → ByteOf (depth_at s x y) b → Stands s b
  outside : Outside s b → Stands s b

-- a search among the first n
some_below : (P : ℕ → Type 0) → ((i : ℕ) → Dec (P i)) → (n : ℕ) → Dec ((i : ℕ) × (i < n) × P i)
some_below P d zero = no (λ e. omega (arith, e.1))
some_below P d (suc n) = go (d n) (some_below P d n)
  where
    go : Dec (P n) → Dec ((i : ℕ) × (i < n) × P i) → Dec ((i : ℕ) × (i < suc n) × P i)
    go (yes p) r = yes (n, omega arith, p)
    go (no p) (yes r) = yes (r.0, omega (arith, r.1), r.2)
    go (no p) (no r) = no (λ e. last e (ℕ_discrete e.0 n))
      where
        last : (e : (i : ℕ) × (i < suc n) × P i) → Dec (e.0 ≡ n) → ⊥
        last e (yes q) = p (subst P q e.2)
        last e (no q) = r (e.0, omega (arith, e.1), e.2)

byte? : (a b : ℕ) → Dec (ByteOf a b)
byte? a b = go (ℕ_discrete b a) (ℕ_discrete b (a + 1))
  where
    go : Dec (b ≡ a) → Dec (b ≡ a + 1) → Dec (ByteOf a b)
    go (yes e) f = yes (inl e)
    go (no e) (yes f) = yes (inr f)
    go (no e) (no f) = no (λ o. elim o [ inl h ↦ e h | inr h ↦ f h ])

-- the pixel whose half-word has byte b, if there is one
pixel-of : (s : Screen) (at : ℕ → ℕ → ℕ) (b : ℕ)
    → Dec ((y : ℕ) × (y < height s.size) × ((x : ℕ) × (x < width s.size) × ByteOf (at x y) b))
pixel-of s at b =
    some_below (λ y. (x : ℕ) × (x < width s.size) × ByteOf (at x y) b)
    (λ y. some_below (λ x. ByteOf (at x y) b) (λ x. byte? (at x y) b) (width s.size))
    (height s.size)

pub stands : (s : Screen) (b : ℕ) → Stands s b
stands s b = go (pixel-of s (colour_at s) b) (pixel-of s (depth_at s) b)
  where
    Has : (ℕ → ℕ → ℕ) → Type 0
    Has at = (y : ℕ) × (y < height s.size) × ((x : ℕ) × (x < width s.size) × ByteOf (at x y) b)

    go : Dec (Has (colour_at s)) → Dec (Has (depth_at s)) → Stands s b
    go (yes (y, h, (x, w, o))) d = in_colour_lem (record { across = w; down = h }) o
    go (no c) (yes (y, h, (x, w, o))) = in_depth (record { across = w; down = h }) o
    go (no c) (no d) = outside (record {
      no_colour = λ {x} {y} p o. c (y, p.down, (x, p.across, o));
      no_depth = λ {x} {y} p o. d (y, p.down, (x, p.across, o));
    })

pub other? : (x y x' y' : ℕ) → ((x' ≡ x) × (y' ≡ y)) ⊎ Other x y x' y'
other? x y x' y' = go (ℕ_discrete x' x) (ℕ_discrete y' y)
  where
    go : Dec (x' ≡ x) → Dec (y' ≡ y) → ((x' ≡ x) × (y' ≡ y)) ⊎ Other x y x' y'
    go (yes e) (yes f) = inl (e, f)
    go (yes e) (no f) = inr (inr f)
    go (no e) f = inr (inl e)

-- a pixel's four bytes as they stand in the memory
pub record Cell : Type 0 where
  pub colour : Bytes
  pub depth : Bytes

abbrev pub cell : Screen → List ℕ → ℕ → ℕ → Cell
cell s m x y = record { colour = bytes m (colour_at s x y); depth = bytes m (depth_at s x y) }

-- the four bytes of a colour and a depth
abbrev pub painted : ℕ → ℕ → Cell
painted colour depth = record { colour = split colour; depth = split depth }

-- what writing a pixel leaves

pub length-put_pixel : (s : Screen) (x y c d : ℕ) (m : List ℕ) → length (put_pixel s x y c d m) ≡ length m
unfolding put_pixel
length-put_pixel s x y c d m = simp length-store_half

module _ {n : ℕ} {s : Screen} (k : Sound n s) {x y : ℕ} (p : On s x y) (c d : ℕ) (m : List ℕ) where
  pub cell_put_same : length m ≡ n → cell s (put_pixel s x y c d m) x y ≡ painted c d
  unfolding put_pixel
  cell_put_same l = λ i. record { colour = colour i; depth = depth i }
    where
      m₁ : List ℕ
      m₁ = store_half m (colour_at s x y) c

      colour : bytes (store_half m₁ (depth_at s x y) d) (colour_at s x y) ≡ split c
      colour =
          bytes_stored_other m₁ (depth_at s x y) d (colour_at s x y) (apart_sym (colour_depth_apart k p p))
          ∙ bytes_stored_same m (colour_at s x y) c (rw l (colour-fits k p))

      depth : bytes (store_half m₁ (depth_at s x y) d) (depth_at s x y) ≡ split d
      depth = bytes_stored_same m₁ (depth_at s x y) d (rw (length-store_half m (colour_at s x y) c ∙ l) (depth-fits k p))

  pub byte_put_outside : {b : ℕ} → Outside s b → get_or (put_pixel s x y c d m) b 0 ≡ get_or m b 0
  unfolding put_pixel
  byte_put_outside {b} o =
      byte_stored_other (store_half m (colour_at s x y) c) (depth_at s x y) d b
      (λ e. o.no_depth p (inl e)) (λ e. o.no_depth p (inr e))
      ∙ byte_stored_other m (colour_at s x y) c b (λ e. o.no_colour p (inl e)) (λ e. o.no_colour p (inr e))

  module _ {x' y' : ℕ} (p' : On s x' y') (o : Other x y x' y') where
    kept : (a : ℕ) → Apart (colour_at s x y) a → Apart (depth_at s x y) a → bytes (put_pixel s x y c d m) a ≡ bytes m a
    unfolding put_pixel
    kept a h j =
        bytes_stored_other (store_half m (colour_at s x y) c) (depth_at s x y) d a j
        ∙ bytes_stored_other m (colour_at s x y) c a h

    pub cell_put_other : cell s (put_pixel s x y c d m) x' y' ≡ cell s m x' y'
    cell_put_other = λ i. record {
      colour = kept (colour_at s x' y') (colour_apart k p p' o) (apart_sym (colour_depth_apart k p' p)) i;
      depth = kept (depth_at s x' y') (colour_depth_apart k p p') (depth_apart k p p' o) i;
    }
