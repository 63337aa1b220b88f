-- Laws of two planes in a word: a step to the right adds the pair of their a, and on a screen the word reads as both planes do. The upper
-- one is affine modulo 2^32; the lower one, reduced, stays below 2^32 from column 0 of row 0 on, and has the plane's bits 16 to 20.
use Rattle.std.proofs.Common.{◌≡◌, ℕ, ◌+◌, ◌*◌, ◌/◌, ◌%◌, ◌^◌, ◌<◌, ◌≤◌, ℤ, sym, ap, ◌∙◌, ap₂, mul-le-mul, mul-one, mul-add, arith, w32, to_z, of_z}
use native.Mathlib.Nat.{add-mul, mul_assoc, mul_comm}
use lib.Pow.{split}
use lib.Signed.{mag}
use mir.ValLaws.{to_z-of_z}
use Rattle.ints.specs.Modulo.{mod32}
use Rattle.ints.proofs.Modulo.{mod32_affine}
use Rattle.rules.specs.declared.Plane.{Plane}
use Rattle.rules.specs.declared.Triangle.{Triangle}
use Rattle.rules.specs.Triangles.{plane_at, top_half, packed, triangle_depth, triangle_colour}
use Rattle.planes.specs.Planes.{pair_of, pair_at, tints_at, tint_steps, tints_moved, tint_depth, tint_colour}

-- a signed field, read back from its word
pub read_field : (z : ℤ) → mag z < 2147483648 → to_z w32 (of_z w32 z) ≡ z
read_field z m = to_z-of_z w32 z (record { sfits = m })

pub read_pair : (h l : ℤ) → mag h < 2147483648 → mag l < 2147483648 → pair_of (to_z w32 (of_z w32 h)) (to_z w32 (of_z w32 l)) ≡ pair_of h l
read_pair h l m n = ap₂ pair_of (read_field h m) (read_field l n)

stepped : (c a b x y : ℕ) → ((c + a * x + b * y) % 2 ^ 64 + a) % 2 ^ 64 ≡ (c + a * (x + 1) + b * y) % 2 ^ 64
stepped c a b x y = omega (arith, mul-add a x 1, mul-one a)

pair_right : (p q : Plane) (x y : ℕ) → (pair_at p q x y + pair_of p.a q.a) % 2 ^ 64 ≡ pair_at p q (x + 1) y
unfolding pair_at
pair_right p q x y = stepped (pair_of p.c q.c) (pair_of p.a q.a) (pair_of p.b q.b) x y

pub tints_right : (t : Triangle) (x y : ℕ) → tints_moved (tints_at t x y) (tint_steps t) ≡ tints_at t (x + 1) y
tints_right t x y = λ i. record { zb = pair_right t.depth t.blue x y i; gr = pair_right t.green t.red x y i }

-- two numbers in a word of 64 bits: as long as the lower one stays below 2^32, the upper one is taken modulo 2^32
pub halves : (high low : ℕ) → low < 4294967296 → (high * 4294967296 + low) % 2 ^ 64 ≡ high % 4294967296 * 4294967296 + low
halves high low h = omega arith

-- a product goes digit by digit
pub scaled : (high low b n : ℕ) → (high * b + low) * n ≡ high * n * b + low * n
scaled high low b n =
    let i : high * b * n ≡ high * n * b =
    mul_assoc high b n ∙ ap (λ (k : ℕ). high * k) (mul_comm b n) ∙ sym (mul_assoc high n b) in
    add-mul (high * b) low n ∙ ap (λ (k : ℕ). k + low * n) i

pub by_digits : (k p n : ℕ) → p * n ≡ p / 2 ^ k * n * 2 ^ k + p % 2 ^ k * n
by_digits k p n = ap (λ (i : ℕ). i * n) (sym (split p k)) ∙ scaled (p / 2 ^ k) (p % 2 ^ k) (2 ^ k) n

-- the lower number of a pair, and n times it
pub low_of : (h l : ℤ) → pair_of h l % 4294967296 ≡ mod32 l % 2097152
unfolding pair_of
low_of h l = omega arith

low-times : (l : ℤ) (n b : ℕ) → n ≤ b → mod32 l % 2097152 * n ≤ 2097151 * b
low-times l n b h =
    let k : mod32 l % 2097152 ≤ 2097151 = omega arith in
    mul-le-mul k h

pub times-fits : (h l : ℤ) (n : ℕ) → n ≤ 640 → pair_of h l % 4294967296 * n < 4294967296
times-fits h l n k =
    let i : pair_of h l % 4294967296 * n ≡ mod32 l % 2097152 * n = ap (λ (m : ℕ). m * n) (low_of h l) in
    omega (arith, low-times l n 640 k)

-- the value of a plane before it is taken modulo 2^32
whole : Plane → ℕ → ℕ → ℕ
whole p x y = mod32 p.c + mod32 p.a * x + mod32 p.b * y

plane-from : (p : Plane) (x y : ℕ) → whole p x y % 4294967296 ≡ plane_at p x y
unfolding plane_at whole
plane-from p x y = sym (mod32_affine p.c p.a p.b x y)

module _ (p q : Plane) (x y : ℕ) (across : x ≤ 640) (down : y ≤ 480) where
  abbrev low : ℕ
  low = mod32 q.c % 2097152 + mod32 q.a % 2097152 * x + mod32 q.b % 2097152 * y

  low-lt : low < 4294967296
  low-lt = omega (arith, low-times q.a x 640 across, low-times q.b y 480 down)

  word_is : pair_at p q x y ≡ plane_at p x y * 4294967296 + low
  unfolding pair_at pair_of whole
  word_is =
      let s : pair_of p.c q.c + pair_of p.a q.a * x + pair_of p.b q.b * y ≡ whole p x y * 4294967296 + low =
      omega (
        arith,
        scaled (mod32 p.a) (mod32 q.a % 2097152) 4294967296 x,
        scaled (mod32 p.b) (mod32 q.b % 2097152) 4294967296 y,
      ) in
      ap (λ (n : ℕ). n % 2 ^ 64) s
      ∙ halves (whole p x y) low low-lt
      ∙ ap (λ (n : ℕ). n * 4294967296 + low) (plane-from p x y)

  -- what the reduction leaves out are multiples of 2^21
  low-is : low % 2097152 ≡ whole q x y % 2097152
  unfolding whole
  low-is = omega (arith, by_digits 21 (mod32 q.a) x, by_digits 21 (mod32 q.b) y)

  pub upper_is : pair_at p q x y / 281474976710656 ≡ top_half (plane_at p x y)
  unfolding top_half
  upper_is = omega (arith, word_is, low-lt)

  pub lower-is : pair_at p q x y / 65536 % 32 ≡ top_half (plane_at q x y) % 32
  unfolding top_half
  lower-is = omega (arith, word_is, low-lt, low-is, plane-from q x y)

module _ (t : Triangle) (x y : ℕ) (across : x ≤ 640) (down : y ≤ 480) where
  pub tint_depth_lem : tint_depth (tints_at t x y) ≡ triangle_depth t x y
  unfolding triangle_depth
  tint_depth_lem = upper_is t.depth t.blue x y across down

  pub tint_colour_lem : tint_colour (tints_at t x y) ≡ triangle_colour t x y
  unfolding triangle_colour packed
  tint_colour_lem =
      let r = lower-is t.green t.red x y across down in
      let g = upper_is t.green t.red x y across down in
      let b = lower-is t.depth t.blue x y across down in
      λ i. r i * 2048 + g i % 64 * 32 + b i
