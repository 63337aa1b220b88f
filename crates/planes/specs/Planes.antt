-- The four planes of a triangle at a pixel and their steps to the right, two planes to a word of 64 bits.
use Rattle.std.specs.Prelude.{ℕ, ◌+◌, ◌*◌, ◌/◌, ◌%◌, ◌^◌, ℤ}
use Rattle.ints.specs.Modulo.{mod32}
use Rattle.rules.specs.declared.Plane.{Plane}
use Rattle.rules.specs.declared.Triangle.{Triangle}
use Rattle.planes.specs.declared.Tints.{Tints}

-- one number of each of two planes, the lower one modulo 2^21
unfoldable pub pair_of : ℤ → ℤ → ℕ
pair_of high low = mod32 high * 4294967296 + mod32 low % 2097152

unfoldable pub pair_at : Plane → Plane → ℕ → ℕ → ℕ
pair_at high low x y =
    (pair_of high.c low.c + pair_of high.a low.a * x + pair_of high.b low.b * y) % 2 ^ 64

abbrev pub tints_at : Triangle → ℕ → ℕ → Tints
tints_at t x y = record { zb = pair_at t.depth t.blue x y; gr = pair_at t.green t.red x y }

abbrev pub tint_steps : Triangle → Tints
tint_steps t = record { zb = pair_of t.depth.a t.blue.a; gr = pair_of t.green.a t.red.a }

abbrev pub tints_moved : Tints → Tints → Tints
tints_moved v by = record { zb = (v.zb + by.zb) % 2 ^ 64; gr = (v.gr + by.gr) % 2 ^ 64 }

-- the depth is the top 16 bits of the word; red and blue are bits 16 to 20 of theirs, green bits 48 to 53
abbrev pub tint_depth : Tints → ℕ
tint_depth v = v.zb / 281474976710656

abbrev pub tint_colour : Tints → ℕ
tint_colour v = v.gr / 65536 % 32 * 2048 + v.gr / 281474976710656 % 64 * 32 + v.zb / 65536 % 32
