-- How large a width, an area and an offset can be at any size number of 32 bits.
use Prim.Native.Nat.{ℕ, ◌+◌, ◌*◌, ◌^◌, ◌≤◌, ◌<◌}
use native.Mathlib.Nat.{mul-le-mul}
use native.Mathlib.Omega.{arith}
use Rattle.rules.specs.Sizes.{width, height, area}

pub area_small : (S : ℕ) → S < 2 ^ 32 → area S < 2 ^ 37
area_small S h =
    let p : width S * height S ≤ 134217728 * 511 =
    mul-le-mul {n₂ = 134217728} {m₂ = 511} (omega arith) (omega arith)
    in omega arith

pub offset-small : (S x y : ℕ) → S < 2 ^ 32 → x < 2 ^ 32 → y < 2 ^ 32 → y * width S + x < 2 ^ 60
offset-small S x y hs hx hy =
    let p : y * width S ≤ 4294967296 * 134217728 =
    mul-le-mul {n₂ = 4294967296} {m₂ = 134217728} (omega arith) (omega arith)
    in omega arith
