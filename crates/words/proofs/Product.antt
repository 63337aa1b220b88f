-- The product of two 32-bit numbers fits 64 bits.
use Prim.Native.Nat.{ℕ, ◌*◌, ◌≤◌}
use native.Mathlib.Nat.{mul-le-mul}
use native.Mathlib.Omega.{arith}
use mir.Syntax.{w32, w64}
use mir.Val.{Fits}

pub product-fits : (a b : ℕ) → Fits w32 a → Fits w32 b → Fits w64 (a * b)
product-fits a b f g =
    let k : a ≤ 4294967295 = omega (arith, f.fits) in
    let l : b ≤ 4294967295 = omega (arith, g.fits) in
    let h : a * b ≤ 4294967295 * 4294967295 = mul-le-mul k l in
    record { fits = omega arith }
