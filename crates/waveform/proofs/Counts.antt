-- A count of pixels is no more than the largest screen has.
use Prim.Native.Nat.{ℕ, ◌≤◌}
use mathlib.Core.Path.{◌≡◌}
use mathlib.Core.Bool.{Bool}
use native.Mathlib.Omega.{arith}
use Rattle.rules.specs.declared.Screen.{Screen}
use Rattle.rules.specs.Folds.{pixels}
use Rattle.rules.specs.Sizes.{width, height}
use Rattle.rules.specs.Numbers.{screen_number}
use Rattle.rules.proofs.Folds.{pixels-le}
use Rattle.rules.proofs.Pixels.{sound_facts, width-le, height-le}
use Rattle.order.proofs.Numbers.{screen-accepted}

pub pixels_fit : (n : ℕ) (s : Screen) (t : ℕ → ℕ → Bool) → screen_number n s ≡ 0 → pixels t (width s.size) (height s.size) ≤ 307200
pixels_fit n s t z =
    let g = sound_facts ((screen-accepted n s).0 z).1 in
    omega (arith, pixels-le t (width s.size) 640 (height s.size) (width-le g), height-le g)
