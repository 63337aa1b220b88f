-- 2^32 less b stands for -b modulo 2^32.
use Prim.Native.Nat.{ℕ, ◌+◌, ◌-◌, ◌%◌}
use mathlib.Core.Path.{◌≡◌, sym, ◌∙◌, ap₂}
use native.Mathlib.Nat.{mod-eq_of_lt}
use lib.IntN.{pos}
use mir.Syntax.{w32}
use mir.Val.{Fits}
use Rattle.ints.specs.Modulo.{mod32}
use Rattle.ints.proofs.Modulo.{mod32-pos, mod32-sub}
use Rattle.alu.proofs.arithmetic.difference.Goals as goal

itself : {n : ℕ} → Fits w32 n → mod32 (pos n) ≡ n
itself {n} f = mod32-pos n ∙ mod-eq_of_lt f.fits

pub returns : goal.returns
returns c =
    let a = c.args.a in
    let b = c.args.b in
    sym (mod32-sub (pos a) (pos b) ∙ ap₂ (λ (m n : ℕ). (m + (4294967296 - n)) % 4294967296) (itself c.ranges.a) (itself c.ranges.b))
