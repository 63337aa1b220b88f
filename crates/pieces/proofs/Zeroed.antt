-- A register stored to and R0 set to 0 again: the definition's write, where R0 is 0.
use Prim.Native.Nat.{ℕ, zero, suc}
use mathlib.Core.Path.{◌≡◌, refl, sym, ap}
use mathlib.Core.List.{List, [], ◌∷◌}
use lib.ListN.{set}
use native.Mathlib.Omega.{arith}
use borrow.Author.Tests.{ne_eqb}
use Rattle.instructions.specs.Words.{register, with_register}

pub put_zeroed : (regs : List ℕ) (i v : ℕ) → register regs 0 ≡ 0 → set (set regs i v) 0 0 ≡ with_register regs i v
unfolding with_register
put_zeroed [] zero v h = refl
put_zeroed [] (suc i) v h = rw (ne_eqb (suc i) 0 (λ q. omega arith))
put_zeroed (x ∷ l) zero v h = ap (λ (y : ℕ). y ∷ l) (sym h)
put_zeroed (x ∷ l) (suc i) v h = rw (ne_eqb (suc i) 0 (λ q. omega arith)) (ap (λ (y : ℕ). y ∷ set l i v) (sym h))
