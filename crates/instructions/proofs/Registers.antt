-- The registers: "R0 is always 0, and a write to it is lost", and a write changes no other.
use Prim.Native.Nat.{ℕ, ◌<◌}
use mathlib.Core.Path.{◌≡◌, refl, sym}
use mathlib.Core.Logic.{◌≢◌}
use mathlib.Core.List.{List}
use lib.ListN.{length, length-set}
use lib.Seq.{get_or-set_same, get_or-set_other}
use lib.Dec.{eqb}
use borrow.Author.Tests.{eqb-false, ne_eqb}
use Rattle.instructions.specs.Words.{register, with_register}
use Rattle.instructions.proofs.Picks.{pick}

module _ (regs : List ℕ) (v : ℕ) where
  pub write_zero : with_register regs 0 v ≡ regs
  unfolding with_register
  write_zero = refl

  pub write_same : (i : ℕ) → i ≢ 0 → i < length regs → register (with_register regs i v) i ≡ v
  unfolding with_register
  write_same i d h = rw (ne_eqb i 0 d) (get_or-set_same regs i v 0 h)

  pub write_other : (i j : ℕ) → j ≢ i → register (with_register regs i v) j ≡ register regs j
  unfolding with_register
  write_other i j d = pick (λ l. register l j ≡ register regs j) (eqb i 0) (λ e. refl) (λ e. get_or-set_other regs i j v 0 d)

  pub write_keeps_zero : (i : ℕ) → register (with_register regs i v) 0 ≡ register regs 0
  unfolding with_register
  write_keeps_zero i =
      pick (λ l. register l 0 ≡ register regs 0) (eqb i 0) (λ e. refl)
      (λ e. get_or-set_other regs i 0 v 0 (λ q. eqb-false i 0 e (sym q)))

  pub length_write : (i : ℕ) → length (with_register regs i v) ≡ length regs
  unfolding with_register
  length_write i = pick (λ (l : List ℕ). length l ≡ length regs) (eqb i 0) (λ e. refl) (λ e. length-set regs i v)
