-- A jump but CALL, and CALL: the place that each leads to is the definition's.
use Prim.Native.Nat.{ℕ, ◌+◌, ◌≤◌}
use mathlib.Core.Path.{◌≡◌, ◌∙◌, ap}
use mathlib.Core.Logic.{◌≢◌}
use mathlib.Core.List.{List}
use native.Mathlib.Omega.{arith}
use lib.ListN.{length}
use borrow.Author.Tests.{le-leb}
use Rattle.rules.specs.Folds.{choose}
use Rattle.instructions.specs.Opcodes.{JMP, CALL, JGEL}
use Rattle.instructions.specs.Words.{opcode, address, with_register}
use Rattle.instructions.specs.Jumps.{goes}
use Rattle.pieces.specs.declared.state.Cpu.{Cpu}
use Rattle.pieces.specs.Pieces.{joined, machine, at}
use Rattle.pieces.specs.Steps.{RegisterSteps}
use Rattle.pieces.proofs.Cases.{case-none}
use Rattle.pieces.proofs.Joined.{jumps, calls}

module _ (w : ℕ) (regs : List ℕ) (cpu cpu' : Cpu) (to : ℕ)
    (ht : to ≡ choose (goes (opcode w) cpu.negative cpu.zero) (address regs w) (cpu.place + 1))
    (hc : cpu' ≡ at to cpu) where
  pub jumps_to : JMP ≤ opcode w → opcode w ≤ JGEL → opcode w ≢ CALL → RegisterSteps w regs cpu regs cpu'
  jumps_to l h d memory ram view given =
      ap (λ (x : Cpu). machine regs x given view memory ram) hc
      ∙ jumps regs cpu given view memory ram w to
      (case-none (length ram) (joined regs cpu given view) w (omega (arith, l)) h)
      ht
      (rw (le-leb JMP (opcode w) l, le-leb (opcode w) JGEL h))
      d

  pub calls_to : (regs' : List ℕ)
      → opcode w ≡ CALL
      → regs' ≡ with_register regs 31 (cpu.place + 1)
      → RegisterSteps w regs cpu regs' cpu'
  calls_to regs' e hr memory ram view given =
      ap (λ (x : Cpu). machine regs' x given view memory ram) hc
      ∙ calls regs cpu given view memory ram w to
      (case-none (length ram) (joined regs cpu given view) w (omega (arith, e)) (omega (arith, e)))
      ht regs' e hr
