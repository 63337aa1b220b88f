-- The pieces after a step, put together, are the machine after it: a halt, a result, a jump, and any other instruction.
use Prim.Native.Nat.{ℕ, zero, suc, ◌+◌, ◌≤◌, ◌<◌}
use mathlib.Core.Path.{◌≡◌, refl}
use mathlib.Core.Logic.{◌≢◌}
use mathlib.Core.Bool.{true, false}
use mathlib.Core.List.{List}
use native.Mathlib.Omega.{arith}
use lib.ListN.{length}
use borrow.Author.Tests.{lt-leb, le-leb, ne_eqb}
use Rattle.std.specs.Prelude.{Result, Ok, Err, IsErrAnd}
use Rattle.rules.specs.Folds.{choose}
use Rattle.instructions.specs.declared.Halt.{Halt}
use Rattle.instructions.specs.declared.Halt.TheVariants.{NoInstruction, PastProgram, OutsideData, NoTree, MoveOutsideData}
use Rattle.instructions.specs.declared.Halt.TheVariants.{MoveOutsideRam, NoScreen}
use Rattle.instructions.specs.Answers.{number_of_halt, halt_of}
use Rattle.instructions.specs.Opcodes.{current, ST, LI, ASRI, JMP, CALL}
use Rattle.instructions.specs.Words.{opcode, r1, address, with_register}
use Rattle.instructions.specs.Arithmetic.{result, sets_flags}
use Rattle.instructions.specs.Jumps.{goes, is_jump, next_place}
use Rattle.instructions.specs.Halts.{word_halt}
use Rattle.instructions.specs.Step.{Machine, with_registers, with_place, with_flags, with_halt, after_result, after_call, effect, performed}
use Rattle.instructions.proofs.Effects.{effect-result, effect-CALL, effect_jump}
use Rattle.pieces.specs.declared.state.Cpu.{Cpu}
use Rattle.pieces.specs.declared.state.View.{View}
use Rattle.pieces.specs.Pieces.{joined, machine, at, resulted}
use Rattle.pieces.specs.Steps.{stepped, halt_after, RegisterSteps}
use Rattle.pieces.proofs.Cases.{case-none}

-- what stands before the jumps is none
pub no_jump_below : (op : ℕ) → op < JMP → is_jump op ≡ false
no_jump_below op h = rw (lt-leb JMP op h)

-- a halt's number is never 0
pub halt-not_zero : (h : Halt) → number_of_halt h ≢ 0
halt-not_zero NoInstruction e = omega (arith, e)
halt-not_zero PastProgram e = omega (arith, e)
halt-not_zero OutsideData e = omega (arith, e)
halt-not_zero NoTree e = omega (arith, e)
halt-not_zero MoveOutsideData e = omega (arith, e)
halt-not_zero MoveOutsideRam e = omega (arith, e)
halt-not_zero NoScreen e = omega (arith, e)

-- where no number is given, the halt's
pub halt_after_none : (n : ℕ) → halt_after n 0 ≡ n
halt_after_none zero = refl
halt_after_none (suc n) = rw (ne_eqb (suc n) 0 (λ q. omega arith))

module _ (regs : List ℕ) (cpu : Cpu) (given : ℕ) (view : View) (memory ram : List ℕ) (w : ℕ) where
  abbrev before : Machine
  before = machine regs cpu given view memory ram

  abbrev halt : ℕ
  halt = word_halt current (length ram) (joined regs cpu given view) w

  pub stops : (n : ℕ) → halt ≡ n → n ≢ 0 → machine regs cpu n view memory ram ≡ stepped before w
  unfolding stepped with_halt
  stops n e d = rw (e, ne_eqb n 0 d)

  pub stops_by : (h : Halt) → halt ≡ number_of_halt h → machine regs cpu (number_of_halt h) view memory ram ≡ stepped before w
  stops_by h e = stops (number_of_halt h) e (halt-not_zero h)

  -- where the halt comes by a `?`
  pub stops_with : (h : Halt) (answer : Result (Unit {0}) Halt)
      → IsErrAnd answer (λ e. e ≡ h)
      → halt ≡ number_of_halt h
      → machine regs cpu (halt_after (halt_of answer) given) view memory ram ≡ stepped before w
  stops_with h (Ok next) x e = absurd x
  stops_with h (Err g) x e = rw (x, ne_eqb (number_of_halt h) 0 (halt-not_zero h)) (stops_by h e)

  -- any instruction but a jump goes on to the next place
  pub goes_onward : (regs' : List ℕ) (cpu' : Cpu) (given' : ℕ) (view' : View) (memory' ram' : List ℕ)
      → halt ≡ 0
      → is_jump (opcode w) ≡ false
      → effect before w ≡ machine regs' cpu' given' view' memory' ram'
      → machine regs' (at (cpu.place + 1) cpu') given' view' memory' ram' ≡ stepped before w
  unfolding stepped performed next_place with_place
  goes_onward regs' cpu' given' view' memory' ram' z j e = rw (z, e, j)

  pub puts_result : (v : ℕ) (regs' : List ℕ) (cpu' : Cpu)
      → halt ≡ 0
      → sets_flags (opcode w) ≡ true
      → is_jump (opcode w) ≡ false
      → v ≡ result memory regs w
      → regs' ≡ with_register regs (r1 w) v
      → cpu' ≡ resulted v cpu
      → machine regs' cpu' given view memory ram ≡ stepped before w
  unfolding after_result with_flags with_registers
  puts_result v regs' cpu' z f j hv hr hc =
      rw (hr, hc, hv)
      (goes_onward _ (record { place = cpu.place; negative = _; zero = _ }) given view memory ram z j
      (effect-result before w f))

  -- a jump's place
  module _ (to : ℕ) (z : halt ≡ 0) (ht : to ≡ choose (goes (opcode w) cpu.negative cpu.zero) (address regs w) (cpu.place + 1)) where
    pub calls : (regs' : List ℕ)
        → opcode w ≡ CALL
        → regs' ≡ with_register regs 31 (cpu.place + 1)
        → machine regs' (at to cpu) given view memory ram ≡ stepped before w
    unfolding stepped performed next_place with_place after_call with_registers
    calls regs' e hr = rw (ht, hr, z, effect-CALL before w e, e)

    pub jumps : is_jump (opcode w) ≡ true → opcode w ≢ CALL → machine regs (at to cpu) given view memory ram ≡ stepped before w
    unfolding stepped performed next_place with_place
    jumps j d = rw (ht, z, effect_jump before w j d, j)

-- from LI to ASRI: no halt, and a result of the registers alone
pub register-result : (regs : List ℕ) (cpu : Cpu) (w v : ℕ) (regs' : List ℕ) (cpu' : Cpu)
    → (LI ≤ opcode w) × (opcode w ≤ ASRI)
    → ((memory : List ℕ) → v ≡ result memory regs w)
    → regs' ≡ with_register regs (r1 w) v
    → cpu' ≡ resulted v cpu
    → RegisterSteps w regs cpu regs' cpu'
register-result regs cpu w v regs' cpu' (l, h) hv hr hc memory ram view given =
    puts_result regs cpu given view memory ram w v regs' cpu'
    (case-none (length ram) (joined regs cpu given view) w (omega (arith, l)) (omega (arith, h)))
    (rw (le-leb (opcode w) ASRI h, ne_eqb (opcode w) ST (λ q. omega (arith, l))))
    (no_jump_below (opcode w) (omega (arith, h)))
    (hv memory)
    hr hc
