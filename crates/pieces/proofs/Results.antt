-- What each instruction puts in r1: at its opcode the definition computes.
use Prim.Native.Nat.{ℕ}
use mathlib.Core.Path.{◌≡◌}
use mathlib.Core.List.{List}
use lib.ListN.{get_or}
use lib.Bits.{bit_and, bit_or, bit_xor}
use Rattle.instructions.specs.Opcodes.{LD, LI, ADD, SUB, MUL, MULF, RECP, AND, OR, XOR, NOT, LSL, LSR, ASR, LSLI, LSRI, ASRI, DOT}
use Rattle.instructions.specs.Words.{opcode, imm, in_r2, in_r3, address}
use Rattle.instructions.specs.Arithmetic.{sum, difference, product, rounded_product, reciprocal, immediate, complement}
use Rattle.instructions.specs.Arithmetic.{shifted_left, shifted_right, shifted_signed, dot, value, result}

module _ (memory regs : List ℕ) (w : ℕ) where
  pub result-LD : opcode w ≡ LD → result memory regs w ≡ get_or memory (address regs w) 0
  unfolding result
  result-LD e = rw e

  pub result-LI : opcode w ≡ LI → result memory regs w ≡ immediate (address regs w)
  unfolding result
  result-LI e = rw e

  pub result-DOT : opcode w ≡ DOT → result memory regs w ≡ dot memory (in_r2 regs w) (in_r3 regs w)
  unfolding result
  result-DOT e = rw e

  pub result-ADD : opcode w ≡ ADD → result memory regs w ≡ sum (in_r2 regs w) (in_r3 regs w)
  unfolding result value
  result-ADD e = rw e

  pub result-SUB : opcode w ≡ SUB → result memory regs w ≡ difference (in_r2 regs w) (in_r3 regs w)
  unfolding result value
  result-SUB e = rw e

  pub result-MUL : opcode w ≡ MUL → result memory regs w ≡ product (in_r2 regs w) (in_r3 regs w)
  unfolding result value
  result-MUL e = rw e

  pub result-MULF : opcode w ≡ MULF → result memory regs w ≡ rounded_product (in_r2 regs w) (in_r3 regs w)
  unfolding result value
  result-MULF e = rw e

  pub result-RECP : opcode w ≡ RECP → result memory regs w ≡ reciprocal (in_r2 regs w)
  unfolding result value
  result-RECP e = rw e

  pub result-AND : opcode w ≡ AND → result memory regs w ≡ bit_and (in_r2 regs w) (in_r3 regs w)
  unfolding result value
  result-AND e = rw e

  pub result-OR : opcode w ≡ OR → result memory regs w ≡ bit_or (in_r2 regs w) (in_r3 regs w)
  unfolding result value
  result-OR e = rw e

  pub result-XOR : opcode w ≡ XOR → result memory regs w ≡ bit_xor (in_r2 regs w) (in_r3 regs w)
  unfolding result value
  result-XOR e = rw e

  pub result-NOT : opcode w ≡ NOT → result memory regs w ≡ complement (in_r2 regs w)
  unfolding result value
  result-NOT e = rw e

  pub result-LSL : opcode w ≡ LSL → result memory regs w ≡ shifted_left (in_r2 regs w) (in_r3 regs w)
  unfolding result value
  result-LSL e = rw e

  pub result-LSR : opcode w ≡ LSR → result memory regs w ≡ shifted_right (in_r2 regs w) (in_r3 regs w)
  unfolding result value
  result-LSR e = rw e

  pub result-ASR : opcode w ≡ ASR → result memory regs w ≡ shifted_signed (in_r2 regs w) (in_r3 regs w)
  unfolding result value
  result-ASR e = rw e

  pub result-LSLI : opcode w ≡ LSLI → result memory regs w ≡ shifted_left (in_r2 regs w) (imm w)
  unfolding result value
  result-LSLI e = rw e

  pub result-LSRI : opcode w ≡ LSRI → result memory regs w ≡ shifted_right (in_r2 regs w) (imm w)
  unfolding result value
  result-LSRI e = rw e

  pub result-ASRI : opcode w ≡ ASRI → result memory regs w ≡ shifted_signed (in_r2 regs w) (imm w)
  unfolding result value
  result-ASRI e = rw e

-- each by its opcode, as the functions of `results` cite them
pub ruleset by_opcode = (result-LI, result-ADD, result-SUB, result-MUL, result-MULF, result-RECP, result-AND, result-OR, result-XOR, result-NOT, result-LSL, result-LSR, result-ASR, result-LSLI, result-LSRI, result-ASRI)
