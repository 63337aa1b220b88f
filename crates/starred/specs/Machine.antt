-- What the starred instructions give: one step of a program of one word.
use Rattle.std.specs.Prelude.{ℕ, ◌+◌, ◌*◌, List, [], ◌∷◌, replicate, ℤ, pos, neg_ℤ}
use Rattle.ints.specs.Modulo.{mod32}
use Rattle.rules.specs.Folds.{bit}
use Rattle.instructions.specs.Opcodes.{current}
use Rattle.instructions.specs.declared.State.{State}
use Rattle.instructions.specs.Words.{register, signed}
use Rattle.instructions.specs.Step.{with_registers, with_flags, step}
use Rattle.instructions.specs.Run.{fresh_state}

abbrev pub minus : ℕ → ℤ
minus n = neg_ℤ (pos n)

-- a fresh state but for R1, R2, R3 and the negative flag, which is set
abbrev pub holding : ℤ → ℤ → State
holding a b = with_flags 0x80000000 (with_registers (0 ∷ 7 ∷ mod32 a ∷ mod32 b ∷ replicate 28 0) fresh_state)

-- "four 1s" from 0, "four 32768s" from 4
abbrev pub words : List ℕ
words = 1 ∷ 1 ∷ 1 ∷ 1 ∷ 32768 ∷ 32768 ∷ 32768 ∷ 32768 ∷ replicate 1016 0

abbrev pub one : ℕ → ℤ → ℤ → State
one w a b = (step current (w ∷ []) (record { state = holding a b; memory = words; ram = [] })).state

-- op R1, R2, R3
abbrev pub three : ℕ → ℕ
three op = op * 67108864 + 1 * 2097152 + 2 * 65536 + 3 * 2048

-- op R1, R0, imm
abbrev pub of_zero : ℕ → ℕ → ℕ
of_zero op imm = op * 67108864 + 1 * 2097152 + imm

-- what R1 then holds, and the negative flag as a number
abbrev pub result : State → ℤ
result s = signed (register s.regs 1)

abbrev pub negative_flag : State → ℤ
negative_flag s = pos (bit s.negative)

-- the result of op R1, R2, R3 where R2 and R3 hold these
abbrev pub of : ℕ → ℤ → ℤ → ℤ
of op a b = result (one (three op) a b)
