-- docs/RULES.md, 1.1 and 8 (01, "Machine words"): the fields of a word, the registers, the address, and a word read as signed.
use Rattle.std.specs.Prelude.{ℕ, ◌+◌, ◌/◌, ◌%◌, List, get_or, set, ltb, eqb, ℤ}
use Rattle.std.specs.Int.{w32}
use Rattle.std.proofs.Common.{to_z}
use Rattle.rules.specs.Folds.{choose}

-- "Opcode in bits 31..26", "r1 is bits 25..21, r2 20..16, r3 15..11, imm 15..0"
abbrev pub opcode : ℕ → ℕ
opcode w = w / 67108864

abbrev pub r1 : ℕ → ℕ
r1 w = w / 2097152 % 32

abbrev pub r2 : ℕ → ℕ
r2 w = w / 65536 % 32

abbrev pub r3 : ℕ → ℕ
r3 w = w / 2048 % 32

abbrev pub imm : ℕ → ℕ
imm w = w % 65536

-- what a register holds, and what those hold that a word names
abbrev pub register : List ℕ → ℕ → ℕ
register regs i = get_or regs i 0

abbrev pub in_r1 : List ℕ → ℕ → ℕ
in_r1 regs w = register regs (r1 w)

abbrev pub in_r2 : List ℕ → ℕ → ℕ
in_r2 regs w = register regs (r2 w)

abbrev pub in_r3 : List ℕ → ℕ → ℕ
in_r3 regs w = register regs (r3 w)

-- "R0 is always 0, and a write to it is lost"
unfoldable pub with_register : List ℕ → ℕ → ℕ → List ℕ
with_register regs i v = choose (eqb i 0) regs (set regs i v)

-- "keep 32 bits"
abbrev pub keep32 : ℕ → ℕ
keep32 n = n % 4294967296

-- "sign-extended from 16 bits"
unfoldable pub sign_extended : ℕ → ℕ
sign_extended n = choose (ltb n 32768) n (n + 4294901760)

-- "'Address' means r2 plus imm sign-extended from 16 bits, modulo 2^32."
unfoldable pub address : List ℕ → ℕ → ℕ
address regs w = keep32 (in_r2 regs w + sign_extended (imm w))

-- a word read as signed: itself below 2^31, itself less 2^32 from there on
abbrev pub signed : ℕ → ℤ
signed n = to_z w32 n
