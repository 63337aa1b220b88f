-- docs/RULES.md, 9.1 to 9.3 (01, "Machine words"): what the instructions from LD to ASRI, and DOT, put in r1, and the flags.
use Rattle.std.specs.Prelude.{ℕ, ◌+◌, ◌-◌, ◌*◌, ◌/◌, ◌%◌, ◌^◌, Bool, ◌&&◌, ◌||◌, not, List, get_or, leb, eqb, pos, ◌-ℤ◌, ◌*ℤ◌}
use Rattle.std.specs.Int.Signed.{quot_z, shr_z}
use Rattle.std.specs.Int.Bits.{bit_and, bit_or, bit_xor}
use Rattle.ints.specs.Modulo.{mod32}
use Rattle.rules.specs.Folds.{choose}
use Rattle.instructions.specs.Opcodes.{LD, ST, LI, ADD, SUB, MUL, MULF, RECP, AND, OR, XOR, NOT, LSL, LSR, LSLI, LSRI, ASRI, DOT}
use Rattle.instructions.specs.Words.{opcode, imm, in_r2, in_r3, keep32, sign_extended, address, signed}

-- "Sums, differences (r2 less r3) and products keep 32 bits."
abbrev pub sum : ℕ → ℕ → ℕ
sum a b = keep32 (a + b)

abbrev pub difference : ℕ → ℕ → ℕ
difference a b = mod32 (pos a -ℤ pos b)

abbrev pub product : ℕ → ℕ → ℕ
product a b = keep32 (a * b)

-- "MULF takes the full signed product, divides by 65,536 rounding down, keeps 32 bits."
unfoldable pub rounded_product : ℕ → ℕ → ℕ
rounded_product a b = mod32 (shr_z (signed a *ℤ signed b) 65536)

-- "RECP is 2147483647 divided by the signed operand, rounded toward zero; of 0 it is 2147483647 (house)."
unfoldable pub reciprocal : ℕ → ℕ
reciprocal a = choose (eqb a 0) 2147483647 (mod32 (quot_z (pos 2147483647) (signed a)))

-- "LI loads the low 16 bits of address, sign-extended."
abbrev pub low_half : ℕ → ℕ
low_half n = n % 65536

unfoldable pub immediate : ℕ → ℕ
immediate address = sign_extended (low_half address)

-- NOT: each of the 32 bits turned
abbrev pub complement : ℕ → ℕ
complement a = 4294967295 - a

-- 02, M-103: "All six shifts now take the whole amount, the register read as unsigned or the 16-bit imm." (`operand`, below.) There is no
-- case at 32: "From 32 on, LSL and LSR give 0, and ASR gives 0 or -1 by the sign" follows (proofs/Shifts.antt, `lsl_from_32`, `lsr_from_32`
-- and `asr_from_32`), and so does "Below 32 nothing changes" (`below_32`).
unfoldable pub shifted_left : ℕ → ℕ → ℕ
shifted_left a k = keep32 (a * 2 ^ k)

unfoldable pub shifted_right : ℕ → ℕ → ℕ
shifted_right a k = a / 2 ^ k

-- "ASR keeps the sign."
unfoldable pub shifted_signed : ℕ → ℕ → ℕ
shifted_signed a k = mod32 (shr_z (signed a) (2 ^ k))

-- "DOT reads four words from each of the data addresses in r2 and r3, rounds each product as MULF does, then adds."
abbrev pub dot_term : List ℕ → ℕ → ℕ → ℕ → ℕ
dot_term memory a b i = rounded_product (get_or memory (a + i) 0) (get_or memory (b + i) 0)

unfoldable pub dot : List ℕ → ℕ → ℕ → ℕ
dot memory a b = keep32 (dot_term memory a b 0 + dot_term memory a b 1 + dot_term memory a b 2 + dot_term memory a b 3)

-- the shifts that end in I take imm for r3
abbrev pub takes_imm : ℕ → Bool
takes_imm op = leb LSLI op && leb op ASRI

abbrev pub operand : List ℕ → ℕ → ℕ
operand regs w = choose (takes_imm (opcode w)) (imm w) (in_r3 regs w)

-- ADD to ASRI: a is in r2, b in r3, or imm; what is left at the end is ASR and ASRI
unfoldable pub value : ℕ → ℕ → ℕ → ℕ
value op a b =
    choose (eqb op ADD) (sum a b)
    (choose (eqb op SUB) (difference a b)
    (choose (eqb op MUL) (product a b)
    (choose (eqb op MULF) (rounded_product a b)
    (choose (eqb op RECP) (reciprocal a)
    (choose (eqb op AND) (bit_and a b)
    (choose (eqb op OR) (bit_or a b)
    (choose (eqb op XOR) (bit_xor a b)
    (choose (eqb op NOT) (complement a)
    (choose (eqb op LSL || eqb op LSLI) (shifted_left a b)
    (choose (eqb op LSR || eqb op LSRI) (shifted_right a b)
    (shifted_signed a b)))))))))))

-- what an instruction that sets the flags puts in r1
unfoldable pub result : List ℕ → List ℕ → ℕ → ℕ
result memory regs w =
    choose (eqb (opcode w) LD) (get_or memory (address regs w) 0)
    (choose (eqb (opcode w) LI) (immediate (address regs w))
    (choose (eqb (opcode w) DOT) (dot memory (in_r2 regs w) (in_r3 regs w))
    (value (opcode w) (in_r2 regs w) (operand regs w))))

-- "All instructions from LD to ASRI but ST set them, and DOT; no other does."
abbrev pub sets_flags : ℕ → Bool
sets_flags op = leb op ASRI && not (eqb op ST) || eqb op DOT

-- "Two flags, negative and zero, follow the 32-bit result even when R0 is the target."
abbrev pub negative_flag : ℕ → Bool
negative_flag v = leb 2147483648 v

abbrev pub zero_flag : ℕ → Bool
zero_flag v = eqb v 0
