-- 01, "Both sides of each edge": the cases marked *, all of them, in its order, the pair as 02 has it now. Each has what the document says
-- and what the definitions give.
use Rattle.std.specs.Prelude.{List, [], ◌∷◌, ℤ, pos}
use Rattle.instructions.specs.Opcodes.{LI, SUB, MULF, RECP, ASR, DOT}
use Rattle.starred.specs.Drawing.{corners, covers, both_cover}
use Rattle.starred.specs.Machine.{minus, one, three, of_zero, result, negative_flag, of}

pub record Case : Type 0 where
  pub says : ℤ
  pub gives : ℤ

abbrev pub case : ℤ → ℤ → Case
case says gives = record { says = says; gives = gives }

unfoldable pub starred : List Case
starred =
    -- "(0,0), (32,0), (0,32) .. (32,32), (0,32), (32,0) .. no pixel in common"; 02, M-100: "The starred pair .. now covers 6 and 10."
    case (pos 6) (covers (corners 0 0 32 0 0 32))
    ∷ case (pos 10) (covers (corners 32 32 0 32 32 0))
    ∷ case (pos 0) (both_cover (corners 0 0 32 0 0 32) (corners 32 32 0 32 32 0))
    -- "(0,0), (0,32), (32,0) covers 0." "Three equal vertices cover 0."
    ∷ case (pos 0) (covers (corners 0 0 0 32 32 0))
    ∷ case (pos 0) (covers (corners 16 16 16 16 16 16))
    -- "MULF of -1 and 1 is -1." "ASR of -3 by 1 is -2."
    ∷ case (minus 1) (of MULF (minus 1) (pos 1))
    ∷ case (minus 2) (of ASR (minus 3) (pos 1))
    -- "RECP of 2 is 1073741823; of -1 is -2147483647; of -2147483648 is 0."
    ∷ case (pos 1073741823) (of RECP (pos 2) (pos 0))
    ∷ case (minus 2147483647) (of RECP (minus 1) (pos 0))
    ∷ case (pos 0) (of RECP (minus 2147483648) (pos 0))
    -- "DOT of four 1s with four 32768s is 0." "LI of R0 with imm 0x8000 is -32768."
    ∷ case (pos 0) (of DOT (pos 0) (pos 4))
    ∷ case (minus 32768) (result (one (of_zero LI 0x8000) (pos 0) (pos 0)))
    -- "0x80000000 minus 1 is 0x7FFFFFFF, negative flag clear."
    ∷ case (pos 0x7FFFFFFF) (of SUB (pos 0x80000000) (pos 1))
    ∷ case (pos 0) (negative_flag (one (three SUB) (pos 0x80000000) (pos 1)))
    ∷ []
