-- Instructions worked out by hand from 01, each class and each halt, on the starred cases' data memory (four 1s, then four 32768s)
-- and a RAM of 64 bytes 0, 1, .., 63.
use Rattle.std.specs.Prelude.{ℕ, ◌+◌, ◌*◌, List, [], ◌∷◌, get_or, replicate}
use Rattle.rules.specs.Folds.{bit}
use Rattle.ram.specs.Ram.{load_half}
use Rattle.instructions.specs.Opcodes.{current, LD, ST, LI, ADD, SUB, MUL, MULF, RECP, XOR, NOT, LSL, LSR, ASR, LSLI, LSRI, ASRI, CALL}
use Rattle.instructions.specs.Opcodes.{JEQ, JNE, JLTL, JLE, JGT, DOT, READ, WRITE, SCRSET, CLS, TREESET, TREEIN, TREEVAL, TREEPUT}
use Rattle.instructions.specs.Words.{register}
use Rattle.instructions.specs.Tree.{each, mark_i, mark_o}
use Rattle.instructions.specs.Step.{Machine, with_registers}
use Rattle.instructions.specs.Run.{run, steps, fresh_state}
use Rattle.starred.specs.Machine.{words, three}
use Rattle.starred.specs.WorkedDrawing.{Case, case, sixteen}

-- a fresh state but for its first registers, R1 to R5
abbrev pub given : ℕ → ℕ → ℕ → ℕ → ℕ → Machine
given a b c d e = record {
  state = with_registers (0 ∷ a ∷ b ∷ c ∷ d ∷ e ∷ replicate 26 0) fresh_state;
  memory = words;
  ram = each (λ k. k) 64;
}

-- op r1, r2, imm
abbrev pub by : ℕ → ℕ → ℕ → ℕ → ℕ
by op r1 r2 imm = op * 67108864 + r1 * 2097152 + r2 * 65536 + imm

-- R1 and the flags, negative and zero, after n steps; of op R1, R2, R3 with these in R2 and R3
abbrev pub results : ℕ → List ℕ → Machine → List ℕ
results n program m =
    let s = (run current program n m).state in
    register s.regs 1 ∷ bit s.negative ∷ bit s.zero ∷ []

abbrev pub of : ℕ → ℕ → ℕ → List ℕ
of op a b = results 1 (three op ∷ []) (given 0 a b 0 0)

-- place and R31 after the word w, at place 1; SUB with these in R2 and R3 is at place 0 and sets the flags
abbrev pub goes_to : ℕ → ℕ → ℕ → List ℕ
goes_to w a b =
    let s = (run current (three SUB ∷ w ∷ []) 2 (given 0 a b 0 0)).state in
    s.place ∷ register s.regs 31 ∷ []

-- steps carried out of ten allowed, halt number and place
abbrev pub ends : List ℕ → Machine → List ℕ
ends program m =
    let s = (run current program 10 m).state in
    steps current program 10 m ∷ s.halt ∷ s.place ∷ []

-- words of the data memory, and half-words of the RAM, at these places
abbrev pub words_at : ℕ → ℕ → ℕ → Machine → List ℕ
words_at i j k m = get_or m.memory i 0 ∷ get_or m.memory j 0 ∷ get_or m.memory k 0 ∷ []

abbrev pub halves_at : ℕ → ℕ → ℕ → ℕ → Machine → List ℕ
halves_at i j k l m = load_half m.ram i ∷ load_half m.ram j ∷ load_half m.ram k ∷ load_half m.ram l ∷ []

-- the marks I and O, leaf 0 highest, and R4
abbrev pub marks : Machine → List ℕ
marks m =
    let s = m.state in
    sixteen (mark_i s.tree) ∷ sixteen (mark_o s.tree) ∷ register s.regs 4 ∷ []

-- a screen of 16 by 1 with colours from 0 and depths from 32 on, cleared to colour 0 and depth 9, and its tree with leaves 0 to 3
abbrev pub planted : List ℕ → ℕ → ℕ → Machine
planted more a b =
    run current (by SCRSET 0 1 513 ∷ by CLS 0 2 0 ∷ by TREESET 0 0 (3 * 2048) ∷ more) 10 (given 32 9 0xF000 a b)

unfoldable pub worked_runs : List Case
worked_runs =
    -- ST and LD: R2 goes to 1,023 and comes back to R1. The address is R2 plus imm, here 5 - 1, where the first 32768 is
    case (5 ∷ 0 ∷ 0 ∷ []) (results 2 (by ST 2 0 1023 ∷ by LD 1 0 1023 ∷ []) (given 0 5 0 0 0))
    ∷ case (32768 ∷ 0 ∷ 0 ∷ []) (results 1 (by LD 1 2 0xFFFF ∷ []) (given 0 5 0 0 0))
    -- arithmetic keeps 32 bits, and the flags follow: 2^32 is 0; 1 - 2 is -1; 65536 · 65537 is 65536; XOR and NOT of 1100
    ∷ case (0 ∷ 0 ∷ 1 ∷ []) (of ADD 0xFFFFFFFF 1)
    ∷ case (0xFFFFFFFF ∷ 1 ∷ 0 ∷ []) (of SUB 1 2)
    ∷ case (65536 ∷ 0 ∷ 0 ∷ []) (of MUL 65536 65537)
    ∷ case (6 ∷ 0 ∷ 0 ∷ []) (of XOR 12 10)
    ∷ case (0xFFFFFFF3 ∷ 1 ∷ 0 ∷ []) (of NOT 12 0)
    -- shifts: LSR does not keep the sign; ASRI does, and takes imm. By 32, 33 or 64 LSL and LSR leave 0, and ASR 0 or -1
    ∷ case (0x80000000 ∷ 1 ∷ 0 ∷ []) (of LSL 3 31)
    ∷ case (0 ∷ 0 ∷ 1 ∷ []) (of LSL 3 32)
    ∷ case (0 ∷ 0 ∷ 1 ∷ []) (of LSL 3 33)
    ∷ case (1 ∷ 0 ∷ 0 ∷ []) (of LSR 0x80000000 31)
    ∷ case (0 ∷ 0 ∷ 1 ∷ []) (of LSR 0x80000000 32)
    ∷ case (0 ∷ 0 ∷ 1 ∷ []) (of ASR 0x7FFFFFFF 64)
    ∷ case (0xFFFFFFFF ∷ 1 ∷ 0 ∷ []) (of ASR 0x80000000 64)
    ∷ case (0xF8000000 ∷ 1 ∷ 0 ∷ []) (results 1 (by ASRI 1 2 4 ∷ []) (given 0 0x80000000 0 0 0))
    -- imm is unsigned: 0x8000 is 32,768, and 0xFFC0 65,472
    ∷ case (0 ∷ 0 ∷ 1 ∷ []) (results 1 (by LSLI 1 2 0x8000 ∷ []) (given 0 3 0 0 0))
    ∷ case (0 ∷ 0 ∷ 1 ∷ []) (results 1 (by LSRI 1 2 0xFFC0 ∷ []) (given 0 0xFFFFFFFF 0 0 0))
    ∷ case (0xFFFFFFFF ∷ 1 ∷ 0 ∷ []) (results 1 (by ASRI 1 2 0xFFC0 ∷ []) (given 0 0xFFFFFFFE 0 0 0))
    -- MULF: 1.5 · -1.5 is -2.25, in 65536ths. RECP: a third of 2147483647, toward zero; "of 0 it is 2147483647"
    ∷ case (0xFFFDC000 ∷ 1 ∷ 0 ∷ []) (of MULF 98304 0xFFFE8000)
    ∷ case (715827882 ∷ 0 ∷ 0 ∷ []) (of RECP 3 0)
    ∷ case (0x7FFFFFFF ∷ 0 ∷ 0 ∷ []) (of RECP 0 0)
    -- DOT: four products of 32768 and 32768, each 16384
    ∷ case (65536 ∷ 0 ∷ 0 ∷ []) (of DOT 4 4)
    -- 1 - 2 to R0: the write is lost, R1 stays 0 and the flags follow
    ∷ case (0 ∷ 1 ∷ 0 ∷ []) (results 1 (by SUB 0 2 (3 * 2048) ∷ []) (given 0 1 2 0 0))
    -- jumps to 9. After 5 - 5 JEQ goes, JNE does not, JLE does; after 1 - 2 JLTL goes, as JLT would, and JGT does not
    ∷ case (9 ∷ 0 ∷ []) (goes_to (by JEQ 0 0 9) 5 5)
    ∷ case (2 ∷ 0 ∷ []) (goes_to (by JNE 0 0 9) 5 5)
    ∷ case (9 ∷ 0 ∷ []) (goes_to (by JLE 0 0 9) 5 5)
    ∷ case (9 ∷ 0 ∷ []) (goes_to (by JLTL 0 0 9) 1 2)
    ∷ case (2 ∷ 0 ∷ []) (goes_to (by JGT 0 0 9) 1 2)
    -- CALL goes to R2 plus imm, 7 - 1, and puts the place after it, 2, in R31
    ∷ case (6 ∷ 2 ∷ []) (goes_to (by CALL 0 2 0xFFFF) 7 0)
    -- READ to 1,008: the last 16 words, the first of them bytes 0, 1, 2, 3. WRITE from 3 on: a 1, four 32768s, zeros
    ∷ case (0 ∷ 0x00010203 ∷ 0x3C3D3E3F ∷ []) (words_at 1007 1008 1023 (run current (by READ 1 0 0 ∷ []) 1 (given 1008 0 0 0 0)))
    ∷ case (0 ∷ 1 ∷ 32768 ∷ 0 ∷ []) (halves_at 0 2 18 62 (run current (by WRITE 1 0 0 ∷ []) 1 (given 3 0 0 0 0)))
    -- SCRSET and CLS: 16 by 1, colours from 32 and depths from 0 on; the colour is the low half of R3, the depth that of R1
    ∷ case (32 ∷ 32 ∷ 7 ∷ 7 ∷ [])
    (halves_at 0 30 32 62 (run current (by SCRSET 1 0 513 ∷ by CLS 3 1 0 ∷ []) 2 (given 32 0 0x10007 0 0)))
    -- TREESET: the mask's leaves, 0 to 3, have I, the others O
    ∷ case (0xF000 ∷ 0x0FFF ∷ 0 ∷ []) (marks (planted [] 0 0))
    -- TREEIN with -2, -1, 0, 1, ..: leaves 0 and 1 get O, 3 loses I; R4 is then -2 + 16
    ∷ case (0xE000 ∷ 0xCFFF ∷ 14 ∷ []) (marks (planted (by TREEIN 4 5 0 ∷ []) 0xFFFFFFFE 1))
    -- TREEVAL 0 with depths 8, 9, 10, .. over a stored 9: leaves 2 and 3 are too deep
    ∷ case (0xC000 ∷ 0x3FFF ∷ 0x180000 ∷ []) (marks (planted (by TREEVAL 4 5 0 ∷ []) 0x80000 0x10000))
    -- TREEPUT: TREEVAL 3 gave blue 1, 2, 3, ..; leaves 0 and 3 are put, 4 is not; with no depth held the depth stays
    ∷ case (1 ∷ 4 ∷ 0 ∷ 9 ∷ []) (halves_at 0 6 8 32 (planted (by TREEVAL 4 5 3 ∷ by TREEPUT 0 0 0 ∷ []) 0x10000 0x10000))
    -- after TREEVAL 0 and 1: leaf 0 has depth 8 and red 24, which R4 holds by then; leaf 2, too deep, is not put
    ∷ case (0xC000 ∷ 0 ∷ 8 ∷ 9 ∷ [])
    (halves_at 0 4 32 36 (planted (by TREEVAL 4 5 0 ∷ by TREEVAL 4 5 1 ∷ by TREEPUT 0 0 0 ∷ []) 0x80000 0x10000))
    -- 12 after a program's two words: two steps of the ten allowed. The halts below are in the first step and count none
    ∷ case (2 ∷ 12 ∷ 2 ∷ []) (ends (by LI 1 0 1 ∷ by LI 2 0 2 ∷ []) (given 0 0 0 0 0))
    -- 11: opcode 41
    ∷ case (0 ∷ 11 ∷ 0 ∷ []) (ends (by 41 0 0 0 ∷ []) (given 0 0 0 0 0))
    -- 13: LD at 1,024. "DOT at 1,020 runs, at 1,021 halts."
    ∷ case (0 ∷ 13 ∷ 0 ∷ []) (ends (by LD 1 2 0 ∷ []) (given 0 1024 0 0 0))
    ∷ case (1 ∷ 12 ∷ 1 ∷ []) (ends (three DOT ∷ []) (given 0 1020 1020 0 0))
    ∷ case (0 ∷ 13 ∷ 0 ∷ []) (ends (three DOT ∷ []) (given 0 1020 1021 0 0))
    -- 15: READ to 1,009, before the 16 of its odd RAM address. 16: WRITE to 4, where 64 bytes do not fit
    ∷ case (0 ∷ 15 ∷ 0 ∷ []) (ends (by READ 1 2 0 ∷ []) (given 1009 1 0 0 0))
    ∷ case (0 ∷ 16 ∷ 0 ∷ []) (ends (by WRITE 1 2 0 ∷ []) (given 1008 4 0 0 0))
    -- 17: SCRSET to areas that overlap by two bytes. TREESET with no screen, before the 14 of its column 8
    ∷ case (0 ∷ 17 ∷ 0 ∷ []) (ends (by SCRSET 0 1 513 ∷ []) (given 30 0 0 0 0))
    ∷ case (0 ∷ 17 ∷ 0 ∷ []) (ends (by TREESET 1 0 0 ∷ []) (given 8 0 0 0 0))
    -- 14: TREEPUT with no tree; TREEVAL 4 with one; TREEPUT once SCRSET has dropped it
    ∷ case (0 ∷ 14 ∷ 0 ∷ []) (ends (by TREEPUT 0 0 0 ∷ []) (given 0 0 0 0 0))
    ∷ case (2 ∷ 14 ∷ 2 ∷ []) (ends (by SCRSET 0 1 513 ∷ by TREESET 0 0 0 ∷ by TREEVAL 0 0 4 ∷ []) (given 32 0 0 0 0))
    ∷ case (3 ∷ 14 ∷ 3 ∷ [])
    (ends (by SCRSET 0 1 513 ∷ by TREESET 0 0 0 ∷ by SCRSET 0 1 513 ∷ by TREEPUT 0 0 0 ∷ []) (given 32 0 0 0 0))
    ∷ []
