-- docs/RULES.md, 11 (01, "Halts"): the cases of the table, in its order; "The first row that applies wins."
use Rattle.std.specs.Prelude.{ℕ, ◌+◌, ◌%◌, Bool, ◌&&◌, ◌||◌, not, List, length, get_or, leb, ltb, eqb}
use Rattle.rules.specs.declared.Screen.{Screen}
use Rattle.rules.specs.Folds.{choose}
use Rattle.rules.specs.Sizes.{sound}
use Rattle.instructions.specs.declared.State.{State}
use Rattle.instructions.specs.Opcodes.{LD, ST, DOT, READ, WRITE, SCRSET, CLS, TREESET, TREEIN, TREEVAL, TREEPUT}
use Rattle.instructions.specs.Opcodes.{Edition, no_instruction}
use Rattle.instructions.specs.Words.{opcode, imm, in_r1, in_r2, in_r3, address}
use Rattle.instructions.specs.Tree.{refuses_place}

-- the word at the state's place
abbrev pub word_at : List ℕ → State → ℕ
word_at program s = get_or program s.place 0

-- 12: "place not below the program's length"
abbrev pub past_program : List ℕ → State → Bool
past_program program s = not (ltb s.place (length program))

-- 13: "LD, ST address above 1,023; a DOT start above 1,020"
unfoldable pub outside_data : List ℕ → ℕ → Bool
outside_data regs w =
    (eqb (opcode w) LD || eqb (opcode w) ST) && ltb 1023 (address regs w)
    || eqb (opcode w) DOT && (ltb 1020 (in_r2 regs w) || ltb 1020 (in_r3 regs w))

-- 15: "READ, WRITE data address above 1,008"
abbrev pub is_move : ℕ → Bool
is_move op = eqb op READ || eqb op WRITE

unfoldable pub move_outside_data : List ℕ → ℕ → Bool
move_outside_data regs w = is_move (opcode w) && ltb 1008 (in_r1 regs w)

-- 16: "their RAM address not a multiple of 4, or its 64 bytes not all in RAM"
unfoldable pub move_outside_ram : ℕ → List ℕ → ℕ → Bool
move_outside_ram ram_length regs w =
    is_move (opcode w) && (not (eqb (in_r2 regs w % 4) 0) || not (leb (in_r2 regs w + 64) ram_length))

-- SCRSET's screen: "colour start r1, depth start r2, S = imm"
abbrev pub screen_set : List ℕ → ℕ → Screen
screen_set regs w = record { colour = in_r1 regs w; depth = in_r2 regs w; size = imm w }

-- 17: "SCRSET to a screen not sound; CLS or TREESET with none"
unfoldable pub no_screen : ℕ → State → ℕ → Bool
no_screen ram_length s w =
    eqb (opcode w) SCRSET && not (sound ram_length (screen_set s.regs w))
    || (eqb (opcode w) CLS || eqb (opcode w) TREESET) && not s.shown

-- 14: "TREESET place refused; TREEIN, TREEVAL, TREEPUT with no tree; TREEVAL imm above 3"
unfoldable pub no_tree : State → ℕ → Bool
no_tree s w =
    eqb (opcode w) TREESET && refuses_place s.screen (in_r1 s.regs w) (in_r2 s.regs w)
    || (eqb (opcode w) TREEIN || eqb (opcode w) TREEVAL || eqb (opcode w) TREEPUT) && not s.planted
    || eqb (opcode w) TREEVAL && ltb 3 (imm w)

-- the cases for the word w, after 12
unfoldable pub word_halt : Edition → ℕ → State → ℕ → ℕ
word_halt edition ram_length s w =
    choose (no_instruction edition (opcode w)) 11
    (choose (outside_data s.regs w) 13
    (choose (move_outside_data s.regs w) 15
    (choose (move_outside_ram ram_length s.regs w) 16
    (choose (no_screen ram_length s w) 17
    (choose (no_tree s w) 14 0)))))

-- the number of the halt that the next step of a state not yet halted brings, 0 for none
unfoldable pub halt_number : Edition → List ℕ → ℕ → State → ℕ
halt_number edition program ram_length s = choose (past_program program s) 12 (word_halt edition ram_length s (word_at program s))
