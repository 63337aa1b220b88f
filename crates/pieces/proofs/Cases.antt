-- The halts of each instruction: at its opcode, these cases of 01's table are left, and no other can apply.
use Prim.Native.Nat.{ℕ, ◌+◌, ◌%◌, ◌≤◌, ◌<◌}
use mathlib.Core.Path.{◌≡◌, refl, ◌∙◌, ap}
use mathlib.Core.Bool.{Bool, true, false, ◌||◌, not}
use native.Mathlib.Omega.{arith}
use lib.Dec.{ltb, eqb}
use borrow.Author.Tests.{lt-ltb, le-ltb, ne_eqb}
use Rattle.rules.specs.Folds.{choose}
use Rattle.rules.specs.Sizes.{sound}
use Rattle.rules.proofs.Choices.{not_leb}
use Rattle.instructions.specs.declared.State.{State}
use Rattle.instructions.specs.Opcodes.{LD, ST, JGEL, DOT, READ, WRITE, SCRSET, CLS, TREESET, TREEIN, TREEVAL, TREEPUT}
use Rattle.instructions.specs.Opcodes.{current, is_retired, no_instruction}
use Rattle.instructions.specs.Words.{opcode, imm, in_r1, in_r2, in_r3, address}
use Rattle.instructions.specs.Tree.{refuses_place}
use Rattle.instructions.specs.Halts.{outside_data, move_outside_data, move_outside_ram, no_screen, no_tree, screen_set, word_halt}

or_false : (b : Bool) → (b || false) ≡ b
or_false true = refl
or_false false = refl

module _ (ram_length : ℕ) (s : State) (w : ℕ) where
  -- from LI to JGEL there is none
  pub case-none : ST < opcode w → opcode w ≤ JGEL → word_halt current ram_length s w ≡ 0
  unfolding is_retired no_instruction word_halt outside_data move_outside_data move_outside_ram no_screen no_tree
  case-none l h =
      rw (
        le-ltb TREEPUT (opcode w) (omega arith),
        ne_eqb (opcode w) LD (λ q. omega arith),
        ne_eqb (opcode w) ST (λ q. omega arith),
        ne_eqb (opcode w) DOT (λ q. omega arith),
        ne_eqb (opcode w) READ (λ q. omega arith),
        ne_eqb (opcode w) WRITE (λ q. omega arith),
        ne_eqb (opcode w) SCRSET (λ q. omega arith),
        ne_eqb (opcode w) CLS (λ q. omega arith),
        ne_eqb (opcode w) TREESET (λ q. omega arith),
        ne_eqb (opcode w) TREEIN (λ q. omega arith),
        ne_eqb (opcode w) TREEVAL (λ q. omega arith),
        ne_eqb (opcode w) TREEPUT (λ q. omega arith),
      )

  pub case-LD : opcode w ≡ LD → word_halt current ram_length s w ≡ choose (ltb 1023 (address s.regs w)) 13 0
  unfolding is_retired no_instruction word_halt outside_data move_outside_data move_outside_ram no_screen no_tree
  case-LD e = rw e (ap (λ b. choose b 13 0) (or_false (ltb 1023 (address s.regs w))))

  pub case-ST : opcode w ≡ ST → word_halt current ram_length s w ≡ choose (ltb 1023 (address s.regs w)) 13 0
  unfolding is_retired no_instruction word_halt outside_data move_outside_data move_outside_ram no_screen no_tree
  case-ST e = rw e (ap (λ b. choose b 13 0) (or_false (ltb 1023 (address s.regs w))))

  pub case-DOT : opcode w ≡ DOT
      → word_halt current ram_length s w ≡ choose (ltb 1020 (in_r2 s.regs w) || ltb 1020 (in_r3 s.regs w)) 13 0
  unfolding is_retired no_instruction word_halt outside_data move_outside_data move_outside_ram no_screen no_tree
  case-DOT e = rw e

  -- READ and WRITE have the same
  abbrev pub move_halt : ℕ
  move_halt =
      choose (ltb 1008 (in_r1 s.regs w)) 15
      (choose (not (eqb (in_r2 s.regs w % 4) 0) || ltb ram_length (in_r2 s.regs w + 64)) 16 0)

  pub case-READ : opcode w ≡ READ → word_halt current ram_length s w ≡ move_halt
  unfolding is_retired no_instruction word_halt outside_data move_outside_data move_outside_ram no_screen no_tree
  case-READ e = rw (e, not_leb (in_r2 s.regs w + 64) ram_length)

  pub case-WRITE : opcode w ≡ WRITE → word_halt current ram_length s w ≡ move_halt
  unfolding is_retired no_instruction word_halt outside_data move_outside_data move_outside_ram no_screen no_tree
  case-WRITE e = rw (e, not_leb (in_r2 s.regs w + 64) ram_length)

  pub case-SCRSET : opcode w ≡ SCRSET → word_halt current ram_length s w ≡ choose (not (sound ram_length (screen_set s.regs w))) 17 0
  unfolding is_retired no_instruction word_halt outside_data move_outside_data move_outside_ram no_screen no_tree
  case-SCRSET e = rw e (ap (λ b. choose b 17 0) (or_false (not (sound ram_length (screen_set s.regs w)))))

  pub case-CLS : opcode w ≡ CLS → word_halt current ram_length s w ≡ choose (not s.shown) 17 0
  unfolding is_retired no_instruction word_halt outside_data move_outside_data move_outside_ram no_screen no_tree
  case-CLS e = rw e

  pub case-TREESET : opcode w ≡ TREESET
      → word_halt current ram_length s w
      ≡ choose (not s.shown) 17 (choose (refuses_place s.screen (in_r1 s.regs w) (in_r2 s.regs w)) 14 0)
  unfolding is_retired no_instruction word_halt outside_data move_outside_data move_outside_ram no_screen no_tree
  case-TREESET e =
      let r = refuses_place s.screen (in_r1 s.regs w) (in_r2 s.regs w) in
      rw e (ap (λ b. choose (not s.shown) 17 (choose b 14 0)) (or_false (r || false) ∙ or_false r))

  pub case-TREEIN : opcode w ≡ TREEIN → word_halt current ram_length s w ≡ choose (not s.planted) 14 0
  unfolding is_retired no_instruction word_halt outside_data move_outside_data move_outside_ram no_screen no_tree
  case-TREEIN e = rw e (ap (λ b. choose b 14 0) (or_false (not s.planted)))

  pub case-TREEVAL : opcode w ≡ TREEVAL → word_halt current ram_length s w ≡ choose (not s.planted || ltb 3 (imm w)) 14 0
  unfolding is_retired no_instruction word_halt outside_data move_outside_data move_outside_ram no_screen no_tree
  case-TREEVAL e = rw e

  pub case-TREEPUT : opcode w ≡ TREEPUT → word_halt current ram_length s w ≡ choose (not s.planted) 14 0
  unfolding is_retired no_instruction word_halt outside_data move_outside_data move_outside_ram no_screen no_tree
  case-TREEPUT e = rw e (ap (λ b. choose b 14 0) (or_false (not s.planted)))

  pub case-above : TREEPUT < opcode w → word_halt current ram_length s w ≡ 11
  unfolding is_retired no_instruction word_halt
  case-above h = rw (lt-ltb TREEPUT (opcode w) h)
