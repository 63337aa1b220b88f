-- What a counted step leaves: its place, and what each TREE instruction makes of the tree and of r1. With the laws of Leaves this is what
-- leaf k holds after the step.
use Prim.Native.Nat.{ℕ}
use mathlib.Core.Path.{◌≡◌, ◌∙◌, ap}
use mathlib.Core.Bool.{true}
use mathlib.Core.List.{List}
use Rattle.instructions.specs.Opcodes.{Edition, TREESET, TREEIN, TREEVAL}
use Rattle.instructions.specs.Words.{opcode, r1, imm, in_r1, in_r2, in_r3, with_register}
use Rattle.instructions.specs.Jumps.{next_place}
use Rattle.instructions.specs.Tree.{past_leaves, tree_set, tree_in, tree_val}
use Rattle.instructions.specs.Halts.{word_at}
use Rattle.instructions.specs.Step.{Machine, with_registers, with_place, with_tree}
use Rattle.instructions.specs.Step.{grown, after_treeset, after_treein, after_treeval, effect, performed, step}
use Rattle.instructions.specs.Run.{is_counted}
use Rattle.instructions.proofs.Effects.{effect-TREESET, effect-TREEIN, effect-TREEVAL}
use Rattle.instructions.proofs.Run.{step_counted}

module _ (edition : Edition) (program : List ℕ) (m : Machine) (c : is_counted edition program m ≡ true) where
  pub place_after : (step edition program m).state.place ≡ next_place m.state (word_at program m.state)
  unfolding performed with_place
  place_after = ap (λ k. k.state.place) (step_counted edition program m c)

  tree_after : (k : Machine) → effect m (word_at program m.state) ≡ k → (step edition program m).state.tree ≡ k.state.tree
  unfolding performed with_place
  tree_after k e = ap (λ k. k.state.tree) (step_counted edition program m c) ∙ ap (λ k. k.state.tree) e

  registers_after : (k : Machine) → effect m (word_at program m.state) ≡ k → (step edition program m).state.regs ≡ k.state.regs
  unfolding performed with_place
  registers_after k e = ap (λ k. k.state.regs) (step_counted edition program m c) ∙ ap (λ k. k.state.regs) e

  module _ (w : ℕ) (at : word_at program m.state ≡ w) where
    abbrev regs : List ℕ
    regs = m.state.regs

    pub tree_TREESET : opcode w ≡ TREESET → (step edition program m).state.tree ≡ tree_set (in_r1 regs w) (in_r2 regs w) (in_r3 regs w)
    unfolding after_treeset with_tree
    tree_TREESET e = tree_after (after_treeset m w) (rw at (effect-TREESET m w e))

    pub tree_TREEIN : opcode w ≡ TREEIN → (step edition program m).state.tree ≡ tree_in (in_r1 regs w) (in_r2 regs w) m.state.tree
    unfolding after_treein grown with_tree
    tree_TREEIN e = tree_after (after_treein m w) (rw at (effect-TREEIN m w e))

    pub tree_TREEVAL : opcode w ≡ TREEVAL
        → (step edition program m).state.tree
        ≡ tree_val (imm w) m.state.screen m.ram (in_r1 regs w) (in_r2 regs w) m.state.tree
    unfolding after_treeval grown with_tree
    tree_TREEVAL e = tree_after (after_treeval m w) (rw at (effect-TREEVAL m w e))

    -- "then add 16·r2 to r1"
    pub registers_TREEIN : opcode w ≡ TREEIN
        → (step edition program m).state.regs ≡ with_register regs (r1 w) (past_leaves (in_r1 regs w) (in_r2 regs w))
    unfolding after_treein grown with_tree with_registers
    registers_TREEIN e = registers_after (after_treein m w) (rw at (effect-TREEIN m w e))

    pub registers_TREEVAL : opcode w ≡ TREEVAL
        → (step edition program m).state.regs ≡ with_register regs (r1 w) (past_leaves (in_r1 regs w) (in_r2 regs w))
    unfolding after_treeval grown with_tree with_registers
    registers_TREEVAL e = registers_after (after_treeval m w) (rw at (effect-TREEVAL m w e))
