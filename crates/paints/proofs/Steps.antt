-- What a step paints: of a well-formed state, each instruction finds the sound screen and the tree's place that its painting needs.
use Prim.Native.Nat.{ℕ, ◌<◌}
use mathlib.Core.Path.{◌≡◌, refl, ◌∙◌, ap}
use mathlib.Core.Logic.{◌≢◌}
use mathlib.Core.Bool.{Bool, true, false, ◌&&◌, ◌||◌, not, true≢false}
use mathlib.Core.List.{List}
use native.Mathlib.Omega.{arith}
use lib.ListN.{length}
use lib.Dec.{eqb}
use borrow.Author.Tests.{eqb-true}
use Rattle.rules.specs.declared.Screen.{Screen}
use Rattle.rules.specs.Folds.{choose}
use Rattle.rules.specs.Sizes.{width, height}
use Rattle.rules.specs.Triangles.{top_half}
use Rattle.rules.proofs.Pixels.{and_r}
use Rattle.instructions.specs.declared.Tree.{Tree}
use Rattle.instructions.specs.Opcodes.{Edition, WRITE, CLS, TREESET, TREEIN, TREEVAL, TREEPUT}
use Rattle.instructions.specs.Words.{opcode, imm, in_r1, in_r2}
use Rattle.instructions.specs.Arithmetic.{low_half}
use Rattle.instructions.specs.Tree.{mark_i, mark_o, leaf_colour, leaf_value}
use Rattle.instructions.specs.Halts.{word_at}
use Rattle.instructions.specs.Step.{Machine, with_state, with_halt, after_result, after_st, after_call, after_read, after_scrset, after_cls}
use Rattle.instructions.specs.Step.{after_treeset, grown, after_treein, after_treeval, after_treeput, effect, performed, is_halted, next_halt}
use Rattle.instructions.specs.Step.{step}
use Rattle.instructions.specs.Run.{is_counted, ill_formed}
use Rattle.instructions.proofs.Leaves.{Leaf, leaf_TREEVAL_depth}
use Rattle.instructions.proofs.Halts.{NoHalt, goes_on, CLS_shown, TREEVAL-planted, TREEPUT-planted}
use Rattle.instructions.proofs.Effects.{effect_has, effect-CLS, effect-TREEPUT}
use Rattle.instructions.proofs.Standing.{leaf_on}
use Rattle.instructions.proofs.WellFormed.{WellFormed, well_formed_facts}
use Rattle.instructions.proofs.Run.{step_counted}
use Rattle.instructions.proofs.Trees.{tree_TREEVAL}
use Rattle.paints.specs.Paint.{everywhere, PaintedWith}
use Rattle.paints.specs.Trees.{leaf_column, leaf_colours, leaf_depths, behind_pixel}
use Rattle.paints.proofs.Painted.{clear_paints}
use Rattle.paints.proofs.Put.{tree_put_paints}

-- WRITE, CLS and TREEPUT alone change the RAM
module _ (m : Machine) (w : ℕ) (a : opcode w ≢ WRITE) (b : opcode w ≢ CLS) (c : opcode w ≢ TREEPUT) where
  effect_keeps_ram : (effect m w).ram ≡ m.ram
  unfolding after_result after_st after_call after_read after_scrset after_treeset grown after_treein after_treeval
  effect_keeps_ram =
      effect_has (λ k. k.ram ≡ m.ram) m w
      (record {
        on_result = refl;
        on_st = refl;
        on_call = refl;
        on_read = refl;
        on_write = λ e. absurd (a e);
        on_scrset = λ e. refl;
        on_cls = λ e. absurd (b e);
        on_treeset = λ e. refl;
        on_treein = λ e. refl;
        on_treeval = λ e. refl;
        on_treeput = λ e. absurd (c e);
        on_jump = refl;
      })

-- a step that is not carried out leaves the screen and the RAM
pub record Untouched (m k : Machine) : Type 0 where
  pub screen : k.state.screen ≡ m.state.screen
  pub ram : k.ram ≡ m.ram

pub uncounted_keeps : (edition : Edition) (program : List ℕ) (m : Machine)
    → is_counted edition program m ≡ false
    → Untouched m (step edition program m)
unfolding step is_counted with_halt
uncounted_keeps edition program m e = go (is_halted m) (eqb (next_halt edition program m) 0) e
  where
    go : (a b : Bool) → (not a && b) ≡ false
        → Untouched m
        (choose a m
        (choose b (performed m (word_at program m.state)) (with_state (with_halt (next_halt edition program m) m.state) m)))
    go true b e = record { screen = refl; ram = refl }
    go false true e = absurd (true≢false e)
    go false false e = record { screen = refl; ram = refl }

-- a step that is carried out, of a well-formed state
module _ (edition : Edition) (program : List ℕ) (m : Machine)
    (good : ill_formed (length m.ram) m.state ≡ false)
    (c : is_counted edition program m ≡ true) where
  abbrev regs : List ℕ
  regs = m.state.regs

  abbrev screen : Screen
  screen = m.state.screen

  abbrev tree : Tree
  tree = m.state.tree

  facts : WellFormed (length m.ram) m.state
  facts = well_formed_facts good

  no_halt : NoHalt edition (length m.ram) m.state (word_at program m.state)
  unfolding is_counted
  no_halt =
      goes_on edition program (length m.ram) m.state
      (eqb-true (next_halt edition program m) 0 (and_r (not (is_halted m)) (eqb (next_halt edition program m) 0) c))

  ram-after : (step edition program m).ram ≡ (effect m (word_at program m.state)).ram
  unfolding performed
  ram-after = ap (λ k. k.ram) (step_counted edition program m c)

  module _ (w : ℕ) (at : word_at program m.state ≡ w) where
    here : NoHalt edition (length m.ram) m.state w
    here = rw at at no_halt

    -- every pixel of the screen gets the low halves of r1 and of r2
    pub CLS-paints : opcode w ≡ CLS
        → PaintedWith screen (everywhere (low_half (in_r1 regs w))) (everywhere (low_half (in_r2 regs w)))
        m.ram (step edition program m).ram
    unfolding after_cls
    CLS-paints e =
        rw (ram-after, at, effect-CLS m w e)
        (clear_paints screen m.ram (facts.screen_sound (CLS_shown here e)) (low_half (in_r1 regs w)) (low_half (in_r2 regs w)))

    pub TREEPUT-paints : opcode w ≡ TREEPUT → PaintedWith screen (leaf_colours tree) (leaf_depths tree) m.ram (step edition program m).ram
    unfolding after_treeput
    TREEPUT-paints e =
        let planted = TREEPUT-planted here e in
        rw (ram-after, at, effect-TREEPUT m w e)
        (tree_put_paints screen m.ram (facts.screen_sound (facts.tree_shown planted)) tree (facts.tree_place planted))

    -- all others but WRITE
    pub paints_nothing : opcode w ≢ WRITE → opcode w ≢ CLS → opcode w ≢ TREEPUT → (step edition program m).ram ≡ m.ram
    paints_nothing p q r = ram-after ∙ ap (λ v. (effect m v).ram) at ∙ effect_keeps_ram m w p q r

    pub TREESET_paints_nothing : opcode w ≡ TREESET → (step edition program m).ram ≡ m.ram
    TREESET_paints_nothing e = paints_nothing (λ q. omega arith) (λ q. omega arith) (λ q. omega arith)

    pub TREEIN_paints_nothing : opcode w ≡ TREEIN → (step edition program m).ram ≡ m.ram
    TREEIN_paints_nothing e = paints_nothing (λ q. omega arith) (λ q. omega arith) (λ q. omega arith)

    pub TREEVAL_paints_nothing : opcode w ≡ TREEVAL → (step edition program m).ram ≡ m.ram
    TREEVAL_paints_nothing e = paints_nothing (λ q. omega arith) (λ q. omega arith) (λ q. omega arith)

    -- TREEVAL 0 judges each leaf against the stored depth of its pixel, a pixel of the screen
    pub TREEVAL_judges : opcode w ≡ TREEVAL → imm w ≡ 0 → (k : ℕ) → k < 16
        → Leaf (step edition program m).state.tree k
        (record {
          inside = mark_i tree k && not (behind_pixel screen m.ram tree (in_r1 regs w) (in_r2 regs w) k);
          outside = mark_o tree k || behind_pixel screen m.ram tree (in_r1 regs w) (in_r2 regs w) k;
          colour = leaf_colour tree k;
          depth = top_half (leaf_value (in_r1 regs w) (in_r2 regs w) k);
        })
    TREEVAL_judges e z k h =
        rw (tree_TREEVAL edition program m c w at e, z) (leaf_TREEVAL_depth h (in_r1 regs w) (in_r2 regs w) tree screen m.ram)

    pub TREEVAL_on_screen : opcode w ≡ TREEVAL → (k : ℕ) → k < 16
        → (leaf_column tree k < width screen.size) × (tree.row < height screen.size)
    TREEVAL_on_screen e k h =
        let on = leaf_on screen tree.column tree.row (facts.tree_place (TREEVAL-planted here e)) h in
        (on.across, on.down)
