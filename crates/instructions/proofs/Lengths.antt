-- A step and a run keep the lengths of the data memory, of the RAM and of the registers, and a tree keeps its sixteen leaves.
use Prim.Native.Nat.{ℕ, zero, suc}
use mathlib.Core.Path.{◌≡◌, refl, ◌∙◌}
use mathlib.Core.List.{List}
use lib.ListN.{length, length-set}
use lib.Dec.{eqb}
use Rattle.rules.specs.declared.Screen.{Screen}
use Rattle.rules.specs.Folds.{upto}
use Rattle.rules.specs.Sizes.{width, height, put_pixel}
use Rattle.rules.specs.Calls.{cleared}
use Rattle.rules.proofs.Folds.{upto-keeps}
use Rattle.ram.proofs.Halves.{length-store_half}
use Rattle.rules.proofs.Pixels.{length-put_pixel}
use Rattle.instructions.specs.Opcodes.{Edition}
use Rattle.instructions.specs.declared.Tree.{Tree}
use Rattle.ram.proofs.Words.{length-store_word}
use Rattle.instructions.specs.Moves.{word_read, words_read, word_written, words_written}
use Rattle.instructions.specs.Tree.{mask_bit, tree_set, marked, tree_in, deepened, tree_depth, tree_colour, tree_val}
use Rattle.instructions.specs.Tree.{is_put, leaf_put, tree_put}
use Rattle.instructions.specs.Halts.{word_at}
use Rattle.instructions.specs.Step.{Machine, step, with_registers, with_place, with_flags, with_halt, with_screen, with_tree, grown}
use Rattle.instructions.specs.Step.{after_result, after_st, after_call, after_read, after_write, after_scrset, after_cls}
use Rattle.instructions.specs.Step.{after_treeset, after_treein, after_treeval, after_treeput, effect, performed, is_halted, next_halt}
use Rattle.instructions.specs.Run.{run}
use Rattle.instructions.proofs.Picks.{pick}
use Rattle.instructions.proofs.Leaves.{length-each}
use Rattle.instructions.proofs.Registers.{length_write}
use Rattle.instructions.proofs.Effects.{effect_has}

length-upto : (f : ℕ → List ℕ → List ℕ) (n : ℕ) (l : List ℕ)
    → ((i : ℕ) (k : List ℕ) → length (f i k) ≡ length k)
    → length (upto f n l) ≡ length l
length-upto f n l h = upto-keeps f (λ k. length k ≡ length l) n l (λ i k b e. h i k ∙ e) refl

pub length-words_read : (ram : List ℕ) (to from : ℕ) (memory : List ℕ) → length (words_read ram to from memory) ≡ length memory
unfolding words_read word_read
length-words_read ram to from memory = length-upto (word_read ram to from) 16 memory (λ i k. length-set k _ _)

pub length-words_written : (memory : List ℕ) (from to : ℕ) (ram : List ℕ) → length (words_written memory from to ram) ≡ length ram
unfolding words_written word_written
length-words_written memory from to ram = length-upto (word_written memory from to) 16 ram (λ i k. length-store_word k _ _)

pub length-cleared : (s : Screen) (colour depth : ℕ) (ram : List ℕ) → length (cleared s colour depth ram) ≡ length ram
unfolding cleared
length-cleared s colour depth ram =
    length-upto (λ y. upto (λ x. put_pixel s x y colour depth) (width s.size)) (height s.size) ram
    (λ y k. length-upto (λ x. put_pixel s x y colour depth) (width s.size) k (λ x l. length-put_pixel s x y colour depth l))

pub length-leaf_put : (s : Screen) (t : Tree) (k : ℕ) (ram : List ℕ) → length (leaf_put s t k ram) ≡ length ram
unfolding leaf_put
length-leaf_put s t k ram =
    pick (λ (l : List ℕ). length l ≡ length ram) (is_put t k)
    (λ e. pick (λ (l : List ℕ). length l ≡ length ram) t.held
    (λ f. length-put_pixel s _ _ _ _ ram)
    (λ f. length-store_half ram _ _))
    (λ e. refl)

pub length-tree_put : (s : Screen) (t : Tree) (ram : List ℕ) → length (tree_put s t ram) ≡ length ram
unfolding tree_put
length-tree_put s t ram = length-upto (leaf_put s t) 16 ram (length-leaf_put s t)

pub record SameLengths (m k : Machine) : Type 0 where
  pub memory : length k.memory ≡ length m.memory
  pub ram : length k.ram ≡ length m.ram
  pub registers : length k.state.regs ≡ length m.state.regs

pub lengths_then : {m k l : Machine} → SameLengths m k → SameLengths k l → SameLengths m l
lengths_then a b = record {
  memory = b.memory ∙ a.memory;
  ram = b.ram ∙ a.ram;
  registers = b.registers ∙ a.registers;
}

same : (m : Machine) → SameLengths m m
same m = record { memory = refl; ram = refl; registers = refl }

effect_keeps_lengths : (m : Machine) (w : ℕ) → SameLengths m (effect m w)
unfolding after_result after_st after_call after_read after_write after_scrset after_cls
    after_treeset grown after_treein after_treeval after_treeput with_registers with_flags with_screen with_tree
effect_keeps_lengths m w =
    effect_has (SameLengths m) m w
    (record {
      on_result = record { memory = refl; ram = refl; registers = length_write m.state.regs _ _ };
      on_st = record { memory = length-set m.memory _ _; ram = refl; registers = refl };
      on_call = record { memory = refl; ram = refl; registers = length_write m.state.regs _ _ };
      on_read = record { memory = length-words_read m.ram _ _ m.memory; ram = refl; registers = refl };
      on_write = λ e. record { memory = refl; ram = length-words_written m.memory _ _ m.ram; registers = refl };
      on_scrset = λ e. record { memory = refl; ram = refl; registers = refl };
      on_cls = λ e. record { memory = refl; ram = length-cleared m.state.screen _ _ m.ram; registers = refl };
      on_treeset = λ e. record { memory = refl; ram = refl; registers = refl };
      on_treein = λ e. record { memory = refl; ram = refl; registers = length_write m.state.regs _ _ };
      on_treeval = λ e. record { memory = refl; ram = refl; registers = length_write m.state.regs _ _ };
      on_treeput = λ e. record { memory = refl; ram = length-tree_put m.state.screen m.state.tree m.ram; registers = refl };
      on_jump = same m;
    })

pub performed_keeps_lengths : (m : Machine) (w : ℕ) → SameLengths m (performed m w)
unfolding performed with_place
performed_keeps_lengths m w =
    let h : SameLengths m (effect m w) = effect_keeps_lengths m w in
    record { memory = h.memory; ram = h.ram; registers = h.registers }

pub step_keeps_lengths : (edition : Edition) (program : List ℕ) (m : Machine) → SameLengths m (step edition program m)
unfolding step with_halt
step_keeps_lengths edition program m =
    pick (SameLengths m) (is_halted m) (λ e. same m)
    (λ e. pick (SameLengths m) (eqb (next_halt edition program m) 0)
    (λ f. performed_keeps_lengths m (word_at program m.state))
    (λ f. record { memory = refl; ram = refl; registers = refl }))

pub run_keeps_lengths : (edition : Edition) (program : List ℕ) (n : ℕ) (m : Machine) → SameLengths m (run edition program n m)
unfolding run
run_keeps_lengths edition program zero m = same m
run_keeps_lengths edition program (suc n) m =
    lengths_then (step_keeps_lengths edition program m) (run_keeps_lengths edition program n (step edition program m))

-- what each TREE instruction keeps of the tree, a run keeps
pub record TreesKeep (P : Tree → Type 0) : Type 0 where
  pub by_treeset : (column row mask : ℕ) → P (tree_set column row mask)
  pub by_treein : (a b : ℕ) (t : Tree) → P t → P (tree_in a b t)
  pub by_treeval : (kind : ℕ) (s : Screen) (ram : List ℕ) (a b : ℕ) (t : Tree) → P t → P (tree_val kind s ram a b t)

module _ (P : Tree → Type 0) (kept : TreesKeep P) where
  effect_keeps_tree : (m : Machine) (w : ℕ) → P m.state.tree → P (effect m w).state.tree
  unfolding after_result after_st after_call after_read after_write after_scrset after_cls after_treeset after_treein after_treeval after_treeput
      grown with_registers with_flags with_screen with_tree
  effect_keeps_tree m w h =
      effect_has (λ k. P k.state.tree) m w
      (record {
        on_result = h;
        on_st = h;
        on_call = h;
        on_read = h;
        on_write = λ e. h;
        on_scrset = λ e. h;
        on_cls = λ e. h;
        on_treeset = λ e. kept.by_treeset _ _ _;
        on_treein = λ e. kept.by_treein _ _ _ h;
        on_treeval = λ e. kept.by_treeval _ _ _ _ _ _ h;
        on_treeput = λ e. h;
        on_jump = h;
      })

  pub step_keeps_tree : (edition : Edition) (program : List ℕ) (m : Machine) → P m.state.tree → P (step edition program m).state.tree
  unfolding step performed with_place with_halt
  step_keeps_tree edition program m h =
      pick (λ (k : Machine). P k.state.tree) (is_halted m) (λ e. h)
      (λ e. pick (λ (k : Machine). P k.state.tree) (eqb (next_halt edition program m) 0)
      (λ f. effect_keeps_tree m (word_at program m.state) h)
      (λ f. h))

  pub run_keeps_tree : (edition : Edition) (program : List ℕ) (n : ℕ) (m : Machine)
      → P m.state.tree
      → P (run edition program n m).state.tree
  unfolding run
  run_keeps_tree edition program zero m h = h
  run_keeps_tree edition program (suc n) m h =
      run_keeps_tree edition program n (step edition program m) (step_keeps_tree edition program m h)

-- "Sixteen leaves": of the marks alone, since those of any lent state are sixteen, and of all four
pub record SixteenMarks (t : Tree) : Type 0 where
  pub marks_i : length t.inside ≡ 16
  pub marks_o : length t.outside ≡ 16

pub record Sixteen (t : Tree) : Type 0 where
  pub marks : SixteenMarks t
  pub colours : length t.colour ≡ 16
  pub depths : length t.depth ≡ 16

marks_kept : TreesKeep SixteenMarks
unfolding tree_set tree_in tree_val tree_depth marked deepened tree_colour
marks_kept = record {
  by_treeset = λ column row mask. record { marks_i = length-each (mask_bit mask) 16; marks_o = length-each _ 16 };
  by_treein = λ a b t h. record { marks_i = length-each _ 16; marks_o = length-each _ 16 };
  by_treeval = λ kind s ram a b t h.
      pick SixteenMarks (eqb kind 0)
      (λ e. record { marks_i = length-each _ 16; marks_o = length-each _ 16 })
      (λ e. record { marks_i = h.marks_i; marks_o = h.marks_o });
}

pub run_keeps_marks : (edition : Edition) (program : List ℕ) (n : ℕ) (m : Machine)
    → SixteenMarks m.state.tree
    → SixteenMarks (run edition program n m).state.tree
run_keeps_marks = run_keeps_tree SixteenMarks marks_kept

sixteen_kept : TreesKeep Sixteen
unfolding tree_set tree_in tree_val tree_depth marked deepened tree_colour
sixteen_kept = record {
  by_treeset = λ column row mask. record {
    marks = marks_kept.by_treeset column row mask;
    colours = length-each _ 16;
    depths = length-each _ 16;
  };
  by_treein = λ a b t h. record { marks = marks_kept.by_treein a b t h.marks; colours = h.colours; depths = h.depths };
  by_treeval = λ kind s ram a b t h. pick Sixteen (eqb kind 0)
      (λ e. record {
        marks = record { marks_i = length-each _ 16; marks_o = length-each _ 16 };
        colours = h.colours;
        depths = length-each _ 16;
      })
      (λ e. record {
        marks = record { marks_i = h.marks.marks_i; marks_o = h.marks.marks_o };
        colours = length-each _ 16;
        depths = h.depths;
      });
}

pub run_keeps_sixteen : (edition : Edition) (program : List ℕ) (n : ℕ) (m : Machine)
    → Sixteen m.state.tree
    → Sixteen (run edition program n m).state.tree
run_keeps_sixteen = run_keeps_tree Sixteen sixteen_kept
