-- A well-formed state stays well-formed, step after step, and so an accepted call's outcome is accepted again.
use Prim.Native.Nat.{ℕ, zero, suc}
use mathlib.Core.Path.{◌≡◌, refl, ◌∙◌, ap}
use mathlib.Core.Bool.{Bool, true, false, ◌&&◌, ◌||◌, not, false≢true}
use mathlib.Core.List.{List}
use lib.ListN.{length}
use lib.Dec.{ltb, eqb}
use borrow.Author.Tests.{eqb-true, not-false}
use Rattle.rules.specs.declared.Screen.{Screen}
use Rattle.rules.specs.Sizes.{sound}
use Rattle.rules.specs.Numbers.{too_long}
use Rattle.instructions.specs.declared.State.{State}
use Rattle.instructions.specs.declared.Tree.{Tree}
use Rattle.instructions.specs.Opcodes.{Edition, TREESET}
use Rattle.instructions.specs.Words.{opcode, in_r1, in_r2, in_r3, register, with_register}
use Rattle.instructions.specs.Tree.{refuses_place, tree_set, marked, tree_in, deepened, tree_depth, tree_colour, tree_val}
use Rattle.instructions.specs.Halts.{word_at}
use Rattle.instructions.specs.Step.{Machine, step, with_registers, with_place, with_flags, with_halt, with_screen, with_tree, grown}
use Rattle.instructions.specs.Step.{after_result, after_st, after_call, after_read, after_write, after_scrset, after_cls}
use Rattle.instructions.specs.Step.{after_treeset, after_treein, after_treeval, after_treeput, effect, performed, is_halted, next_halt}
use Rattle.instructions.specs.Run.{run, is_halt_number, ill_formed, machine_number, run_number, fresh_state}
use Rattle.instructions.proofs.Picks.{pick, no_case, or_none, and_none, none_and}
use Rattle.instructions.proofs.Registers.{write_keeps_zero}
use Rattle.instructions.proofs.Halts.{NoHalt, goes_on, halt_known_lem}
use Rattle.instructions.proofs.Halts.{SCRSET-sound, TREESET_shown, TREESET-place, TREEIN-planted, TREEVAL-planted}
use Rattle.instructions.proofs.Effects.{effect_has}
use Rattle.instructions.proofs.Lengths.{SameLengths, step_keeps_lengths, run_keeps_lengths}

-- a well-formed state, in plain facts
pub record WellFormed (ram_length : ℕ) (s : State) : Type 0 where
  pub zero_register : register s.regs 0 ≡ 0
  pub halt_known : is_halt_number s.halt ≡ true
  pub screen_sound : s.shown ≡ true → sound ram_length s.screen ≡ true
  pub tree_shown : s.planted ≡ true → s.shown ≡ true
  pub tree_place : s.planted ≡ true → refuses_place s.screen s.tree.column s.tree.row ≡ false

module _ {ram_length : ℕ} {s : State} where
  pub well_formed_facts : ill_formed ram_length s ≡ false → WellFormed ram_length s
  unfolding ill_formed
  well_formed_facts e =
      let a : Bool = not (eqb (register s.regs 0) 0) in
      let b : Bool = not (is_halt_number s.halt) in
      let c : Bool = s.shown && not (sound ram_length s.screen) in
      let d : Bool = s.planted && not s.shown in
      let f : Bool = s.planted && refuses_place s.screen s.tree.column s.tree.row in
      let (abcd, no_f) = or_none (a || b || c || d) f e in
      let (abc, no_d) = or_none (a || b || c) d abcd in
      let (ab, no_c) = or_none (a || b) c abc in
      let (no_a, no_b) = or_none a b ab in
      record {
        zero_register = eqb-true (register s.regs 0) 0 (not-false (eqb (register s.regs 0) 0) no_a);
        halt_known = not-false (is_halt_number s.halt) no_b;
        screen_sound = λ h. not-false (sound ram_length s.screen) (and_none s.shown (not (sound ram_length s.screen)) no_c h);
        tree_shown = λ h. not-false s.shown (and_none s.planted (not s.shown) no_d h);
        tree_place = λ h. and_none s.planted (refuses_place s.screen s.tree.column s.tree.row) no_f h;
      }

  pub well_formed_test : WellFormed ram_length s → ill_formed ram_length s ≡ false
  unfolding ill_formed
  well_formed_test h = rw (h.zero_register, h.halt_known, screen, shown, place)
    where
      screen : (s.shown && not (sound ram_length s.screen)) ≡ false
      screen = none_and s.shown (not (sound ram_length s.screen)) (λ e. ap not (h.screen_sound e))

      shown : (s.planted && not s.shown) ≡ false
      shown = none_and s.planted (not s.shown) (λ e. ap not (h.tree_shown e))

      place : (s.planted && refuses_place s.screen s.tree.column s.tree.row) ≡ false
      place = none_and s.planted (refuses_place s.screen s.tree.column s.tree.row) h.tree_place

-- the tree's place stays, but for TREESET
module _ (kind : ℕ) (s : Screen) (ram : List ℕ) (a b : ℕ) (t : Tree) where
  tree_val-column : (tree_val kind s ram a b t).column ≡ t.column
  unfolding tree_val tree_depth marked deepened tree_colour
  tree_val-column = pick (λ (u : Tree). u.column ≡ t.column) (eqb kind 0) (λ e. refl) (λ e. refl)

  tree_val-row : (tree_val kind s ram a b t).row ≡ t.row
  unfolding tree_val tree_depth marked deepened tree_colour
  tree_val-row = pick (λ (u : Tree). u.row ≡ t.row) (eqb kind 0) (λ e. refl) (λ e. refl)

module _ {ram_length : ℕ} {s : State} (h : WellFormed ram_length s) where
  -- the registers change, but for R0
  written : (i v : ℕ) → WellFormed ram_length (with_registers (with_register s.regs i v) s)
  unfolding with_registers
  written i v = record {
    zero_register = write_keeps_zero s.regs v i ∙ h.zero_register;
    halt_known = h.halt_known;
    screen_sound = h.screen_sound;
    tree_shown = h.tree_shown;
    tree_place = h.tree_place;
  }

  flagged : (v : ℕ) → WellFormed ram_length (with_flags v s)
  unfolding with_flags
  flagged v = record {
    zero_register = h.zero_register;
    halt_known = h.halt_known;
    screen_sound = h.screen_sound;
    tree_shown = h.tree_shown;
    tree_place = h.tree_place;
  }

  placed : (p : ℕ) → WellFormed ram_length (with_place p s)
  unfolding with_place
  placed p = record {
    zero_register = h.zero_register;
    halt_known = h.halt_known;
    screen_sound = h.screen_sound;
    tree_shown = h.tree_shown;
    tree_place = h.tree_place;
  }

  halted : (n : ℕ) → is_halt_number n ≡ true → WellFormed ram_length (with_halt n s)
  unfolding with_halt
  halted n k = record {
    zero_register = h.zero_register;
    halt_known = k;
    screen_sound = h.screen_sound;
    tree_shown = h.tree_shown;
    tree_place = h.tree_place;
  }

  screened : (screen : Screen) → sound ram_length screen ≡ true → WellFormed ram_length (with_screen screen s)
  unfolding with_screen
  screened screen k = record {
    zero_register = h.zero_register;
    halt_known = h.halt_known;
    screen_sound = λ e. k;
    tree_shown = λ e. refl;
    tree_place = λ e. absurd (false≢true e);
  }

  treed : (t : Tree)
      → s.shown ≡ true
      → refuses_place s.screen t.column t.row ≡ false
      → WellFormed ram_length (with_tree t s)
  unfolding with_tree
  treed t k p = record {
    zero_register = h.zero_register;
    halt_known = h.halt_known;
    screen_sound = h.screen_sound;
    tree_shown = λ e. k;
    tree_place = λ e. p;
  }

-- TREEIN and TREEVAL
grows : {ram_length : ℕ} {s : State} (w : ℕ) (t : Tree)
    → WellFormed ram_length s
    → s.planted ≡ true
    → t.column ≡ s.tree.column
    → t.row ≡ s.tree.row
    → WellFormed ram_length (grown s w t)
unfolding grown with_registers
grows w t h k c r = treed (written h _ _) t (h.tree_shown k) (rw (c, r) (h.tree_place k))

-- k's state is well-formed in m's RAM
abbrev Good : Machine → Machine → Type 0
Good m k = WellFormed (length m.ram) k.state

module _ {edition : Edition} (m : Machine) (w : ℕ) where
  effect_well_formed : NoHalt edition (length m.ram) m.state w → Good m m → Good m (effect m w)
  unfolding after_result after_st after_call after_read after_write after_scrset after_cls after_treeset after_treein after_treeval after_treeput
  effect_well_formed n h =
      effect_has (Good m) m w
      (record {
        on_result = flagged (written h _ _) _;
        on_st = h;
        on_call = written h _ _;
        on_read = h;
        on_write = λ e. h;
        on_scrset = λ e. screened h _ (SCRSET-sound n e);
        on_cls = λ e. h;
        on_treeset = λ e. set_up e;
        on_treein = λ e. grows w _ h (TREEIN-planted n e) in_column_lem in_row;
        on_treeval = λ e. grows w _ h (TREEVAL-planted n e) (tree_val-column _ _ _ _ _ _) (tree_val-row _ _ _ _ _ _);
        on_treeput = λ e. h;
        on_jump = h;
      })
    where
      regs : List ℕ
      regs = m.state.regs

      set_up : opcode w ≡ TREESET
          → WellFormed (length m.ram) (with_tree (tree_set (in_r1 regs w) (in_r2 regs w) (in_r3 regs w)) m.state)
      set_up e = treed h _ (TREESET_shown n e) (unfold tree_set in TREESET-place n e)

      in_column_lem : (tree_in (in_r1 regs w) (in_r2 regs w) m.state.tree).column ≡ m.state.tree.column
      in_column_lem = unfold tree_in marked in refl

      in_row : (tree_in (in_r1 regs w) (in_r2 regs w) m.state.tree).row ≡ m.state.tree.row
      in_row = unfold tree_in marked in refl

  performed_well_formed : NoHalt edition (length m.ram) m.state w → Good m m → Good m (performed m w)
  unfolding performed
  performed_well_formed n h = placed (effect_well_formed n h) _

module _ (edition : Edition) (program : List ℕ) where
  pub step-good : (m : Machine) → Good m m → Good m (step edition program m)
  unfolding step
  step-good m h =
      pick (Good m) (is_halted m) (λ e. h)
      (λ e. pick (Good m) (eqb (next_halt edition program m) 0)
      (λ f. performed_well_formed m (word_at program m.state)
      (goes_on edition program (length m.ram) m.state (eqb-true (next_halt edition program m) 0 f)) h)
      (λ f. halted h (next_halt edition program m) (halt_known_lem edition program (length m.ram) m.state)))

  pub step_well_formed : (m : Machine)
      → ill_formed (length m.ram) m.state ≡ false
      → ill_formed (length (step edition program m).ram) (step edition program m).state ≡ false
  step_well_formed m e = rw (step_keeps_lengths edition program m).ram (well_formed_test (step-good m (well_formed_facts e)))

  pub run_well_formed : (n : ℕ) (m : Machine)
      → ill_formed (length m.ram) m.state ≡ false
      → ill_formed (length (run edition program n m).ram) (run edition program n m).state ≡ false
  unfolding run
  run_well_formed zero m e = e
  run_well_formed (suc n) m e = run_well_formed n (step edition program m) (step_well_formed m e)

  -- "R0 is always 0"
  pub step_zero_register : (m : Machine)
      → ill_formed (length m.ram) m.state ≡ false
      → register (step edition program m).state.regs 0 ≡ 0
  step_zero_register m e = (well_formed_facts (step_well_formed m e)).zero_register

  pub run_zero_register : (n : ℕ) (m : Machine)
      → ill_formed (length m.ram) m.state ≡ false
      → register (run edition program n m).state.regs 0 ≡ 0
  run_zero_register n m e = (well_formed_facts (run_well_formed n m e)).zero_register

  -- an accepted call's outcome is accepted again
  pub run-accepted : (n : ℕ) (m : Machine) → run_number program m ≡ 0 → run_number program (run edition program n m) ≡ 0
  unfolding machine_number
  run-accepted n m e =
      let l : SameLengths m (run edition program n m) = run_keeps_lengths edition program n m in
      let (a, e1) = no_case 0 (ltb 1024 (length program)) e in
      let (b, e2) = no_case 1 (not (eqb (length m.memory) 1024)) e1 in
      let (c, e3) = no_case 2 (too_long (length m.ram)) e2 in
      let (d, e4) = no_case 3 (ill_formed (length m.ram) m.state) e3 in
      rw (a, l.memory, b, run_well_formed n m d, l.ram, c)

-- a fresh state is well-formed in any RAM
pub fresh_well_formed : (ram_length : ℕ) → ill_formed ram_length fresh_state ≡ false
unfolding ill_formed fresh_state
fresh_well_formed ram_length = refl
