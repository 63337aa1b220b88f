-- The pieces after an instruction from SCRSET on, put together, are the machine after its step; and what a state promises of its
-- screen and tree.
use Prim.Native.Nat.{ℕ, ◌+◌}
use mathlib.Core.Path.{◌≡◌, sym, ◌∙◌, ap}
use mathlib.Core.Logic.{◌≢◌}
use mathlib.Core.Bool.{true, false}
use mathlib.Core.List.{List}
use lib.ListN.{length}
use borrow.Author.Tests.{le-ltb, ne_eqb}
use Rattle.std.proofs.Common.{rules, arith, Result, Ok, Err}
use Rattle.std.specs.Prelude.{IsOk}
use Rattle.rules.specs.declared.Refusal.{Refusal}
use Rattle.rules.specs.declared.Refusal.TheVariants.{ProgramTooLong, WrongDataMemory, RamTooLong, IllFormedState, UnsoundScreen}
use Rattle.rules.specs.declared.Refusal.TheVariants.{VertexOutOfRange, EdgeTooLarge, NoSuchRow, NoPlane, PanelOutOfRange}
use Rattle.rules.specs.Answers.{number_of}
use Rattle.rules.specs.declared.Screen.{Screen}
use Rattle.rules.specs.Sizes.{ram_limit}
use Rattle.rules.specs.Numbers.{screen_number}
use Rattle.rules.specs.Calls.{cleared}
use Rattle.instructions.specs.declared.Tree.{Tree}
use Rattle.instructions.specs.Opcodes.{current, SCRSET, CLS, TREESET, TREEIN, TREEVAL, TREEPUT}
use Rattle.instructions.specs.Words.{opcode, r1, imm, in_r1, in_r2, in_r3, with_register}
use Rattle.instructions.specs.Arithmetic.{low_half}
use Rattle.instructions.specs.Jumps.{is_jump}
use Rattle.instructions.specs.Tree.{tree_set, tree_in, tree_depth, tree_colour, tree_val, tree_put, past_leaves}
use Rattle.instructions.specs.Halts.{screen_set, word_halt}
use Rattle.instructions.specs.Step.{Machine, with_registers, with_screen, with_tree, after_scrset, after_cls, after_treeset, effect}
use Rattle.instructions.specs.Step.{grown, after_treein, after_treeval, after_treeput}
use Rattle.instructions.proofs.Effects.{effect-SCRSET, effect-CLS, effect-TREESET, effect-TREEIN, effect-TREEVAL, effect-TREEPUT}
use Rattle.tree.specs.Leaves.{Placed}
use Rattle.pieces.specs.declared.state.Cpu.{Cpu}
use Rattle.pieces.specs.declared.state.View.{View}
use Rattle.pieces.specs.Pieces.{joined, machine, at, screened, treed}
use Rattle.pieces.specs.Steps.{stepped, Shows}
use Rattle.pieces.proofs.Joined.{goes_onward}

-- the screen is one that a clear accepts, and the tree one that stands on it
module _ {ram_length : ℕ} {view : View} (s : Shows ram_length view) where
  pub accepts : view.shown ≡ true → screen_number ram_length view.screen ≡ 0
  unfolding screen_number
  accepts h = rw (le-ltb ram_limit ram_length s.limit, s.screen_sound h)

  pub placed : view.planted ≡ true → Placed ram_length view.screen view.tree
  placed h = record { is_sound = s.screen_sound (s.tree_shown h); accepted = s.tree_place h }

-- TREEVAL by its imm: a depth at 0, else a colour
module _ (kind : ℕ) (s : Screen) (ram : List ℕ) (a b : ℕ) (t : Tree) where
  pub val_depth : kind ≡ 0 → tree_val kind s ram a b t ≡ tree_depth s ram a b t
  unfolding tree_val
  val_depth e = rw e

  pub val_colour : kind ≢ 0 → tree_val kind s ram a b t ≡ tree_colour kind a b t
  unfolding tree_val
  val_colour d = rw (ne_eqb kind 0 d)

-- a call that no number refuses is done
pub is_done : (answer : Result (Unit {0}) Refusal) → number_of answer ≡ 0 → IsOk answer
is_done (Ok _) e = search rules
is_done (Err ProgramTooLong) e = absurd (omega (arith, e))
is_done (Err WrongDataMemory) e = absurd (omega (arith, e))
is_done (Err RamTooLong) e = absurd (omega (arith, e))
is_done (Err IllFormedState) e = absurd (omega (arith, e))
is_done (Err UnsoundScreen) e = absurd (omega (arith, e))
is_done (Err VertexOutOfRange) e = absurd (omega (arith, e))
is_done (Err EdgeTooLarge) e = absurd (omega (arith, e))
is_done (Err NoSuchRow) e = absurd (omega (arith, e))
is_done (Err NoPlane) e = absurd (omega (arith, e))
is_done (Err PanelOutOfRange) e = absurd (omega (arith, e))

module _ (regs : List ℕ) (cpu : Cpu) (given : ℕ) (view : View) (memory ram : List ℕ) (w : ℕ) where
  abbrev before : Machine
  before = machine regs cpu given view memory ram

  abbrev halt : ℕ
  halt = word_halt current (length ram) (joined regs cpu given view) w

  -- on to the next place
  module _ (z : halt ≡ 0) (cpu' : Cpu) (hc : cpu' ≡ at (cpu.place + 1) cpu) where
    onward : (regs' : List ℕ) (view' : View) (ram' : List ℕ)
        → is_jump (opcode w) ≡ false
        → effect before w ≡ machine regs' cpu given view' memory ram'
        → machine regs' cpu' given view' memory ram' ≡ stepped before w
    onward regs' view' ram' j e =
        ap (λ (c : Cpu). machine regs' c given view' memory ram') hc ∙ goes_onward regs cpu given view memory ram w regs' cpu given view' memory ram' z j e

    pub sets_screen : (view' : View)
        → opcode w ≡ SCRSET
        → view' ≡ screened (screen_set regs w) view
        → machine regs cpu' given view' memory ram ≡ stepped before w
    unfolding after_scrset with_screen
    sets_screen view' e h =
        onward regs view' ram (ap is_jump e) (effect-SCRSET before w e ∙ ap (λ (v : View). machine regs cpu given v memory ram) (sym h))

    pub clears : (ram' : List ℕ)
        → opcode w ≡ CLS
        → ram' ≡ cleared view.screen (low_half (in_r1 regs w)) (low_half (in_r2 regs w)) ram
        → machine regs cpu' given view memory ram' ≡ stepped before w
    unfolding after_cls
    clears ram' e m =
        onward regs view ram' (ap is_jump e) (effect-CLS before w e ∙ ap (λ l. machine regs cpu given view memory l) (sym m))

    pub plants : (view' : View)
        → opcode w ≡ TREESET
        → view' ≡ treed (tree_set (in_r1 regs w) (in_r2 regs w) (in_r3 regs w)) view
        → machine regs cpu' given view' memory ram ≡ stepped before w
    unfolding after_treeset with_tree
    plants view' e h =
        onward regs view' ram (ap is_jump e) (effect-TREESET before w e ∙ ap (λ (v : View). machine regs cpu given v memory ram) (sym h))

    -- TREEIN and TREEVAL: r1 and the tree, which stays planted
    module _ (planted : view.planted ≡ true) (regs' : List ℕ) (tree' : Tree)
        (h : regs' ≡ with_register regs (r1 w) (past_leaves (in_r1 regs w) (in_r2 regs w))) where
      abbrev grown_view : View
      grown_view = record { shown = view.shown; planted = view.planted; screen = view.screen; tree = tree' }

      pub grows_in : opcode w ≡ TREEIN
          → tree' ≡ tree_in (in_r1 regs w) (in_r2 regs w) view.tree
          → machine regs' cpu' given grown_view memory ram ≡ stepped before w
      unfolding after_treein grown with_tree with_registers
      grows_in e t =
          onward regs' grown_view ram (ap is_jump e)
          (effect-TREEIN before w e ∙ rw (planted, h, t))

      pub grows_val : opcode w ≡ TREEVAL
          → tree' ≡ tree_val (imm w) view.screen ram (in_r1 regs w) (in_r2 regs w) view.tree
          → machine regs' cpu' given grown_view memory ram ≡ stepped before w
      unfolding after_treeval grown with_tree with_registers
      grows_val e t =
          onward regs' grown_view ram (ap is_jump e)
          (effect-TREEVAL before w e ∙ rw (planted, h, t))

    pub puts_tree : (ram' : List ℕ)
        → opcode w ≡ TREEPUT
        → ram' ≡ tree_put view.screen view.tree ram
        → machine regs cpu' given view memory ram' ≡ stepped before w
    unfolding after_treeput
    puts_tree ram' e m =
        onward regs view ram' (ap is_jump e) (effect-TREEPUT before w e ∙ ap (λ l. machine regs cpu given view memory l) (sym m))
