-- A step that does not halt: no case of the table applies, and so each instruction finds what it needs. A halt has a number of the table.
use Prim.Native.Nat.{ℕ, ◌+◌, ◌%◌, ◌≤◌, ◌<◌}
use mathlib.Core.Path.{◌≡◌, refl}
use mathlib.Core.Bool.{Bool, true, false, ◌||◌, not}
use mathlib.Core.List.{List}
use lib.ListN.{length}
use lib.Dec.{leb, ltb, eqb}
use borrow.Author.Tests.{ltb-true, ltb-false, leb-true, eqb-true, not-false}
use Rattle.rules.specs.Sizes.{sound}
use Rattle.instructions.specs.declared.State.{State}
use Rattle.instructions.specs.Opcodes.{LD, ST, DOT, SCRSET, CLS, TREESET, TREEIN, TREEVAL, TREEPUT, Edition, is_retired, no_instruction}
use Rattle.instructions.specs.Words.{opcode, imm, in_r1, in_r2, in_r3, address}
use Rattle.instructions.specs.Tree.{refuses_place}
use Rattle.instructions.specs.Halts.{word_at, past_program, outside_data, is_move, move_outside_data, move_outside_ram}
use Rattle.instructions.specs.Halts.{screen_set, no_screen, no_tree, word_halt, halt_number}
use Rattle.instructions.specs.Run.{is_halt_number}
use Rattle.instructions.proofs.Picks.{pick, no_case, or_none}

-- no case applies to the word w
pub record NoHalt (edition : Edition) (ram_length : ℕ) (s : State) (w : ℕ) : Type 0 where
  pub known : no_instruction edition (opcode w) ≡ false
  pub in_data : outside_data s.regs w ≡ false
  pub move_in_data : move_outside_data s.regs w ≡ false
  pub move_in_ram : move_outside_ram ram_length s.regs w ≡ false
  pub screen_there : no_screen ram_length s w ≡ false
  pub tree_there : no_tree s w ≡ false

pub word_goes_on : (edition : Edition) (ram_length : ℕ) (s : State) (w : ℕ)
    → word_halt edition ram_length s w ≡ 0
    → NoHalt edition ram_length s w
unfolding word_halt
word_goes_on edition ram_length s w e =
    let (known, e1) = no_case 10 (no_instruction edition (opcode w)) e in
    let (in_data, e2) = no_case 12 (outside_data s.regs w) e1 in
    let (move_in_data, e3) = no_case 14 (move_outside_data s.regs w) e2 in
    let (move_in_ram, e4) = no_case 15 (move_outside_ram ram_length s.regs w) e3 in
    let (screen_there, e5) = no_case 16 (no_screen ram_length s w) e4 in
    let (tree_there, e6) = no_case 13 (no_tree s w) e5 in
    record {
      known = known;
      in_data = in_data;
      move_in_data = move_in_data;
      move_in_ram = move_in_ram;
      screen_there = screen_there;
      tree_there = tree_there;
    }

module _ (edition : Edition) (program : List ℕ) (ram_length : ℕ) (s : State) (e : halt_number edition program ram_length s ≡ 0) where
  pub in_program : s.place < length program
  unfolding halt_number
  in_program =
      ltb-true s.place (length program)
      (not-false (ltb s.place (length program)) (no_case 11 (past_program program s) e).0)

  pub goes_on : NoHalt edition ram_length s (word_at program s)
  unfolding halt_number
  goes_on = word_goes_on edition ram_length s (word_at program s) (no_case 11 (past_program program s) e).1

-- what each instruction finds
module _ {edition : Edition} {ram_length : ℕ} {s : State} {w : ℕ} (h : NoHalt edition ram_length s w) where
  pub opcode_known : opcode w ≤ TREEPUT
  unfolding no_instruction
  opcode_known = ltb-false TREEPUT (opcode w) (or_none (is_retired edition (opcode w)) (ltb TREEPUT (opcode w)) h.known).1

  pub LD_in_data : opcode w ≡ LD → address s.regs w ≤ 1023
  unfolding outside_data
  LD_in_data e = ltb-false 1023 (address s.regs w) (or_none (ltb 1023 (address s.regs w)) _ (rw e at h.in_data)).0

  pub ST_in_data : opcode w ≡ ST → address s.regs w ≤ 1023
  unfolding outside_data
  ST_in_data e = ltb-false 1023 (address s.regs w) (or_none (ltb 1023 (address s.regs w)) _ (rw e at h.in_data)).0

  pub DOT_in_data : opcode w ≡ DOT → (in_r2 s.regs w ≤ 1020) × (in_r3 s.regs w ≤ 1020)
  unfolding outside_data
  DOT_in_data e =
      let (p, q) = or_none (ltb 1020 (in_r2 s.regs w)) (ltb 1020 (in_r3 s.regs w)) (rw e at h.in_data) in
      (ltb-false 1020 (in_r2 s.regs w) p, ltb-false 1020 (in_r3 s.regs w) q)

  pub move_in_data_lem : is_move (opcode w) ≡ true → in_r1 s.regs w ≤ 1008
  unfolding move_outside_data
  move_in_data_lem e = ltb-false 1008 (in_r1 s.regs w) (rw e at h.move_in_data)

  pub move_in_ram_lem : is_move (opcode w) ≡ true → (in_r2 s.regs w % 4 ≡ 0) × (in_r2 s.regs w + 64 ≤ ram_length)
  unfolding move_outside_ram
  move_in_ram_lem e =
      let a : ℕ = in_r2 s.regs w in
      let (p, q) = or_none (not (eqb (a % 4) 0)) (not (leb (a + 64) ram_length)) (rw e at h.move_in_ram) in
      (eqb-true (a % 4) 0 (not-false (eqb (a % 4) 0) p), leb-true (a + 64) ram_length (not-false (leb (a + 64) ram_length) q))

  pub SCRSET-sound : opcode w ≡ SCRSET → sound ram_length (screen_set s.regs w) ≡ true
  unfolding no_screen
  SCRSET-sound e =
      not-false (sound ram_length (screen_set s.regs w))
      (or_none (not (sound ram_length (screen_set s.regs w))) _ (rw e at h.screen_there)).0

  pub CLS_shown : opcode w ≡ CLS → s.shown ≡ true
  unfolding no_screen
  CLS_shown e = not-false s.shown (rw e at h.screen_there)

  pub TREESET_shown : opcode w ≡ TREESET → s.shown ≡ true
  unfolding no_screen
  TREESET_shown e = not-false s.shown (rw e at h.screen_there)

  pub TREESET-place : opcode w ≡ TREESET → refuses_place s.screen (in_r1 s.regs w) (in_r2 s.regs w) ≡ false
  unfolding no_tree
  TREESET-place e =
      let p : Bool = refuses_place s.screen (in_r1 s.regs w) (in_r2 s.regs w) in
      (or_none p false (or_none (p || false) false (rw e at h.tree_there)).0).0

  pub TREEIN-planted : opcode w ≡ TREEIN → s.planted ≡ true
  unfolding no_tree
  TREEIN-planted e = not-false s.planted (or_none (not s.planted) false (rw e at h.tree_there)).0

  pub TREEVAL-planted : opcode w ≡ TREEVAL → s.planted ≡ true
  unfolding no_tree
  TREEVAL-planted e = not-false s.planted (or_none (not s.planted) (ltb 3 (imm w)) (rw e at h.tree_there)).0

  pub TREEVAL_kind : opcode w ≡ TREEVAL → imm w ≤ 3
  unfolding no_tree
  TREEVAL_kind e = ltb-false 3 (imm w) (or_none (not s.planted) (ltb 3 (imm w)) (rw e at h.tree_there)).1

  pub TREEPUT-planted : opcode w ≡ TREEPUT → s.planted ≡ true
  unfolding no_tree
  TREEPUT-planted e = not-false s.planted (or_none (not s.planted) false (rw e at h.tree_there)).0

-- every number that the table gives is one of the halt numbers
abbrev IsKnown : ℕ → Type 0
IsKnown n = is_halt_number n ≡ true

pub halt_known_lem : (edition : Edition) (program : List ℕ) (ram_length : ℕ) (s : State)
    → is_halt_number (halt_number edition program ram_length s) ≡ true
unfolding halt_number word_halt
halt_known_lem edition program ram_length s =
    let w : ℕ = word_at program s in
    pick IsKnown (past_program program s) (λ e. refl) λ e.
    pick IsKnown (no_instruction edition (opcode w)) (λ e. refl) λ e.
    pick IsKnown (outside_data s.regs w) (λ e. refl) λ e.
    pick IsKnown (move_outside_data s.regs w) (λ e. refl) λ e.
    pick IsKnown (move_outside_ram ram_length s.regs w) (λ e. refl) λ e.
    pick IsKnown (no_screen ram_length s w) (λ e. refl) λ e.
    pick IsKnown (no_tree s w) (λ e. refl) (λ e. refl)
