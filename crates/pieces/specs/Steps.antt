-- What a step may count on, and what it leaves, in pieces.
use Rattle.std.specs.Prelude.{ℕ, ◌≤◌, ◌≡◌, true, false, List, length, eqb}
use Rattle.rules.specs.Folds.{choose}
use Rattle.rules.specs.Sizes.{ram_limit, sound}
use Rattle.instructions.specs.Opcodes.{current}
use Rattle.instructions.specs.Tree.{refuses_place}
use Rattle.instructions.specs.Halts.{word_halt}
use Rattle.instructions.specs.Step.{Machine, with_state, with_halt, performed}
use Rattle.pieces.specs.declared.state.Cpu.{Cpu}
use Rattle.pieces.specs.declared.state.View.{View}
use Rattle.pieces.specs.Pieces.{machine}

-- the step at the word w, which does not look at the halt number that stands there: a run takes none from a halted state
unfoldable pub stepped : Machine → ℕ → Machine
stepped m w =
    choose (eqb (word_halt current (length m.ram) m.state w) 0) (performed m w)
    (with_state (with_halt (word_halt current (length m.ram) m.state w) m.state) m)

-- the halt number after a step: its halt's, and where it does not halt the one that stood before
abbrev pub halt_after : ℕ → ℕ → ℕ
halt_after halt given = choose (eqb halt 0) given halt

-- what an instruction up to WRITE touches, and its halt's number, 0 for none
pub record Plain : Type 0 where
  pub regs : List ℕ
  pub cpu : Cpu
  pub halt : ℕ
  pub memory : List ℕ
  pub ram : List ℕ

abbrev pub plain : List ℕ → Cpu → List ℕ → List ℕ → Plain
plain regs cpu memory ram = record { regs = regs; cpu = cpu; halt = 0; memory = memory; ram = ram }

abbrev pub plain_after : List ℕ → Cpu → ℕ → List ℕ → List ℕ → Plain
plain_after regs cpu halt memory ram = record { regs = regs; cpu = cpu; halt = halt; memory = memory; ram = ram }

-- its step, which may be a halt, whatever screen and tree there are, and whatever halt number is given
abbrev pub Steps : ℕ → Plain → Plain → Type 0
Steps w p p' =
    (view : View) (given : ℕ)
    → machine p'.regs p'.cpu (halt_after p'.halt given) view p'.memory p'.ram
    ≡ stepped (machine p.regs p.cpu (halt_after p.halt given) view p.memory p.ram) w

-- of one that leaves the RAM alone, whatever it holds
abbrev pub DataSteps : ℕ → (List ℕ → Plain) → (List ℕ → Plain) → Type 0
DataSteps w p p' = (ram : List ℕ) → Steps w (p ram) (p' ram)

-- of one that touches the registers alone and never halts, whatever the memories hold
abbrev pub RegisterSteps : ℕ → List ℕ → Cpu → List ℕ → Cpu → Type 0
RegisterSteps w regs cpu regs' cpu' =
    (memory ram : List ℕ) → Steps w (plain regs cpu memory ram) (plain regs' cpu' memory ram)

-- what an instruction from SCRSET on touches, and its halt's number
pub record Viewing : Type 0 where
  pub regs : List ℕ
  pub cpu : Cpu
  pub halt : ℕ
  pub view : View
  pub ram : List ℕ

abbrev pub viewing : List ℕ → Cpu → View → List ℕ → Viewing
viewing regs cpu view ram = record { regs = regs; cpu = cpu; halt = 0; view = view; ram = ram }

abbrev pub viewing_after : List ℕ → Cpu → ℕ → View → List ℕ → Viewing
viewing_after regs cpu halt view ram = record { regs = regs; cpu = cpu; halt = halt; view = view; ram = ram }

-- its step, which may be a halt, whatever the data memory holds, and whatever halt number is given
abbrev pub ViewSteps : ℕ → Viewing → Viewing → Type 0
ViewSteps w s s' =
    (memory : List ℕ) (given : ℕ)
    → machine s'.regs s'.cpu (halt_after s'.halt given) s'.view memory s'.ram
    ≡ stepped (machine s.regs s.cpu (halt_after s.halt given) s.view memory s.ram) w

-- of one that leaves the RAM alone, whatever it holds
abbrev pub TreeSteps : ℕ → (List ℕ → Viewing) → (List ℕ → Viewing) → Type 0
TreeSteps w s s' = (ram : List ℕ) → ViewSteps w (s ram) (s' ram)

-- the screen and the tree of a well-formed state, in a RAM that is not too long
pub record Shows (ram_length : ℕ) (view : View) : Type 0 where
  pub limit : ram_length ≤ ram_limit
  pub screen_sound : view.shown ≡ true → sound ram_length view.screen ≡ true
  pub tree_shown : view.planted ≡ true → view.shown ≡ true
  pub tree_place : view.planted ≡ true → refuses_place view.screen view.tree.column view.tree.row ≡ false
