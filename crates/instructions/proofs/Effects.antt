-- The instructions one by one: what holds after each of them holds after every effect, and what the effect is at each opcode.
use Prim.Native.Nat.{ℕ, ◌≤◌}
use mathlib.Core.Path.{◌≡◌, refl}
use mathlib.Core.Logic.{◌≢◌}
use mathlib.Core.Bool.{true}
use native.Mathlib.Omega.{arith}
use lib.Dec.{leb, eqb}
use borrow.Author.Tests.{leb-true, lt-leb, eqb-true, ne_eqb}
use Rattle.rules.proofs.Pixels.{and_l, and_r}
use Rattle.instructions.specs.Opcodes.{ST, ASRI, JMP, CALL, JGEL, DOT, READ, WRITE, SCRSET, CLS, TREESET, TREEIN, TREEVAL, TREEPUT}
use Rattle.instructions.specs.Words.{opcode}
use Rattle.instructions.specs.Arithmetic.{result, sets_flags, negative_flag, zero_flag}
use Rattle.instructions.specs.Jumps.{is_jump}
use Rattle.instructions.specs.Step.{Machine, with_registers, with_place, with_flags, with_screen, with_tree}
use Rattle.instructions.specs.Step.{after_result, after_st, after_call, after_read, after_write, after_scrset, after_cls}
use Rattle.instructions.specs.Step.{after_treeset, grown, after_treein, after_treeval, after_treeput, effect, performed}
use Rattle.instructions.proofs.Picks.{pick}

-- P holds after each instruction; from WRITE on, the opcode is told with it
pub record EachEffect (P : Machine → Type 0) (m : Machine) (w : ℕ) : Type 0 where
  pub on_result : P (after_result m w)
  pub on_st : P (after_st m w)
  pub on_call : P (after_call m)
  pub on_read : P (after_read m w)
  pub on_write : opcode w ≡ WRITE → P (after_write m w)
  pub on_scrset : opcode w ≡ SCRSET → P (after_scrset m w)
  pub on_cls : opcode w ≡ CLS → P (after_cls m w)
  pub on_treeset : opcode w ≡ TREESET → P (after_treeset m w)
  pub on_treein : opcode w ≡ TREEIN → P (after_treein m w)
  pub on_treeval : opcode w ≡ TREEVAL → P (after_treeval m w)
  pub on_treeput : opcode w ≡ TREEPUT → P (after_treeput m)
  pub on_jump : P m

pub effect_has : (P : Machine → Type 0) (m : Machine) (w : ℕ) → EachEffect P m w → P (effect m w)
unfolding effect
effect_has P m w c =
    pick P (sets_flags (opcode w)) (λ e. c.on_result) λ e.
    pick P (eqb (opcode w) ST) (λ e. c.on_st) λ e.
    pick P (eqb (opcode w) CALL) (λ e. c.on_call) λ e.
    pick P (eqb (opcode w) READ) (λ e. c.on_read) λ e.
    pick P (eqb (opcode w) WRITE) (λ e. c.on_write (eqb-true (opcode w) WRITE e)) λ e.
    pick P (eqb (opcode w) SCRSET) (λ e. c.on_scrset (eqb-true (opcode w) SCRSET e)) λ e.
    pick P (eqb (opcode w) CLS) (λ e. c.on_cls (eqb-true (opcode w) CLS e)) λ e.
    pick P (eqb (opcode w) TREESET) (λ e. c.on_treeset (eqb-true (opcode w) TREESET e)) λ e.
    pick P (eqb (opcode w) TREEIN) (λ e. c.on_treein (eqb-true (opcode w) TREEIN e)) λ e.
    pick P (eqb (opcode w) TREEVAL) (λ e. c.on_treeval (eqb-true (opcode w) TREEVAL e)) λ e.
    pick P (eqb (opcode w) TREEPUT) (λ e. c.on_treeput (eqb-true (opcode w) TREEPUT e)) λ e.
    c.on_jump

-- at each opcode
module _ (m : Machine) (w : ℕ) where
  pub effect-result : sets_flags (opcode w) ≡ true → effect m w ≡ after_result m w
  unfolding effect
  effect-result e = rw e

  -- "Two flags, negative and zero, follow the 32-bit result"
  pub flags_follow : sets_flags (opcode w) ≡ true
      → ((performed m w).state.negative ≡ negative_flag (result m.memory m.state.regs w))
      × ((performed m w).state.zero ≡ zero_flag (result m.memory m.state.regs w))
  unfolding performed with_place after_result with_flags
  flags_follow e = rw (effect-result e) (refl, refl)

  pub effect-ST : opcode w ≡ ST → effect m w ≡ after_st m w
  unfolding effect
  effect-ST e = rw e

  pub effect-CALL : opcode w ≡ CALL → effect m w ≡ after_call m
  unfolding effect
  effect-CALL e = rw e

  pub effect-READ : opcode w ≡ READ → effect m w ≡ after_read m w
  unfolding effect
  effect-READ e = rw e

  pub effect-WRITE : opcode w ≡ WRITE → effect m w ≡ after_write m w
  unfolding effect
  effect-WRITE e = rw e

  pub effect-SCRSET : opcode w ≡ SCRSET → effect m w ≡ after_scrset m w
  unfolding effect
  effect-SCRSET e = rw e

  pub effect-CLS : opcode w ≡ CLS → effect m w ≡ after_cls m w
  unfolding effect
  effect-CLS e = rw e

  pub effect-TREESET : opcode w ≡ TREESET → effect m w ≡ after_treeset m w
  unfolding effect
  effect-TREESET e = rw e

  pub effect-TREEIN : opcode w ≡ TREEIN → effect m w ≡ after_treein m w
  unfolding effect
  effect-TREEIN e = rw e

  pub effect-TREEVAL : opcode w ≡ TREEVAL → effect m w ≡ after_treeval m w
  unfolding effect
  effect-TREEVAL e = rw e

  pub effect-TREEPUT : opcode w ≡ TREEPUT → effect m w ≡ after_treeput m
  unfolding effect
  effect-TREEPUT e = rw e

  -- a jump other than CALL changes the place alone
  pub effect_jump : is_jump (opcode w) ≡ true → opcode w ≢ CALL → effect m w ≡ m
  unfolding effect
  effect_jump e d =
      let op : ℕ = opcode w in
      let low : JMP ≤ op = leb-true JMP op (and_l (leb JMP op) (leb op JGEL) e) in
      let high : op ≤ JGEL = leb-true op JGEL (and_r (leb JMP op) (leb op JGEL) e) in
      rw (
        lt-leb op ASRI (omega arith),
        ne_eqb op DOT (λ q. omega arith),
        ne_eqb op ST (λ q. omega arith),
        ne_eqb op CALL d,
        ne_eqb op READ (λ q. omega arith),
        ne_eqb op WRITE (λ q. omega arith),
        ne_eqb op SCRSET (λ q. omega arith),
        ne_eqb op CLS (λ q. omega arith),
        ne_eqb op TREESET (λ q. omega arith),
        ne_eqb op TREEIN (λ q. omega arith),
        ne_eqb op TREEVAL (λ q. omega arith),
        ne_eqb op TREEPUT (λ q. omega arith),
      )

-- a step that is carried out leaves the halt number
pub effect_halt : (m : Machine) (w : ℕ) → (effect m w).state.halt ≡ m.state.halt
unfolding after_result after_st after_call after_read after_write after_scrset after_cls
    after_treeset grown after_treein after_treeval after_treeput with_registers with_flags with_screen with_tree
effect_halt m w =
    effect_has (λ k. k.state.halt ≡ m.state.halt) m w
    (record {
      on_result = refl;
      on_st = refl;
      on_call = refl;
      on_read = refl;
      on_write = λ e. refl;
      on_scrset = λ e. refl;
      on_cls = λ e. refl;
      on_treeset = λ e. refl;
      on_treein = λ e. refl;
      on_treeval = λ e. refl;
      on_treeput = λ e. refl;
      on_jump = refl;
    })

pub performed_halt : (m : Machine) (w : ℕ) → (performed m w).state.halt ≡ m.state.halt
unfolding performed with_place
performed_halt m w = effect_halt m w
