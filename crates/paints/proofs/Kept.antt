-- What a painting program leaves: where neither WRITE nor SCRSET is carried out, the screen stays, and with it every byte that is no
-- pixel's. CLS and TREEPUT say so of themselves, no other word touches the RAM, and the run is its steps.
use Prim.Native.Nat.{ℕ, zero, suc, ◌≤◌, ◌<◌}
use mathlib.Core.Path.{◌≡◌, refl, sym, ◌∙◌, ap, subst}
use mathlib.Core.Logic.{◌≢◌}
use mathlib.Core.Bool.{Bool, true, false, not}
use mathlib.Core.List.{List}
use native.Mathlib.Decide.{ℕ_discrete}
use native.Mathlib.Omega.{arith}
use lib.ListN.{length, get_or}
use lib.Dec.{eqb}
use borrow.Author.Tests.{eqb-true}
use Rattle.rules.proofs.Pixels.{and_r}
use Rattle.order.specs.Pointwise.{Elsewhere}
use Rattle.instructions.specs.Opcodes.{Edition, SCRSET, CLS, TREEPUT}
use Rattle.instructions.specs.Words.{opcode}
use Rattle.instructions.specs.Halts.{word_at}
use Rattle.instructions.specs.Step.{Machine, with_registers, with_place, with_flags, with_tree, after_result, after_st, after_call, after_read}
use Rattle.instructions.specs.Step.{after_write, after_cls, after_treeset, grown, after_treein, after_treeval, after_treeput, effect, performed}
use Rattle.instructions.specs.Step.{is_halted, next_halt, step}
use Rattle.instructions.specs.Run.{run, is_counted, ill_formed}
use Rattle.instructions.proofs.Halts.{in_program}
use Rattle.instructions.proofs.Effects.{effect_has}
use Rattle.instructions.proofs.Run.{step_counted}
use Rattle.instructions.proofs.WellFormed.{step_well_formed}
use Rattle.paints.specs.Runs.{CarriesOut, KeepsToScreen, KeepsToPixels}
use Rattle.paints.proofs.Steps.{uncounted_keeps, CLS-paints, TREEPUT-paints, paints_nothing}

-- SCRSET alone changes the screen
effect_keeps_screen : (m : Machine) (w : ℕ) → opcode w ≢ SCRSET → (effect m w).state.screen ≡ m.state.screen
unfolding after_result after_st after_call after_read after_write after_cls after_treeset after_treein after_treeval after_treeput
    grown with_registers with_flags with_tree
effect_keeps_screen m w d =
    effect_has (λ k. k.state.screen ≡ m.state.screen) m w
    (record {
      on_result = refl;
      on_st = refl;
      on_call = refl;
      on_read = refl;
      on_write = λ e. refl;
      on_scrset = λ e. absurd (d e);
      on_cls = λ e. refl;
      on_treeset = λ e. refl;
      on_treein = λ e. refl;
      on_treeval = λ e. refl;
      on_treeput = λ e. refl;
      on_jump = refl;
    })

-- CLS and the four TREE instructions do neither, and read nothing but pixels
pub drawing-words : (w : ℕ) → CLS ≤ opcode w → KeepsToScreen w × KeepsToPixels w
drawing-words w h = ((λ e. omega arith, λ e. omega arith), (λ e. omega arith, λ e. omega arith, λ e. omega arith))

module _ (edition : Edition) (program : List ℕ) where
  -- one step
  module _ (m : Machine) (h : is_counted edition program m ≡ true → KeepsToScreen (word_at program m.state)) where
    pub step_keeps_screen : (step edition program m).state.screen ≡ m.state.screen
    step_keeps_screen = go (is_counted edition program m) refl
      where
        go : (t : Bool) → is_counted edition program m ≡ t → (step edition program m).state.screen ≡ m.state.screen
        go true e =
            ap (λ k. k.state.screen) (step_counted edition program m e)
            ∙ (unfold performed with_place in effect_keeps_screen m (word_at program m.state) (h e).1)
        go false e = (uncounted_keeps edition program m e).screen

    pub step-elsewhere : ill_formed (length m.ram) m.state ≡ false
        → (b : ℕ)
        → Elsewhere m.state.screen b
        → get_or (step edition program m).ram b 0 ≡ get_or m.ram b 0
    step-elsewhere good b o = go (is_counted edition program m) refl
      where
        w : ℕ
        w = word_at program m.state

        by : is_counted edition program m ≡ true → Dec (opcode w ≡ CLS) → Dec (opcode w ≡ TREEPUT)
            → get_or (step edition program m).ram b 0 ≡ get_or m.ram b 0
        by e (yes q) f = (CLS-paints edition program m good e w refl q).elsewhere b o
        by e (no p) (yes q) = (TREEPUT-paints edition program m good e w refl q).elsewhere b o
        by e (no p) (no q) = ap (λ l. get_or l b 0) (paints_nothing edition program m good e w refl (h e).0 p q)

        go : (t : Bool) → is_counted edition program m ≡ t → get_or (step edition program m).ram b 0 ≡ get_or m.ram b 0
        go true e = by e (ℕ_discrete (opcode w) CLS) (ℕ_discrete (opcode w) TREEPUT)
        go false e = ap (λ l. get_or l b 0) (uncounted_keeps edition program m e).ram

  pub run-elsewhere : (n : ℕ) (m : Machine)
      → ill_formed (length m.ram) m.state ≡ false
      → CarriesOut KeepsToScreen edition program n m
      → (b : ℕ)
      → Elsewhere m.state.screen b
      → get_or (run edition program n m).ram b 0 ≡ get_or m.ram b 0
  unfolding run
  run-elsewhere zero m good h b o = refl
  run-elsewhere (suc n) m good h b o =
      let first : is_counted edition program m ≡ true → KeepsToScreen (word_at program m.state) = h 0 (omega arith) in
      run-elsewhere n (step edition program m) (step_well_formed edition program m good) (λ i l. h (suc i) (omega arith)) b
      (subst (λ s. Elsewhere s b) (sym (step_keeps_screen m first)) o)
      ∙ step-elsewhere m first good b o

  -- a program with neither
  pub program_elsewhere : ((i : ℕ) → i < length program → KeepsToScreen (get_or program i 0))
      → (n : ℕ) (m : Machine)
      → ill_formed (length m.ram) m.state ≡ false
      → (b : ℕ)
      → Elsewhere m.state.screen b
      → get_or (run edition program n m).ram b 0 ≡ get_or m.ram b 0
  unfolding is_counted
  program_elsewhere h n m good =
      run-elsewhere n m good
      (λ i l c.
      let k = run edition program i m in
      h k.state.place
      (in_program edition program (length k.ram) k.state
      (eqb-true (next_halt edition program k) 0 (and_r (not (is_halted k)) (eqb (next_halt edition program k) 0) c))))
