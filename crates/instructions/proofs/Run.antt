-- The run: it is each step in turn, so running m and then n steps is running m + n, with the counts added; a halted state runs 0 steps
-- and stays; a halting step changes only the halt number and is not counted; a run stops only at its budget or at a halt.
use Prim.Native.Nat.{ℕ, zero, suc, ◌+◌, ◌≤◌}
use mathlib.Core.Path.{◌≡◌, refl, sym, ◌∙◌, ap}
use mathlib.Core.Bool.{Bool, true, false, ◌&&◌, not, false≢true, true≢false}
use mathlib.Core.List.{List}
use native.Mathlib.Nat.{zero-add, suc-add}
use native.Mathlib.Omega.{arith}
use lib.Dec.{eqb}
use Rattle.rules.specs.Folds.{bit, choose}
use Rattle.rules.proofs.Choices.{bit_le}
use Rattle.instructions.specs.Opcodes.{Edition}
use Rattle.instructions.specs.Halts.{word_at}
use Rattle.instructions.specs.Step.{Machine, with_state, with_halt, performed, is_halted, next_halt, step}
use Rattle.instructions.specs.Run.{run, is_counted, steps}
use Rattle.instructions.proofs.Effects.{performed_halt}

module _ (edition : Edition) (program : List ℕ) where
  pub run_none : (m : Machine) → run edition program 0 m ≡ m
  unfolding run
  run_none m = refl

  pub run-one : (m : Machine) → run edition program 1 m ≡ step edition program m
  unfolding run
  run-one m = refl

  pub steps-none : (m : Machine) → steps edition program 0 m ≡ 0
  unfolding steps
  steps-none m = refl

  pub steps-one : (m : Machine) → steps edition program 1 m ≡ bit (is_counted edition program m)
  unfolding steps
  steps-one m = omega arith

  -- "Running m and then n steps ends as running m + n .. with the counts added."
  pub run-add : (a b : ℕ) (m : Machine) → run edition program (a + b) m ≡ run edition program b (run edition program a m)
  unfolding run
  run-add zero b m = rw zero-add
  run-add (suc a) b m = rw suc-add (run-add a b (step edition program m))

  pub steps-add : (a b : ℕ) (m : Machine)
      → steps edition program (a + b) m ≡ steps edition program a m + steps edition program b (run edition program a m)
  unfolding run steps
  steps-add zero b m = rw (zero-add b) (sym (zero-add (steps edition program b m)))
  steps-add (suc a) b m =
      rw suc-add (ap (λ k. bit (is_counted edition program m) + k) (steps-add a b (step edition program m)) ∙ omega arith)

  -- one step more, at the end of a run
  pub run_more : (n : ℕ) (m : Machine) → run edition program (n + 1) m ≡ step edition program (run edition program n m)
  run_more n m = run-add n 1 m ∙ run-one (run edition program n m)

  pub steps_more : (n : ℕ) (m : Machine)
      → steps edition program (n + 1) m ≡ steps edition program n m + bit (is_counted edition program (run edition program n m))
  unfolding steps
  steps_more n m = steps-add n 1 m ∙ omega arith

  -- "A halted state runs 0 steps and stays."
  pub step_halted : (m : Machine) → is_halted m ≡ true → step edition program m ≡ m
  unfolding step
  step_halted m h = rw h

  pub uncounted_halted : (m : Machine) → is_halted m ≡ true → is_counted edition program m ≡ false
  unfolding is_counted
  uncounted_halted m h = rw h

  pub run_halted : (n : ℕ) (m : Machine) → is_halted m ≡ true → run edition program n m ≡ m
  unfolding run
  run_halted zero m h = refl
  run_halted (suc n) m h = ap (run edition program n) (step_halted m h) ∙ run_halted n m h

  pub steps_halted : (n : ℕ) (m : Machine) → is_halted m ≡ true → steps edition program n m ≡ 0
  unfolding steps
  steps_halted zero m h = refl
  steps_halted (suc n) m h = rw (uncounted_halted m h, step_halted m h, steps_halted n m h)

  -- "A halting step changes only the halt number and is not counted."
  pub step_halting : (m : Machine)
      → is_halted m ≡ false
      → eqb (next_halt edition program m) 0 ≡ false
      → step edition program m ≡ with_state (with_halt (next_halt edition program m) m.state) m
  unfolding step
  step_halting m h k = rw (h, k)

  pub uncounted_halting : (m : Machine) → eqb (next_halt edition program m) 0 ≡ false → is_counted edition program m ≡ false
  unfolding is_counted
  uncounted_halting m k = rw k (none (is_halted m))
    where
      none : (b : Bool) → (not b && false) ≡ false
      none true = refl
      none false = refl

  -- any other step is carried out, and counted
  pub step_counted : (m : Machine) → is_counted edition program m ≡ true → step edition program m ≡ performed m (word_at program m.state)
  unfolding step is_counted
  step_counted m h = go (is_halted m) (eqb (next_halt edition program m) 0) h
    where
      go : (a b : Bool)
          → (not a && b) ≡ true
          → choose a m (choose b (performed m (word_at program m.state)) (with_state (with_halt (next_halt edition program m) m.state) m))
          ≡ performed m (word_at program m.state)
      go true b e = absurd (false≢true e)
      go false true e = refl
      go false false e = absurd (false≢true e)

  -- "A run .. stops only at that count or at a halt."
  pub steps-le : (n : ℕ) (m : Machine) → steps edition program n m ≤ n
  unfolding steps
  steps-le zero m = omega arith
  steps-le (suc n) m =
      let h : steps edition program n (step edition program m) ≤ n = steps-le n (step edition program m) in
      omega (arith, bit_le (is_counted edition program m))

  pub uncounted_stops : (m : Machine) → is_counted edition program m ≡ false → is_halted (step edition program m) ≡ true
  unfolding step is_counted with_halt
  uncounted_stops m h = go (is_halted m) (eqb (next_halt edition program m) 0) refl refl h
    where
      go : (a b : Bool)
          → is_halted m ≡ a
          → eqb (next_halt edition program m) 0 ≡ b
          → (not a && b) ≡ false
          → is_halted
          (choose a m
          (choose b (performed m (word_at program m.state)) (with_state (with_halt (next_halt edition program m) m.state) m)))
          ≡ true
      go true b p q e = p
      go false true p q e = absurd (true≢false e)
      go false false p q e = ap not q

  pub counted_goes_on : (m : Machine) → is_counted edition program m ≡ true → is_halted (step edition program m) ≡ false
  unfolding is_counted
  counted_goes_on m h =
      rw (step_counted m h, performed_halt m (word_at program m.state)) (go (is_halted m) (eqb (next_halt edition program m) 0) h)
    where
      go : (a b : Bool) → (not a && b) ≡ true → a ≡ false
      go true b e = absurd (false≢true e)
      go false b e = refl

  pub run_stops : (n : ℕ) (m : Machine) → is_halted (run edition program n m) ≡ false → steps edition program n m ≡ n
  unfolding run steps
  run_stops zero m h = refl
  run_stops (suc n) m h = go (is_counted edition program m) refl (run_stops n (step edition program m) h)
    where
      go : (b : Bool)
          → is_counted edition program m ≡ b
          → steps edition program n (step edition program m) ≡ n
          → bit b + steps edition program n (step edition program m) ≡ suc n
      go true e k = omega arith
      go false e k =
          let s : is_halted (step edition program m) ≡ true = uncounted_stops m e in
          absurd (false≢true (sym h ∙ ap is_halted (run_halted n (step edition program m) s) ∙ s))
