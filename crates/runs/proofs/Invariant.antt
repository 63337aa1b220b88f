-- The run's loop. What is left to run from here ends as the whole run does, and the steps so far with those left are the whole count.
use Prim.Native.Nat.{ℕ, suc, ◌+◌, ◌-◌, ◌≤◌, ◌<◌}
use mathlib.Core.Path.{◌≡◌, refl, sym, ◌∙◌, ap, subst}
use mathlib.Core.Logic.{◌≢◌}
use mathlib.Core.Bool.{Bool, true, false, not, false≢true}
use mathlib.Core.List.{List}
use native.Mathlib.Omega.{arith}
use lib.ListN.{length}
use borrow.Author.Tests.{lt-ltb, le-ltb, eq-eqb, ne_eqb}
use Rattle.std.specs.Prelude.{Result, Ok, Err, IsErrAnd}
use Rattle.rules.specs.Folds.{bit}
use Rattle.instructions.specs.declared.Halt.{Halt}
use Rattle.instructions.specs.Answers.{number_of_halt, halt_of}
use Rattle.instructions.specs.Opcodes.{current}
use Rattle.instructions.specs.Halts.{word_at, halt_number}
use Rattle.instructions.specs.Step.{Machine, with_state, with_halt, is_halted, step}
use Rattle.instructions.specs.Run.{run, is_counted, steps}
use Rattle.instructions.proofs.Run.{run_halted, steps_halted, uncounted_stops, counted_goes_on}
use Rattle.instructions.proofs.Lengths.{step_keeps_lengths}
use Rattle.instructions.proofs.WellFormed.{WellFormed, well_formed_facts, step_well_formed}
use Rattle.pieces.specs.declared.state.Cpu.{Cpu}
use Rattle.pieces.specs.declared.state.View.{View}
use Rattle.pieces.specs.Pieces.{machine}
use Rattle.pieces.specs.Steps.{stepped, Shows}
use Rattle.runs.specs.Runs.{Ready, Ends}

module _ (program : List ℕ) (m : Machine) (h : m.state.halt ≡ 0) where
  -- a step past the program, and one in it
  step_past : length program ≤ m.state.place → with_state (with_halt 12 m.state) m ≡ step current program m
  unfolding step halt_number
  step_past p = rw (h, le-ltb m.state.place (length program) p)

  step_in : m.state.place < length program → stepped m (word_at program m.state) ≡ step current program m
  unfolding step halt_number stepped
  step_in p = rw (h, lt-ltb m.state.place (length program) p)

  pub step_at : (w : ℕ) → w ≡ word_at program m.state → m.state.place < length program → stepped m w ≡ step current program m
  step_at w e p = ap (stepped m) e ∙ step_in p

  running : is_halted m ≡ false
  running = ap not (eq-eqb m.state.halt 0 h)

pub stops_past : (program regs : List ℕ) (cpu : Cpu) (view : View) (memory ram : List ℕ) (answer : Result (Unit {0}) Halt) (h : Halt)
    → IsErrAnd answer (λ e. e ≡ h)
    → number_of_halt h ≡ 12
    → length program ≤ cpu.place
    → machine regs cpu (halt_of answer) view memory ram ≡ step current program (machine regs cpu 0 view memory ram)
unfolding with_halt
stops_past program regs cpu view memory ram (Ok next) h x e p = absurd x
stops_past program regs cpu view memory ram (Err g) h x e p = rw (x, e) (step_past program (machine regs cpu 0 view memory ram) refl p)

pub ready_facts : {program : List ℕ} {m : Machine} → Ready program m → WellFormed (length m.ram) m.state
ready_facts r = well_formed_facts r.well_formed

pub ready_shows : {program regs : List ℕ} {cpu : Cpu} {halt : ℕ} {view : View} {memory ram : List ℕ}
    → Ready program (machine regs cpu halt view memory ram)
    → Shows (length ram) view
ready_shows r =
    let f = ready_facts r in
    record { limit = r.limit; screen_sound = f.screen_sound; tree_shown = f.tree_shown; tree_place = f.tree_place }

pub record Kept (program : List ℕ) (budget : ℕ) (first : Machine) (done : ℕ) (m : Machine) : Type 0 where
  pub within : done ≤ budget
  pub left_to_run : run current program (budget - done) m ≡ run current program budget first
  pub left_to_count : done + steps current program (budget - done) m ≡ steps current program budget first
  pub goes : m.state.halt ≡ 0
  pub ready : Ready program m
  pub same_ram : length m.ram ≡ length first.ram

module _ (program : List ℕ) (budget : ℕ) where
  pub halted_ends : (m : Machine) → m.state.halt ≢ 0 → Ends program budget m 0 m
  halted_ends m d =
      let h : is_halted m ≡ true = ap not (ne_eqb m.state.halt 0 d) in
      record { counts = sym (steps_halted current program budget m h); leaves = sym (run_halted current program budget m h) }

  pub kept_start : (m : Machine) → Ready program m → m.state.halt ≡ 0 → Kept program budget m 0 m
  kept_start m r h =
      let e : budget - 0 ≡ budget = omega arith in
      record {
        within = omega arith;
        left_to_run = rw e;
        left_to_count = rw e (omega arith);
        goes = h;
        ready = r;
        same_ram = refl;
      }

module _ {program : List ℕ} {budget : ℕ} {first : Machine} {done : ℕ} {m : Machine} (k : Kept program budget first done m) where
  pub kept_end : budget ≤ done → Ends program budget first budget m
  unfolding run steps
  kept_end h =
      let e : budget - done ≡ 0 = omega arith in
      let c : done + steps current program 0 m ≡ steps current program budget first = rw e at k.left_to_count in
      let r : run current program 0 m ≡ run current program budget first = rw e at k.left_to_run in
      record { counts = omega (arith, c); leaves = r }

  module _ (l : done < budget) (m' : Machine) (s : m' ≡ step current program m) where
    one_less : budget - done ≡ suc (budget - (done + 1))
    one_less = omega arith

    run_on : run current program (budget - (done + 1)) m' ≡ run current program budget first
    unfolding run
    run_on = ap (run current program (budget - (done + 1))) s ∙ (rw one_less at k.left_to_run)

    count_on : done + (bit (is_counted current program m) + steps current program (budget - (done + 1)) m')
        ≡ steps current program budget first
    unfolding steps
    count_on =
        ap (λ (x : Machine). done + (bit (is_counted current program m) + steps current program (budget - (done + 1)) x)) s
        ∙ (rw one_less at k.left_to_count)

    pub kept_stop : m'.state.halt ≢ 0 → Ends program budget first done m'
    kept_stop d =
        let h : is_halted m' ≡ true = ap not (ne_eqb m'.state.halt 0 d) in
        let r : run current program (budget - (done + 1)) m' ≡ m' = run_halted current program (budget - (done + 1)) m' h in
        let z : steps current program (budget - (done + 1)) m' ≡ 0 = steps_halted current program (budget - (done + 1)) m' h in
        let b : is_counted current program m ≡ false = uncounted (is_counted current program m) refl h in
        let e : done + (bit false + 0) ≡ steps current program budget first = rw (b, z) at count_on in
        record { counts = omega (arith, e); leaves = sym r ∙ run_on }
      where
        uncounted : (b : Bool) → is_counted current program m ≡ b → is_halted m' ≡ true → is_counted current program m ≡ false
        uncounted false e h = e
        uncounted true e h =
            absurd (false≢true (sym (counted_goes_on current program m e) ∙ ap is_halted (sym s) ∙ h))

    pub kept_pass : m'.state.halt ≡ 0 → Kept program budget first (done + 1) m'
    kept_pass h =
        let b : is_counted current program m ≡ true = counted (is_counted current program m) refl in
        let left : ℕ = steps current program (budget - (done + 1)) m' in
        let e : done + (bit true + left) ≡ steps current program budget first = rw b at count_on in
        record {
          within = omega arith;
          left_to_run = run_on;
          left_to_count = omega (arith, e);
          goes = h;
          ready = still;
          same_ram = ap (λ (x : Machine). length x.ram) s ∙ (step_keeps_lengths current program m).ram ∙ k.same_ram;
        }
      where
        counted : (b : Bool) → is_counted current program m ≡ b → is_counted current program m ≡ true
        counted true e = e
        counted false e = absurd (false≢true (sym (running program m' h) ∙ ap is_halted s ∙ uncounted_stops current program m e))

        still : Ready program m'
        still =
            let r = k.ready in
            let lengths = step_keeps_lengths current program m in
            subst (Ready program) (sym s)
            (record {
              short = r.short;
              size = lengths.memory ∙ r.size;
              limit = rw lengths.ram r.limit;
              well_formed = step_well_formed current program m r.well_formed;
            })
