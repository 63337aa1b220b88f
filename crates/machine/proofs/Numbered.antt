-- The numbers of a run: what is refused stays as it was, and what none refuses runs.
use Prim.Native.Nat.{ℕ}
use mathlib.Core.Path.{◌≡◌, sym, ◌∙◌, ap}
use mathlib.Core.Logic.{◌≢◌}
use mathlib.Core.List.{List}
use mathlib.Core.Bool.{false, not}
use lib.ListN.{length}
use lib.Dec.{ltb, eqb}
use borrow.Author.Tests.{ltb-false, eqb-true, ne_eqb, not-false}
use Rattle.rules.specs.Sizes.{ram_limit}
use Rattle.rules.specs.Numbers.{too_long}
use Rattle.instructions.specs.Opcodes.{current}
use Rattle.instructions.specs.Step.{Machine}
use Rattle.instructions.specs.Run.{run, steps, ill_formed, machine_number, run_number}
use Rattle.instructions.specs.Calls.{outcome, Runs}
use Rattle.instructions.proofs.Picks.{no_case}
use Rattle.runs.specs.Runs.{Ready, Ends}

module _ (program : List ℕ) (m : Machine) where
  pub accepted_ready : run_number program m ≡ 0 → Ready program m
  unfolding machine_number
  accepted_ready e =
      let (a, e1) = no_case 0 (ltb 1024 (length program)) e in
      let (b, e2) = no_case 1 (not (eqb (length m.memory) 1024)) e1 in
      let (c, e3) = no_case 2 (too_long (length m.ram)) e2 in
      let (d, e4) = no_case 3 (ill_formed (length m.ram) m.state) e3 in
      record {
        short = ltb-false 1024 (length program) a;
        size = eqb-true (length m.memory) 1024 (not-false (eqb (length m.memory) 1024) b);
        limit = ltb-false ram_limit (length m.ram) c;
        well_formed = d;
      }

  module _ (budget number : ℕ) (h : number ≡ run_number program m) where
    pub runs_refused : number ≢ 0 → Runs program budget m (outcome number 0 m)
    runs_refused d =
        let f : eqb (run_number program m) 0 ≡ false = ap (λ (n : ℕ). eqb n 0) (sym h) ∙ ne_eqb number 0 d in
        record { answers = h; counts = rw f; leaves = rw f }

    pub runs_done : (count : ℕ) (after : Machine)
        → number ≡ 0
        → Ends program budget m count after
        → Runs program budget m (outcome number count after)
    runs_done count after z e =
        let n : run_number program m ≡ 0 = sym h ∙ z in
        record { answers = h; counts = rw n e.counts; leaves = rw n e.leaves }

  -- a run between machines that are the same ones
  pub ends_same : {budget count : ℕ} {first final after : Machine}
      → first ≡ m
      → after ≡ final
      → Ends program budget first count final
      → Ends program budget m count after
  ends_same {budget} f a e = record {
    counts = e.counts ∙ ap (steps current program budget) f;
    leaves = a ∙ e.leaves ∙ ap (run current program budget) f;
  }
