-- The loop's invariant is `Kept`: what is left to run from here is the whole run. A pass is one step, which goes on or halts.
use Rattle.pieces.specs.Pieces.{machine}
use Rattle.runs.proofs.Invariant.{Kept}
use Rattle.runs.proofs.run.Given as goal

abbrev pub invariant-loop-steps : goal.invariant-loop-steps
invariant-loop-steps l = Kept l.program l.budget (machine l.fn.regs.words l.fn.first l.fn.halt l.fn.view l.fn.memory l.fn.ram) l.steps (machine l.regs.words l.cpu 0 l.view l.words l.ram)
