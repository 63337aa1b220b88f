-- What the machine's calls answer, in the words of their promises: "Every number but 0 comes with counts of 0, the state as given".
use Rattle.std.specs.Prelude.{ℕ, Bool, false, List, Result, Ok, Err}
use Rattle.rules.specs.declared.Refusal.{Refusal}
use Rattle.rules.specs.Answers.{refusal_number}
use Rattle.instructions.specs.declared.State.{State}
use Rattle.instructions.specs.Step.{together}
use Rattle.instructions.specs.Calls.{Outcome, outcome}
use Rattle.machine.specs.declared.calls.Left.{Left}
use Rattle.machine.specs.declared.calls.Stepped.{Stepped}

-- a run from the state given
abbrev pub ran : State → Result Left Refusal → List ℕ → List ℕ → Outcome
ran given (Ok left) memory ram = outcome 0 left.steps (together left.state memory ram)
ran given (Err refusal) memory ram = outcome (refusal_number refusal) 0 (together given memory ram)

-- a single step from the state given: whether it was carried out, and the state after it
abbrev pub carried : Result Stepped Refusal → Bool
carried (Ok stepped) = stepped.carried
carried (Err refusal) = false

abbrev pub stepped : State → Result Stepped Refusal → State
stepped given (Ok step) = step.state
stepped given (Err refusal) = given
