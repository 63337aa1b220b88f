-- What C gets of an answer tells the answer: the numbers of the refusals are different, and none is 0. So a call in Rattle that answers a Result
-- has no second outcome either.
use Rattle.std.specs.Prelude.{ℕ, List, Result, ◌≡◌}
use Rattle.std.proofs.Common.{arith}
use Rattle.rules.specs.declared.Counts.{Counts}
use Rattle.rules.specs.declared.Plane.{Plane}
use Rattle.rules.specs.declared.Refusal.{Refusal}
use Rattle.rules.specs.Answers.{refusal_number, number_of, drawn_of}
use Rattle.interpolation.specs.Answers.{through_of}
use Rattle.waveform.specs.Answers.{panelled_of}
use Rattle.instructions.specs.declared.State.{State}
use Rattle.machine.specs.declared.calls.Left.{Left}
use Rattle.machine.specs.declared.calls.Stepped.{Stepped}
use Rattle.machine.specs.Answers.{ran, carried, stepped}

pub refusal_told : (a b : Refusal) → refusal_number a ≡ refusal_number b → a ≡ b
refusal_told a b e = grind arith

-- of the clear and the row check
pub number_told : (p q : Result (Unit {0}) Refusal) → number_of p ≡ number_of q → p ≡ q
number_told p q e = grind arith

pub drawn_told : (p q : Result Counts Refusal) → drawn_of p ≡ drawn_of q → p ≡ q
drawn_told p q e = grind (arith, refusal_told)

pub through_told : (p q : Result Plane Refusal) → through_of p ≡ through_of q → p ≡ q
through_told p q e = grind (arith, refusal_told)

pub panelled_told : (p q : Result ℕ Refusal) → panelled_of p ≡ panelled_of q → p ≡ q
panelled_told p q e = grind (arith, refusal_told)

-- of the machine, whose refusals leave the caller the state that it has
pub ran_told : (given : State) (p q : Result Left Refusal) (memory ram : List ℕ) → ran given p memory ram ≡ ran given q memory ram → p ≡ q
ran_told given p q memory ram e = grind (arith, refusal_told)

pub stepped_told : (given : State) (p q : Result Stepped Refusal)
    → number_of p ≡ number_of q
    → carried p ≡ carried q
    → stepped given p ≡ stepped given q
    → p ≡ q
stepped_told given p q n c s = grind (arith, refusal_told)
