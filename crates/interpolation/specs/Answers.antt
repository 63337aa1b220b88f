-- docs/RULES.md, 6.5 (02, M-101): the answer in numbers: "a refusal gives three zeros".
use Rattle.std.specs.Prelude.{Result, Ok, Err}
use Rattle.rules.specs.declared.Plane.{Plane}
use Rattle.rules.specs.declared.Refusal.{Refusal}
use Rattle.rules.specs.Answers.{refusal_number}
use Rattle.interpolation.specs.declared.Through.{Through}
use Rattle.interpolation.specs.Interpolation.{zeros}

abbrev pub through_of : Result Plane Refusal → Through
through_of (Ok plane) = record { number = 0; plane = plane }
through_of (Err refusal) = record { number = refusal_number refusal; plane = zeros }
