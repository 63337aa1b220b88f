-- docs/RULES.md, 6.6 (02, M-104): the answer in numbers: with every number but 0, no pixels.
use Rattle.std.specs.Prelude.{ℕ, Result, Ok, Err}
use Rattle.rules.specs.declared.Refusal.{Refusal}
use Rattle.rules.specs.Answers.{refusal_number}
use Rattle.waveform.specs.declared.Panelled.{Panelled}

abbrev pub panelled_of : Result ℕ Refusal → Panelled
panelled_of (Ok count) = record { number = 0; pixels = count }
panelled_of (Err refusal) = record { number = refusal_number refusal; pixels = 0 }
