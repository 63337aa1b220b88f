-- The test is computed over the code's own numbers, which stand in what is to be shown.
use Rattle.std.proofs.Common.{refl}
use Rattle.alu.proofs.Entries.{whole_table}
use Rattle.alu.proofs.reciprocals.reciprocals.Goals as goal

pub returns-clause-rule : goal.returns-clause-rule
returns-clause-rule c = whole_table _ refl
