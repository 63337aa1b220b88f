-- The entry at a - 1 is that of a, which is RECP's answer; elsewhere the division answers.
use Rattle.std.proofs.Common.{arith, ℕ, ◌≡◌, ◌+◌, ◌-◌, ◌%◌, ◌∙◌, ap, get_or}
use Rattle.alu.proofs.Entries.{entry-reciprocal}
use Rattle.alu.proofs.reciprocals.recp.Goals as goal

pub returns-in-Some : goal.returns-in-Some
returns-in-Some c =
    let a : ℕ = c.args.a in
    let table = c.reciprocals.ensures in
    let there = c.in-Some.ensures.lookup.3 in
    let at : (a + 4294967295) % 4294967296 ≡ a - 1 = omega (arith, there.0, table.size) in
    there.1 0
    ∙ ap (λ (i : ℕ). get_or c.reciprocals.result.now i 0) at
    ∙ entry-reciprocal table.rule a (omega (arith, there.0, table.size)) (omega (arith, there.0, table.size))
