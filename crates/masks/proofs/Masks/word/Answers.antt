-- Each group stands in bits of its own.
use Rattle.std.proofs.Common.{rules, arith, ℕ, ◌<◌, slice_index_or}
use Rattle.masks.proofs.Mask.{side_by_side, word_of_four}
use Rattle.masks.proofs.Masks.word.Goals as goal

pub returns : goal.returns
returns c =
    let groups = c.args.self.groups in
    let few : (i : ℕ) → slice_index_or groups i 0 < 65536 = λ i. search rules in
    let a = c.from in
    let b = c.from-2 in
    let d = c.from-3 in
    let e = c.from-4 in
    omega (
      arith,
      side_by_side a.result b.result d.result e.result (omega (arith, a.ensures, few 0)) (omega (arith, b.ensures, few 1))
          (omega (arith, d.ensures, few 2)) (omega (arith, e.ensures, few 3)),
      word_of_four groups (search rules),
      a.ensures,
      b.ensures,
      d.ensures,
      e.ensures,
    )
