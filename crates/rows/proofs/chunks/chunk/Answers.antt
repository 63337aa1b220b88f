-- The masks' ones are the covered pixels, and the masks side by side the word whose pixels are drawn.
use mathlib.Core.Path.{◌≡◌, ap}
use Prim.Native.Nat.{ℕ, ◌+◌}
use native.Mathlib.Omega.{arith}
use Rattle.rules.proofs.Folds.{how_many-le}
use Rattle.rows.specs.Lines.{covered_in}
use Rattle.rows.specs.Pixels.{chunk_from}
use Rattle.rows.proofs.Rowed.{word_asked, all_ones, chunk_done}
use Rattle.rows.proofs.chunks.chunk.Goals as goal

pub overflow_add-covered : goal.overflow_add-covered
overflow_add-covered c =
    let a = c.args in
    let n = all_ones c.requires in
    let few = how_many-le (λ (k : ℕ). covered_in a.line (a.a + k)) (chunk_from a.a) in
    omega (arith, c.ones.ensures, n, few, c.requires.room.to_cover)

pub enabled-written-requires : goal.enabled-written-requires
enabled-written-requires c =
    word_asked c.requires c.word.ensures

pub returns : goal.returns
returns c =
    let n : c.args.given.covered + c.ones.result ≡ _ = ap (λ (k : ℕ). c.args.given.covered + k) c.ones.ensures in
    chunk_done c.requires n c.enabled-written.ensures
