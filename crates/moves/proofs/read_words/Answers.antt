-- `read_words` leaves `words_read`. The loop's invariant: the first `i` words are read, which are the definition's first `i` passes.
use Prim.Native.Nat.{◌+◌}
use mathlib.Core.Path.{◌≡◌, refl, sym, ◌∙◌, ap₂}
use native.Mathlib.Omega.{arith}
use lib.ListN.{set, length-set}
use Rattle.rules.proofs.Folds.{upto-none, upto_more}
use Rattle.instructions.specs.Moves.{word_read, words_read}
use Rattle.moves.proofs.read_words.Goals as goal

pub returns : goal.returns
unfolding words_read
returns c =
    let e : c.loop-i.i ≡ 16 = omega arith in
    rw e at c.loop-i.invariant.2

pub loop-i-init : goal.loop-i-init
loop-i-init c = (omega arith, refl, sym (upto-none _ _))

pub loop-i-preserved : goal.loop-i-preserved
unfolding word_read
loop-i-preserved c =
    let a = c.args in
    let l = c.loop-i in (
      omega arith,
      length-set l.memory _ _ ∙ l.invariant.1,
      ap₂ (λ m v. set m (a.to + l.i) v) l.invariant.2 c.load_word.ensures
          ∙ sym (upto_more (word_read a.ram.now a.to a.from) l.i a.memory.now),
    )
