-- `write_words` leaves `words_written`. The loop's invariant: the first `i` words are written, which are the definition's first `i` passes.
use Prim.Native.Nat.{◌+◌, ◌*◌}
use mathlib.Core.Path.{◌≡◌, refl, sym, ◌∙◌, ap}
use native.Mathlib.Omega.{arith}
use lib.ListN.{get_or}
use Rattle.rules.proofs.Folds.{upto-none, upto_more}
use Rattle.ram.specs.Ram.{store_word}
use Rattle.instructions.specs.Moves.{word_written, words_written}
use Rattle.moves.proofs.write_words.Goals as goal

pub returns : goal.returns
unfolding words_written
returns c =
    let e : c.loop-i.i ≡ 16 = omega arith in
    rw e at c.loop-i.invariant.2

pub loop-i-init : goal.loop-i-init
loop-i-init c = (omega arith, refl, sym (upto-none _ _))

pub loop-i-preserved : goal.loop-i-preserved
unfolding word_written
loop-i-preserved c =
    let a = c.args in
    let l = c.loop-i in
    let s = c.store_word in (
      omega arith,
      omega (arith, s.auto.ram, l.invariant.1),
      s.ensures
          ∙ ap (λ m. store_word m (a.to + 4 * l.i) (get_or a.memory.now (a.from + l.i) 0)) l.invariant.2
          ∙ sym (upto_more (word_written a.memory.now a.from a.to) l.i a.ram.now),
    )
