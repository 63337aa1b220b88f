-- The result is the definition's, by what is asked of the operation.
use Rattle.pieces.proofs.Joined.{register-result}
use Rattle.results.proofs.operate.Goals as goal

pub returns : goal.returns
returns g c =
    register-result _ _ c.args.w _ _ _ (c.requires.low, c.requires.high)
    (c.requires.defined _ (rw (c.in_r2.ensures, c.in_r3.ensures) at c.operation-v.ensures))
    c.put_result.ensures.registers c.put_result.ensures.cpu
