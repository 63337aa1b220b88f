-- The loop's invariant is `Across`: what holds before column a. Its laws are the loop's needs.
use Prim.Native.Nat.{◌<◌}
use native.Mathlib.Omega.{arith}
use Rattle.rows.proofs.Rowed.{across-first, across_more, across-last, short, chunk_asked}
use Rattle.rows.proofs.chunks.row.Goals as goal

pub loop-a-init : goal.loop-a-init
loop-a-init c = across-first c.requires

pub overflow_add-first : goal.overflow_add-first
overflow_add-first c = record {
  fits =
      let left : c.loop-a.a < 640 = short c.requires c.loop-a.invariant c.loop-a-test.true in
      omega (arith, left);
}

pub chunk-c-requires : goal.chunk-c-requires
chunk-c-requires c =
    chunk_asked c.requires c.loop-a.invariant c.loop-a-test.true c.min-past.ensures
    c.of_span.ensures

pub overflow_add-a : goal.overflow_add-a
overflow_add-a c =
    let left : c.loop-a.a < 640 = short c.requires c.loop-a.invariant c.loop-a-test.true in
    record { fits = omega (arith, left) }

pub loop-a-smaller : goal.loop-a-smaller
loop-a-smaller c =
    omega (arith, c.loop-a-test.true)

pub loop-a-preserved : goal.loop-a-preserved
loop-a-preserved c =
    across_more c.requires c.loop-a.invariant c.loop-a-test.true c.chunk-c.ensures

pub returns : goal.returns
returns c =
    across-last c.requires c.loop-a.invariant c.loop-a-test.false
