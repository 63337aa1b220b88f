-- Each of the three numbers is judged as it is read back; where all fit 32 bits they are the plane's.
use mathlib.Core.Path.{◌≡◌}
use native.Mathlib.Omega.{arith}
use Rattle.std.proofs.lemmas.Grind.{common_steps}
use Rattle.interpolation.specs.Interpolation.{plane_through, through_number}
use Rattle.interpolation.specs.Refusals.{c_outside, a_outside, b_outside}
use Rattle.through.proofs.Answers.{judged, narrowed, lacking, has_plane, passes}
use Rattle.through.proofs.Solvable.plane.Goals as goal

pub returns : goal.returns
unfolding plane_through
returns c =
    let s = c.args.self in
    passes s
    (has_plane s
    (judged c.c.ensures c.c.type_inv c.in_ok-signed32.ensures.fits)
    (judged c.a.ensures c.a.type_inv c.in_ok-signed32-2.ensures.fits)
    (judged c.b.ensures c.b.type_inv c.in_ok-signed32-3.ensures.fits))
    (λ i.
    record {
      c = narrowed c.in_ok-signed32.ensures.value c.c.ensures c.c.type_inv c.in_ok-signed32.ensures.fits i;
      a = narrowed c.in_ok-signed32-2.ensures.value c.a.ensures c.a.type_inv c.in_ok-signed32-2.ensures.fits i;
      b = narrowed c.in_ok-signed32-3.ensures.value c.b.ensures c.b.type_inv c.in_ok-signed32-3.ensures.fits i;
    })

pub returns-in_err-signed32 : goal.returns-in_err-signed32
returns-in_err-signed32 c =
    let s = c.args.self in
    let is : through_number s.corners.vertices s.values ≡ 9 = lacking s (c_outside (judged c.c.ensures c.c.type_inv c.in_err-signed32.ensures.outside)) in
    grind (arith, common_steps)

pub returns-in_err-signed32-2 : goal.returns-in_err-signed32-2
returns-in_err-signed32-2 c =
    let s = c.args.self in
    let is : through_number s.corners.vertices s.values ≡ 9 = lacking s (a_outside (judged c.a.ensures c.a.type_inv c.in_err-signed32-2.ensures.outside)) in
    grind (arith, common_steps)

pub returns-in_err-signed32-3 : goal.returns-in_err-signed32-3
returns-in_err-signed32-3 c =
    let s = c.args.self in
    let is : through_number s.corners.vertices s.values ≡ 9 = lacking s (b_outside (judged c.b.ensures c.b.type_inv c.in_err-signed32-3.ensures.outside)) in
    grind (arith, common_steps)
