-- A tree at a place that TREESET does not refuse: its sixteen leaves' pixels are pixels of the screen.
use Prim.Native.Nat.{ℕ, ◌+◌, ◌%◌, ◌<◌}
use mathlib.Core.Path.{◌≡◌}
use mathlib.Core.Bool.{Bool, true, false, ◌&&◌}
use native.Mathlib.Omega.{arith}
use lib.Dec.{ltb, eqb}
use borrow.Author.Tests.{ltb-true, eqb-true, not-false}
use Rattle.rules.specs.declared.Screen.{Screen}
use Rattle.rules.specs.Sizes.{width, height}
use Rattle.rules.proofs.Pixels.{On, and_l, and_r}
use Rattle.instructions.specs.Tree.{refuses_place}

module _ (s : Screen) (column row : ℕ) (p : refuses_place s column row ≡ false) where
  accepted : (eqb (column % 16) 0 && ltb column (width s.size) && ltb row (height s.size)) ≡ true
  unfolding refuses_place
  accepted = not-false _ p

  pub first-whole : column % 16 ≡ 0
  first-whole =
      let a : Bool = eqb (column % 16) 0 in
      let b : Bool = ltb column (width s.size) in
      eqb-true _ _ (and_l a b (and_l (a && b) (ltb row (height s.size)) accepted))

  pub leaf_on : {k : ℕ} → k < 16 → On s (column + k) row
  leaf_on h =
      let a : Bool = eqb (column % 16) 0 in
      let b : Bool = ltb column (width s.size) in
      let c : Bool = ltb row (height s.size) in
      let start : column % 16 ≡ 0 = first-whole in
      let across : column < width s.size = ltb-true _ _ (and_r a b (and_l (a && b) c accepted)) in
      record { across = omega arith; down = ltb-true _ _ (and_r (a && b) c accepted) }
