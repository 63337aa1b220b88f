-- A triangle in one colour has that colour and depth 0 at every pixel, so each pixel that it covers is written.
use Prim.Native.Nat.{ℕ, ◌*◌, ◌/◌, ◌%◌, ◌<◌}
use mathlib.Core.Path.{◌≡◌, ◌∙◌, ap}
use mathlib.Core.Bool.{◌&&◌}
use mathlib.Core.List.{List, [], ◌∷◌}
use native.Mathlib.Nat.{mod-eq_of_lt}
use native.Mathlib.Omega.{arith}
use lib.Dec.{leb}
use lib.IntN.{pos}
use borrow.Author.Tests.{le-leb}
use Rattle.ints.specs.Modulo.{mod32}
use Rattle.ints.proofs.Modulo.{mod32-pos}
use Rattle.ints.proofs.Poly.{var, con, ◌⊕◌, ◌⊗◌, solve}
use Rattle.rules.specs.declared.Screen.{Screen}
use Rattle.rules.specs.declared.Vertices.{Vertices}
use Rattle.ram.specs.Ram.{load_half}
use Rattle.rules.specs.Sizes.{depth_at, pixel}
use Rattle.rules.specs.Triangles.{plane_at, top_half, packed, triangle_depth, triangle_colour, triangle_pixel, covered, written}
use Rattle.rules.proofs.Choices.{and_whole}
use Rattle.waveform.specs.Bars.{flat, in_colour}

module _ (x y : ℕ) where
  flat-value : (v : ℕ) → v < 65536 → top_half (plane_at (flat v) x y) ≡ v
  unfolding top_half plane_at
  flat-value v h =
      ap (λ z. mod32 z / 65536)
      (solve (pos (v * 65536) ∷ pos x ∷ pos y ∷ []) (var 0 ⊕ con (pos 0) ⊗ var 1 ⊕ con (pos 0) ⊗ var 2) (var 0) tt)
      ∙ ap (λ z. z / 65536) (mod32-pos (v * 65536) ∙ mod-eq_of_lt (omega arith))
      ∙ omega arith

  module _ (colour : ℕ) (v : Vertices) where
    pub flat-depth : triangle_depth (in_colour colour v) x y ≡ 0
    unfolding triangle_depth in_colour
    flat-depth = flat-value 0 (omega arith)

    pub flat-colour : colour < 65536 → triangle_colour (in_colour colour v) x y ≡ colour
    unfolding triangle_colour packed in_colour
    flat-colour h =
        let r : top_half (plane_at (flat (colour / 2048)) x y) ≡ colour / 2048 = flat-value (colour / 2048) (omega arith) in
        let g : top_half (plane_at (flat (colour / 32 % 64)) x y) ≡ colour / 32 % 64 = flat-value (colour / 32 % 64) (omega arith) in
        let b : top_half (plane_at (flat (colour % 32)) x y) ≡ colour % 32 = flat-value (colour % 32) (omega arith) in
        omega (arith, r, g, b)

    pub flat-pixel : colour < 65536 → triangle_pixel (in_colour colour v) x y ≡ pixel colour 0
    flat-pixel h = λ i. record { colour = flat-colour h i; depth = flat-depth i }

    -- depth 0 is above no stored depth
    pub flat-written : (s : Screen) (m : List ℕ) → written (in_colour colour v) s m x y ≡ covered (in_colour colour v) s x y
    unfolding written
    flat-written s m =
        ap (λ z. covered (in_colour colour v) s x y && leb z (load_half m (depth_at s x y))) flat-depth
        ∙ ap (λ b. covered (in_colour colour v) s x y && b) (le-leb 0 (load_half m (depth_at s x y)) (omega arith))
        ∙ and_whole (covered (in_colour colour v) s x y)
