-- A covered pixel, drawn as the code draws it, is drawn as the definition draws it: its tints are the triangle's depth and colour there,
-- and the two half-words have no byte in common, so their order is free.
use Prim.Native.Nat.{ℕ, ◌+◌, ◌≤◌}
use mathlib.Core.Path.{◌≡◌, ◌∙◌, ap, ap₂}
use mathlib.Core.Bool.{Bool, true}
use mathlib.Core.List.{List}
use native.Mathlib.Omega.{arith}
use lib.Dec.{leb}
use Rattle.rules.specs.Folds.{bit, choose}
use Rattle.ram.specs.Ram.{load_half, store_half}
use Rattle.rules.specs.Sizes.{colour_at, depth_at, put_pixel}
use Rattle.rules.specs.Triangles.{triangle_depth, triangle_colour, written, pixel_drawn}
use Rattle.rules.proofs.Pixels.{Sound, On, width-le, height-le, colour_depth_apart}
use Rattle.ram.proofs.Halves.{apart_sym, store_half-comm}
use Rattle.planes.specs.declared.Tints.{Tints}
use Rattle.planes.specs.Planes.{tints_at, tint_depth, tint_colour}
use Rattle.planes.proofs.Affine.{tint_depth_lem, tint_colour_lem}
use Rattle.rows.specs.declared.Line.{Line}
use Rattle.rows.specs.Lines.{covered_in, written_in, drawn_in, Writing}
use Rattle.rows.specs.Pixels.{passes, PixelDone}
use Rattle.rows.proofs.Stretch.{covered_on}

module _
    (l : Line)
    (x : ℕ)
    {n : ℕ}
    (facts : Sound n l.screen)
    (here : covered_in l x ≡ true)
    {v : Tints}
    (tints : v ≡ tints_at l.triangle x l.row)
  where
    lies_on_screen : On l.screen x l.row
    lies_on_screen = covered_on l here

    across : x ≤ 640
    across = omega (arith, lies_on_screen.across, width-le facts)

    down : l.row ≤ 480
    down = omega (arith, lies_on_screen.down, height-le facts)

    -- where its half-words stand, and what the triangle has there
    abbrev colour_here : ℕ
    colour_here = colour_at l.screen x l.row

    abbrev depth_here : ℕ
    depth_here = depth_at l.screen x l.row

    abbrev new_colour : ℕ
    new_colour = triangle_colour l.triangle x l.row

    abbrev new_depth : ℕ
    new_depth = triangle_depth l.triangle x l.row

    depth_is : tint_depth v ≡ new_depth
    depth_is = ap tint_depth tints ∙ tint_depth_lem l.triangle x l.row across down

    colour_is : tint_colour v ≡ new_colour
    colour_is = ap tint_colour tints ∙ tint_colour_lem l.triangle x l.row across down

    judged : (m : List ℕ) → passes m depth_here v ≡ written_in l m x
    unfolding written
    judged m = rw here (ap (λ (d : ℕ). leb d (load_half m depth_here)) depth_is)

    put_is : (m : List ℕ) (p : Bool)
        → choose p (store_half (store_half m depth_here (tint_depth v)) colour_here (tint_colour v)) m
        ≡ choose p (put_pixel l.screen x l.row new_colour new_depth m) m
    unfolding put_pixel
    put_is m p =
        ap₂ (λ (d c : ℕ). choose p (store_half (store_half m depth_here d) colour_here c) m) depth_is colour_is
        ∙ ap (λ (k : List ℕ). choose p k m)
        (store_half-comm m depth_here new_depth colour_here new_colour (apart_sym (colour_depth_apart facts lies_on_screen lies_on_screen)))

    module _ {w w' : Writing} (d : PixelDone colour_here depth_here v w w') where
      pub pixel-counts : w'.count ≡ w.count + bit (written_in l w.ram x)
      pixel-counts = d.counts ∙ ap (λ p. w.count + bit p) (judged w.ram)

      pub pixel-leaves : w'.ram ≡ drawn_in l x w.ram
      unfolding pixel_drawn
      pixel-leaves =
          d.leaves
          ∙ put_is w.ram (passes w.ram depth_here v)
          ∙ ap (λ (p : Bool). choose p (put_pixel l.screen x l.row new_colour new_depth w.ram) w.ram) (judged w.ram)
