-- A list of triangles, pixel by pixel: what is known of each pixel's cell is said of its colour and its depth; all other bytes stay. The
-- same of a chain of accepted calls, which draws the list.
use Prim.Native.Nat.{ℕ, ◌<◌}
use mathlib.Core.Path.{◌≡◌, refl, sym, ◌∙◌, ap}
use mathlib.Core.Bool.{Bool, true, false, ◌&&◌}
use mathlib.Core.List.{List, [], ◌∷◌, ◌++◌}
use lib.ListN.{length, get_or}
use lib.Dec.{leb}
use Rattle.rules.specs.declared.Screen.{Screen}
use Rattle.rules.specs.declared.Triangle.{Triangle}
use Rattle.rules.specs.Folds.{choose}
use Rattle.ram.specs.Ram.{load_half}
use Rattle.rules.specs.Sizes.{width, height, sound, Pixel, pixel}
use Rattle.rules.specs.Triangles.{covered, triangle_depth, triangle_pixel}
use Rattle.rules.specs.Lists.{drawn_all}
use Rattle.ram.proofs.Halves.{joined, joined_split}
use Rattle.rules.proofs.Pixels.{On, sound_facts, Cell, cell, painted}
use Rattle.rules.proofs.Memory.{Touched, Rows, same_memory, on_rows}
use Rattle.rules.proofs.Drawing.{merged}
use Rattle.rules.proofs.Lists.{merged_all, touched_drawn_all}
use Rattle.order.specs.Pointwise.{Elsewhere, Painted}
use Rattle.order.specs.Lists.{pixel_at, after_triangle, after_list, DrawsAll, none, call}
use Rattle.order.proofs.Pointwise.{outside, elsewhere, from_cells, to_cells}
use Rattle.order.proofs.Order.{accepted-drawn}
pub use Rattle.rules.proofs.Lists.{drawn_all-append, length-drawn_all}

-- a cell's colour and depth, and the four bytes of a pixel

abbrev pixel_of : Cell → Pixel
pixel_of c = pixel (joined c.colour) (joined c.depth)

abbrev cell_of : Pixel → Cell
cell_of p = painted p.colour p.depth

pixel_cell : (p : Pixel) → pixel_of (cell_of p) ≡ p
pixel_cell p = λ i. record { colour = joined_split p.colour i; depth = joined_split p.depth i }

module _ (s : Screen) (x y : ℕ) where
  pixel_merged : (t : Triangle) (c : Cell) → pixel_of (merged t s x y c) ≡ after_triangle t s x y (pixel_of c)
  unfolding merged after_triangle
  pixel_merged t c = go (covered t s x y && leb (triangle_depth t x y) (joined c.depth))
    where
      go : (b : Bool)
          → pixel_of (choose b (cell_of (triangle_pixel t x y)) c)
          ≡ choose b (triangle_pixel t x y) (pixel_of c)
      go true = pixel_cell (triangle_pixel t x y)
      go false = refl

  pixel_merged_all : (list : List Triangle) (c : Cell) → pixel_of (merged_all list s x y c) ≡ after_list list s x y (pixel_of c)
  unfolding merged_all after_list
  pixel_merged_all [] c = refl
  pixel_merged_all (t ∷ list) c = pixel_merged_all list (merged t s x y c) ∙ ap (after_list list s x y) (pixel_merged t c)

  cell_merged : (t : Triangle) (p : Pixel) → merged t s x y (cell_of p) ≡ cell_of (after_triangle t s x y p)
  unfolding merged after_triangle
  cell_merged t p =
      ap (λ d. choose (covered t s x y && leb (triangle_depth t x y) d) (cell_of (triangle_pixel t x y)) (cell_of p))
      (joined_split p.depth)
      ∙ go (covered t s x y && leb (triangle_depth t x y) p.depth)
    where
      go : (b : Bool)
          → choose b (cell_of (triangle_pixel t x y)) (cell_of p)
          ≡ cell_of (choose b (triangle_pixel t x y) p)
      go true = refl
      go false = refl

  cell_merged_all : (list : List Triangle) (p : Pixel) → merged_all list s x y (cell_of p) ≡ cell_of (after_list list s x y p)
  unfolding merged_all after_list
  cell_merged_all [] p = refl
  cell_merged_all (t ∷ list) p = ap (merged_all list s x y) (cell_merged t p) ∙ cell_merged_all list (after_triangle t s x y p)

-- a list drawn on any memory

module _ (s : Screen) (m : List ℕ) (h : sound (length m) s ≡ true) where
  touched : (list : List Triangle) → Touched s (merged_all list s) (Rows s (height s.size)) m (drawn_all list s m)
  touched list = touched_drawn_all (sound_facts h) list m refl

  list_cell : (list : List Triangle) (x y : ℕ) → On s x y → cell s (drawn_all list s m) x y ≡ merged_all list s x y (cell s m x y)
  list_cell list x y p = (touched list).changed p (on_rows p)

  pub list_pixel : (list : List Triangle) (x y : ℕ)
      → x < width s.size
      → y < height s.size
      → pixel_at (drawn_all list s m) s x y ≡ after_list list s x y (pixel_at m s x y)
  unfolding load_half
  list_pixel list x y a b =
      ap pixel_of (list_cell list x y (record { across = a; down = b })) ∙ pixel_merged_all s x y list (cell s m x y)

  pub list_elsewhere : (list : List Triangle) (b : ℕ) → Elsewhere s b → get_or (drawn_all list s m) b 0 ≡ get_or m b 0
  list_elsewhere list b e = (touched list).beyond (outside e)

  pub list_sound : (list : List Triangle) → sound (length (drawn_all list s m)) s ≡ true
  list_sound list = ap (λ n. sound n s) (length-drawn_all list s m) ∙ h

  -- two lists that make the same of each pixel's cell leave one memory
  pub same_lists : (a b : List Triangle)
      → ((x y : ℕ) → On s x y → merged_all a s x y (cell s m x y) ≡ merged_all b s x y (cell s m x y))
      → drawn_all a s m ≡ drawn_all b s m
  same_lists a b e =
      same_memory s (drawn_all a s m) (drawn_all b s m)
      (length-drawn_all a s m ∙ sym (length-drawn_all b s m))
      (λ x y p. list_cell a x y p ∙ e x y p ∙ sym (list_cell b x y p))
      (λ i o. (touched a).beyond o ∙ sym ((touched b).beyond o))

  -- drawn where each pixel was painted before, byte by byte
  pub list_paints : (list : List Triangle) {k : List ℕ} {new : ℕ → ℕ → Pixel}
      → Painted s (λ x y. true) new k m
      → Painted s (λ x y. true) (λ x y. after_list list s x y (new x y)) k (drawn_all list s m)
  list_paints list {k} {new} p =
      from_cells s (λ x y. true) _ k (drawn_all list s m)
      (length-drawn_all list s m ∙ p.same_length)
      (λ x y o.
      list_cell list x y o
      ∙ ap (merged_all list s x y) (to_cells s (λ x y. true) new k p x y o)
      ∙ cell_merged_all s x y list (new x y))
      (λ b o. (touched list).beyond o ∙ p.elsewhere b (elsewhere o))

-- by calls

pub calls_drawn : {s : Screen} {list : List Triangle} {m after : List ℕ} → DrawsAll s list m after → after ≡ drawn_all list s m
unfolding drawn_all
calls_drawn none = refl
calls_drawn {s} (call {list = list} d e rest) =
    calls_drawn rest ∙ ap (drawn_all list s) (accepted-drawn d (sym d.answers ∙ e))

pub calls_append : {s : Screen} {a b : List Triangle} {m k after : List ℕ}
    → DrawsAll s a m k
    → DrawsAll s b k after
    → DrawsAll s (a ++ b) m after
calls_append none q = q
calls_append (call d e rest) q = call d e (calls_append rest q)

module _ {s : Screen} {list : List Triangle} {m after : List ℕ} (d : DrawsAll s list m after) where
  pub calls_length : length after ≡ length m
  calls_length = ap length (calls_drawn d) ∙ length-drawn_all list s m

  module _ (h : sound (length m) s ≡ true) where
    pub calls_pixel : (x y : ℕ) → x < width s.size → y < height s.size → pixel_at after s x y ≡ after_list list s x y (pixel_at m s x y)
    calls_pixel x y a b = ap (λ l. pixel_at l s x y) (calls_drawn d) ∙ list_pixel s m h list x y a b

    pub calls_elsewhere : (b : ℕ) → Elsewhere s b → get_or after b 0 ≡ get_or m b 0
    calls_elsewhere b e = ap (λ l. get_or l b 0) (calls_drawn d) ∙ list_elsewhere s m h list b e

    pub calls_sound : sound (length after) s ≡ true
    calls_sound = ap (λ n. sound n s) calls_length ∙ h
