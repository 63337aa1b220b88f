-- The loop over the rows: what holds before row y, that rows with nothing inside may be skipped, and that one row more keeps it.
use Prim.Native.Nat.{ℕ, zero, suc, ◌+◌, ◌-◌, ◌≤◌, ◌<◌}
use mathlib.Core.Path.{◌≡◌, refl, sym, ◌∙◌, ap, subst}
use mathlib.Core.Bool.{false}
use mathlib.Core.List.{List}
use native.Mathlib.Nat.{add-zero, zero-add}
use native.Mathlib.Omega.{arith}
use lib.ListN.{length}
use Rattle.rules.specs.declared.Screen.{Screen}
use Rattle.rules.specs.declared.Triangle.{Triangle}
use Rattle.rules.specs.Folds.{upto, pixels}
use Rattle.rules.specs.Sizes.{width, height}
use Rattle.rules.specs.Triangles.{sample, inside_all, covered, written, row_drawn, drawn}
use Rattle.rules.proofs.Folds.{upto-none, upto_more, upto_still, how_many-none, how_many_same, pixels_more, pixels-le}
use Rattle.rules.proofs.Pixels.{Sound, width-le, height-le}
use Rattle.rules.proofs.Drawing.{length_rows, written_rows}
use Rattle.rows.specs.Lines.{line, covered_in, written_in, drawn_in, Drawing, drawing}
use Rattle.rows.specs.Rows.{Room, RowDone}
use Rattle.std.specs.declared.ops.Range.{Range}
use Rattle.rows.specs.declared.Line.{Line}
use Rattle.draw.specs.Frames.{RowsTouched, FrameDone}
use Rattle.rows.proofs.Stretch.{not_written, pixel_still}
use Rattle.rows.proofs.Rowed.{outside_uncovered}

pub record Down (m₀ : List ℕ) (s : Screen) (t : Triangle) (d : Drawing) (y : ℕ) : Type 0 where
  pub before_end : y ≤ height s.size
  pub is_memory : d.ram ≡ upto (row_drawn t s) y m₀
  pub is_covered : d.counts.covered ≡ pixels (covered t s) (width s.size) y
  pub is_written : d.counts.written ≡ pixels (written t s m₀) (width s.size) y

-- the memory as it is lent, and nothing counted
abbrev pub undrawn : List ℕ → Drawing
undrawn m = drawing m (record { covered = 0; written = 0 })

-- a row with nothing inside
still_row : (l : Line) (d : Drawing) → l.row < height l.screen.size
    → ((x : ℕ) → inside_all l.triangle.vertices (sample x l.row) ≡ false)
    → RowDone l d d
unfolding row_drawn
still_row l d h out =
    let w = width l.screen.size in
    let none : (x : ℕ) → x < w → covered_in l x ≡ false = λ x i. outside_uncovered l (record { across = i; down = h }) (out x) in
    record {
      covers = omega (arith, how_many-none (covered_in l) w none);
      writes = omega (arith, how_many-none (written_in l d.ram) w (λ x i. not_written l d.ram x (none x i)));
      leaves = sym (upto_still (drawn_in l) w d.ram (λ x i. pixel_still l x d.ram (none x i)));
    }

module _ {m₀ : List ℕ} {s : Screen} {t : Triangle} where
  down-none : Down m₀ s t (undrawn m₀) 0
  unfolding pixels
  down-none = record { before_end = omega arith; is_memory = sym (upto-none (row_drawn t s) m₀); is_covered = refl; is_written = refl }

  module _ {d : Drawing} {y : ℕ} (u : Down m₀ s t d y) where
    pub length-down : length d.ram ≡ length m₀
    length-down = ap length u.is_memory ∙ length_rows t s y m₀

    module _ (q : Sound (length m₀) s) where
      -- a screen's pixels can be counted
      pub room-down : Room d.counts 1024
      room-down =
          let w = width s.size in
          record {
            to_cover = omega (arith, u.is_covered, pixels-le (covered t s) w 640 y (width-le q), u.before_end, height-le q);
            to_write = omega (arith, u.is_written, pixels-le (written t s m₀) w 640 y (width-le q), u.before_end, height-le q);
          }

      -- one row more
      pub down_more : y < height s.size → {d' : Drawing} → RowDone (line s t y) d d' → Down m₀ s t d' (y + 1)
      down_more h r =
          record {
            before_end = omega arith;
            is_memory = r.leaves ∙ ap (row_drawn t s y) u.is_memory ∙ sym (upto_more (row_drawn t s) y m₀);
            is_covered = omega (arith, r.covers, u.is_covered, pixels_more (covered t s) (width s.size) y);
            is_written =
                omega (
                  arith,
                  r.writes,
                  u.is_written,
                  how_many_same (λ x. written t s d.ram x y) (λ x. written t s m₀ x y) (width s.size)
                      (λ x l.
                      ap (λ (n : List ℕ). written t s n x y) u.is_memory
                      ∙ written_rows q t m₀ refl (record { across = l; down = h }) (omega arith)),
                  pixels_more (written t s m₀) (width s.size) y,
                );
          }

  module _ (q : Sound (length m₀) s) {d : Drawing} {y : ℕ} (u : Down m₀ s t d y) where
    down_skip : (n : ℕ) → y + n ≤ height s.size
        → ((x j : ℕ) → y ≤ j → j < y + n → inside_all t.vertices (sample x j) ≡ false)
        → Down m₀ s t d (y + n)
    down_skip zero h out = rw (add-zero y) u
    down_skip (suc n) h out =
        let v : Down m₀ s t d (y + n) = down_skip n (omega arith) (λ x j a b. out x j a (omega arith)) in
        let i : y + n + 1 ≡ y + suc n = omega arith in
        subst (Down m₀ s t d) i
        (down_more v q (omega arith) (still_row (line s t (y + n)) d (omega arith) (λ x. out x (y + n) (omega arith) (omega arith))))

  down-last : {d : Drawing} → Down m₀ s t d (height s.size) → FrameDone m₀ s t d
  unfolding drawn
  down-last u = record { covers = u.is_covered; writes = u.is_written; leaves = u.is_memory }

-- from the first touched row on, and past the last one
module _ {m₀ : List ℕ} {s : Screen} {t : Triangle} (q : Sound (length m₀) s) {r : Range ℕ}
    (u : RowsTouched t.vertices (height s.size) r) where
  pub down-first : Down m₀ s t (undrawn m₀) r.start
  down-first =
      subst (Down m₀ s t (undrawn m₀)) (zero-add r.start)
      (down_skip q down-none r.start
      (omega (arith, u.ordered, u.limited))
      (λ x j h k. u.before x j (omega (arith, u.ordered, u.limited)) (omega arith)))

  pub down_past : {d : Drawing} {y : ℕ} → Down m₀ s t d y → r.end ≤ y → FrameDone m₀ s t d
  down_past {d} {y} v h =
      let n = height s.size in
      let e : y + (n - y) ≡ n = omega (arith, v.before_end) in
      down-last
      (subst (Down m₀ s t d) e (down_skip q v (n - y) (omega arith) (λ x j k l. u.beyond x j (omega arith) (omega arith))))
