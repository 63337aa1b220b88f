-- From the masks to the row. A chunk's ones are its covered pixels, and its word is one mask of them. The loop over the chunks: what holds
-- before column a, that the columns before the span may be skipped, that one chunk more keeps it, and that nothing beyond the span is
-- covered.
use Prim.Native.Nat.{ℕ, ◌+◌, ◌-◌, ◌%◌, ◌≤◌, ◌<◌, min}
use mathlib.Core.Path.{◌≡◌, refl, ◌∙◌, sym, ap, subst}
use mathlib.Core.Logic.{◌⊎◌, inl, inr}
use mathlib.Core.Bool.{Bool, true, false}
use mathlib.Core.List.{List}
use native.Mathlib.Omega.{arith}
use lib.Dec.{ltb}
use lib.ListN.{length}
use borrow.Author.Tests.{lt-ltb, ltb-true, ltb-false}
use Rattle.rules.specs.Folds.{upto, how_many}
use Rattle.rules.specs.Sizes.{width, sound}
use Rattle.rules.specs.Triangles.{sample, inside_all, covered, row_drawn}
use Rattle.rules.proofs.Folds.{upto_add, upto_still, upto-keeps, how_many-add, how_many-none, how_many_same, how_many-le}
use Rattle.rules.proofs.Pixels.{On, sound_facts, width-le}
use Rattle.rules.proofs.Drawing.{length-pixel, written-left}
use Rattle.masks.specs.declared.Masks.{Masks}
use Rattle.masks.specs.Mask.{MasksOf, word_of, ones_of}
use Rattle.masks.specs.Span.{in_span}
use Rattle.masks.proofs.Columns.{span_within, span-before, span-beyond}
use Rattle.masks.proofs.Mask.{masks-joined, masks_ones, masks_same}
use Rattle.rows.specs.declared.Line.{Line}
use Rattle.rows.specs.Lines.{covered_in, written_in, drawn_in, Drawing, drawing, Writing, writing_of}
use Rattle.rows.specs.Pixels.{chunk_at, chunk_from, WordAsked, WordDone}
use Rattle.rows.specs.Rows.{ChunkAsked, ChunkDone, RowAsked, RowDone}
use Rattle.rows.proofs.Stretch.{covered_on, not_written, pixel_still}

module _ (l : Line) {x : ℕ} (p : On l.screen x l.row) where
  -- on the screen, covered is inside
  pub covered-is : covered_in l x ≡ inside_all l.triangle.vertices (sample x l.row)
  unfolding covered
  covered-is = rw (lt-ltb _ _ p.across, lt-ltb _ _ p.down)

  pub outside_uncovered : inside_all l.triangle.vertices (sample x l.row) ≡ false → covered_in l x ≡ false
  outside_uncovered h = covered-is ∙ h

module _ {l : Line} {a : ℕ} {m : Masks} {d : Drawing} (q : ChunkAsked l a m d) where
  pub word_asked : {wide : ℕ} → wide ≡ word_of m.groups → WordAsked l a wide (writing_of d)
  word_asked e =
      record {
        is_sound = q.is_sound;
        says = e ∙ masks-joined (λ k. covered_in l (chunk_at a + k)) q.masks;
        begins = q.begins;
        room = q.room.to_write;
      }

  pub all_ones : ones_of m.groups ≡ how_many (λ k. covered_in l (a + k)) (chunk_from a)
  all_ones =
      let f : ℕ → Bool = λ k. covered_in l (chunk_at a + k) in
      let e : a % 16 + chunk_from a ≡ 64 = omega arith in
      let p : how_many f (a % 16) ≡ 0 = how_many-none f (a % 16) (λ k h. q.no_earlier (chunk_at a + k) (omega arith) (omega arith)) in
      let r : how_many (λ k. f (a % 16 + k)) (chunk_from a) ≡ how_many (λ k. covered_in l (a + k)) (chunk_from a) =
      how_many_same (λ k. f (a % 16 + k)) (λ k. covered_in l (a + k)) (chunk_from a)
      (λ k h. let i : chunk_at a + (a % 16 + k) ≡ a + k = omega arith in ap (covered_in l) i) in
      omega (arith, masks_ones f q.masks, ap (how_many f) e, how_many-add f (a % 16) (chunk_from a))

  pub chunk_done : {n : ℕ} {w : Writing}
      → n ≡ d.counts.covered + ones_of m.groups
      → WordDone l a (writing_of d) w
      → ChunkDone l a d (drawing w.ram (record { covered = n; written = w.count }))
  chunk_done e c = record { covers = omega (arith, e, all_ones); writes = c.counts; leaves = c.leaves }

-- the part of the columns from a up to `to` that lies in a's chunk
pub in_chunk : {a to past : ℕ} → a < to → (past ≤ 64) × (past ≤ a % 16 + (to - a)) × ((past ≡ 64) ⊎ (past ≡ a % 16 + (to - a)))
    → (a % 16 < past) × (past ≤ 64)
in_chunk h (l, k, inl e) = (omega arith, l)
in_chunk h (l, k, inr e) = (omega arith, l)

-- what holds before column a
pub record Across (l : Line) (from : ℕ) (d₀ d : Drawing) (a : ℕ) : Type 0 where
  pub begun : from ≤ a
  pub at_chunk : (a ≡ from) ⊎ (a % 16 ≡ 0)
  pub is_memory : d.ram ≡ upto (drawn_in l) a d₀.ram
  pub is_covered : d.counts.covered ≡ d₀.counts.covered + how_many (covered_in l) a
  pub is_written : d.counts.written ≡ d₀.counts.written + how_many (written_in l d₀.ram) a

module _ {l : Line} {from to : ℕ} {d₀ : Drawing} (q : RowAsked l (record { start = from; end = to }) d₀) where
  within : (x : ℕ) → from ≤ x → x < to → covered_in l x ≡ true
  within x h i = q.spans x (omega (arith, q.limited)) ∙ span_within from to x h i

  before : (x : ℕ) → x < from → covered_in l x ≡ false
  before x h = q.spans x (omega (arith, q.ordered, q.limited)) ∙ span-before from to x h

  -- in the row beyond the span, and beyond the row
  beyond : (x : ℕ) → to ≤ x → covered_in l x ≡ false
  unfolding covered
  beyond x h = go (ltb x (width l.screen.size)) refl
    where
      go : (b : Bool) → ltb x (width l.screen.size) ≡ b → covered_in l x ≡ false
      go true e = q.spans x (ltb-true x (width l.screen.size) e) ∙ span-beyond from to x h
      go false e = rw e

  -- so beyond the span nothing is counted and nothing is drawn
  to_span : (f : ℕ → Bool) → ((x : ℕ) → to ≤ x → f x ≡ false) → (n : ℕ) → to ≤ n → how_many f n ≡ how_many f to
  to_span f e n h =
      let i : to + (n - to) ≡ n = omega arith in
      omega (arith, ap (how_many f) i, how_many-add f to (n - to), how_many-none (λ k. f (to + k)) (n - to) (λ k j. e (to + k) (omega arith)))

  drawn-span : (n : ℕ) → to ≤ n → upto (drawn_in l) n d₀.ram ≡ upto (drawn_in l) to d₀.ram
  drawn-span n h =
      let m = d₀.ram in
      let i : to + (n - to) ≡ n = omega arith in
      ap (λ (k : ℕ). upto (drawn_in l) k m) (sym i)
      ∙ upto_add (drawn_in l) to (n - to) m
      ∙ upto_still (λ k. drawn_in l (to + k)) (n - to) (upto (drawn_in l) to m)
      (λ k j. pixel_still l (to + k) (upto (drawn_in l) to m) (beyond (to + k) (omega arith)))

  pub across-first : Across l from d₀ d₀ from
  across-first =
      let m = d₀.ram in
      record {
        begun = omega arith;
        at_chunk = inl refl;
        is_memory = sym (upto_still (drawn_in l) from m (λ x h. pixel_still l x m (before x h)));
        is_covered = omega (arith, how_many-none (covered_in l) from before);
        is_written = omega (arith, how_many-none (written_in l m) from (λ x h. not_written l m x (before x h)));
      }

  module _ {d : Drawing} {a : ℕ} (u : Across l from d₀ d a) where
    pub length-across : length d.ram ≡ length d₀.ram
    length-across =
        ap length u.is_memory
        ∙ upto-keeps (drawn_in l) (λ (k : List ℕ). length k ≡ length d₀.ram) a d₀.ram
        (λ i k h e. length-pixel l.triangle l.screen l.row i k ∙ e) refl

    module _ (h : a < to) where
      pub short : a < 640
      short = omega (arith, h, q.limited, width-le (sound_facts q.is_sound))

      no_earlier : (x : ℕ) → chunk_at a ≤ x → x < a → covered_in l x ≡ false
      no_earlier x k i = go u.at_chunk
        where
          go : (a ≡ from) ⊎ (a % 16 ≡ 0) → covered_in l x ≡ false
          go (inl e) = before x (omega arith)
          go (inr e) = absurd (omega arith)

      -- the code's masks are those of the columns from a % 16 up to `past`
      pub chunk_asked : {past : ℕ} → past ≡ min (a % 16 + (to - a)) 64
          → {k : Masks}
          → MasksOf (in_span (a % 16) past) k
          → ChunkAsked l a k d
      chunk_asked {past} p e =
          record {
            is_sound = subst (λ (n : ℕ). sound n l.screen ≡ true) (sym length-across) q.is_sound;
            masks = masks_same (in_span (a % 16) past) (λ j. covered_in l (chunk_at a + j)) same e;
            begins = within a u.begun h;
            no_earlier = no_earlier;
            room =
                record {
                  to_cover = omega (arith, u.is_covered, how_many-le (covered_in l) a, short, q.room.to_cover);
                  to_write = omega (arith, u.is_written, how_many-le (written_in l d₀.ram) a, short, q.room.to_write);
                };
          }
        where
          -- beyond `past` is beyond the span, or beyond the chunk
          after : (j : ℕ) → j < 64 → past ≤ j → to ≤ chunk_at a + j
          after j k n = omega (arith, p)

          same : (j : ℕ) → j < 64 → in_span (a % 16) past j ≡ covered_in l (chunk_at a + j)
          same j k = go (ltb j (a % 16)) (ltb j past) refl refl
            where
              go : (b c : Bool) → ltb j (a % 16) ≡ b → ltb j past ≡ c → in_span (a % 16) past j ≡ covered_in l (chunk_at a + j)
              go true c i o =
                  let n = ltb-true j (a % 16) i in
                  span-before (a % 16) past j n ∙ sym (no_earlier (chunk_at a + j) (omega arith) (omega arith))
              go false true i o =
                  let n = ltb-false j (a % 16) i in
                  let g = ltb-true j past o in
                  span_within (a % 16) past j n g ∙ sym (within (chunk_at a + j) (omega (arith, u.begun)) (omega (arith, p)))
              go false false i o =
                  let g = ltb-false j past o in
                  span-beyond (a % 16) past j g ∙ sym (beyond (chunk_at a + j) (after j k g))

    pub across_more : a < to → {d' : Drawing} → ChunkDone l a d d' → Across l from d₀ d' (a - a % 16 + 64)
    across_more h c =
        record {
          begun = omega (arith, u.begun);
          at_chunk = inr (omega arith);
          is_memory =
              c.leaves
              ∙ ap (upto (λ k. drawn_in l (a + k)) (chunk_from a)) u.is_memory
              ∙ sym (upto_add (drawn_in l) a (chunk_from a) d₀.ram)
              ∙ ap (λ (n : ℕ). upto (drawn_in l) n d₀.ram) next;
          is_covered =
              omega (
                arith,
                c.covers,
                u.is_covered,
                how_many-add (covered_in l) a (chunk_from a),
                ap (how_many (covered_in l)) next,
              );
          is_written =
              let m = d₀.ram in
              omega (
                arith,
                c.writes,
                how_many_same (λ k. written_in l d.ram (a + k)) (λ k. written_in l m (a + k)) (chunk_from a)
                    (λ k i. as_before (a + k) (omega arith)),
                u.is_written,
                how_many-add (written_in l m) a (chunk_from a),
                ap (how_many (written_in l m)) next,
              );
        }
      where
        next : a + chunk_from a ≡ a - a % 16 + 64
        next = omega arith

        -- a pixel to come is judged as before the row
        as_before : (x : ℕ) → a ≤ x → written_in l d.ram x ≡ written_in l d₀.ram x
        as_before x i = go (covered_in l x) refl
          where
            go : (b : Bool) → covered_in l x ≡ b → written_in l d.ram x ≡ written_in l d₀.ram x
            go true e =
                ap (λ (n : List ℕ). written_in l n x) u.is_memory
                ∙ written-left (sound_facts q.is_sound) l.triangle d₀.ram refl (covered_on l e) i
            go false e = not_written l d.ram x e ∙ sym (not_written l d₀.ram x e)

    pub across-last : to ≤ a → RowDone l d₀ d
    unfolding row_drawn
    across-last h =
        let w = width l.screen.size in
        record {
          covers =
              let f : ℕ → Bool = covered_in l in
              omega (arith, u.is_covered, to_span f beyond a h, to_span f beyond w q.limited);
          writes =
              let f : ℕ → Bool = written_in l d₀.ram in
              let none : (x : ℕ) → to ≤ x → f x ≡ false = λ x i. not_written l d₀.ram x (beyond x i) in
              omega (arith, u.is_written, to_span f none a h, to_span f none w q.limited);
          leaves = u.is_memory ∙ drawn-span a h ∙ sym (drawn-span w q.limited);
        }
