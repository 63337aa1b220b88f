-- A triangle's number from the screen's: 3 and 5 go first, and 0 says that the screen is sound and the vertices are in range. A refusal
-- leaves all as it was; else the frame is drawn, in one of two ways. The second is taken only where the triangle has nothing outside one
-- column.
use Prim.Native.Nat.{ℕ, ◌<◌, ◌≤◌}
use mathlib.Core.Path.{◌≡◌, refl, sym, ◌∙◌, ap, ap₂, subst}
use mathlib.Core.Logic.{◌≢◌}
use mathlib.Core.Bool.{Bool, true, false, not}
use mathlib.Core.List.{List}
use lib.ListN.{length}
use native.Mathlib.Omega.{arith}
use Rattle.std.specs.Prelude.{Ok, Err}
use Rattle.rules.specs.declared.Screen.{Screen}
use Rattle.rules.specs.declared.Triangle.{Triangle}
use Rattle.rules.specs.declared.Vertices.{Vertices}
use Rattle.rules.specs.declared.Refusal.{Refusal}
use Rattle.rules.specs.Answers.{refusal_number, drawn_of}
use Rattle.rules.specs.declared.Refusal.TheVariants.{ProgramTooLong, WrongDataMemory, RamTooLong, IllFormedState, UnsoundScreen}
use Rattle.rules.specs.declared.Refusal.TheVariants.{VertexOutOfRange, EdgeTooLarge, NoSuchRow, NoPlane, PanelOutOfRange}
use Rattle.rules.specs.Folds.{choose}
use Rattle.rules.specs.Sizes.{width, height}
use Rattle.rules.specs.Numbers.{screen_number, triangle_number, vertices_in_range, triangle_too_large}
use Rattle.rules.specs.Triangles.{covered_pixels, written_pixels, drawn}
use Rattle.rules.specs.Calls.{Draws}
use Rattle.rules.proofs.Pixels.{Sound, sound_facts, width-le, height-le}
use Rattle.rules.proofs.Choices.{accepted_no, accepted_yes}
use Rattle.rules.proofs.Refusals.{ScreenPasses, screen_passed, screen_refuses, others_follow, screen_number_passed}
use Rattle.rows.specs.Lines.{Drawing}
use Rattle.draw.specs.Frames.{FrameAsked, NarrowAsked, FrameDone, NothingBut}

-- a refusal is no 0
pub refuses : (r : Refusal) → refusal_number r ≢ 0
refuses ProgramTooLong e = absurd (omega arith)
refuses WrongDataMemory e = absurd (omega arith)
refuses RamTooLong e = absurd (omega arith)
refuses IllFormedState e = absurd (omega arith)
refuses UnsoundScreen e = absurd (omega arith)
refuses VertexOutOfRange e = absurd (omega arith)
refuses EdgeTooLarge e = absurd (omega arith)
refuses NoSuchRow e = absurd (omega arith)
refuses NoPlane e = absurd (omega arith)
refuses PanelOutOfRange e = absurd (omega arith)

module _ (n : ℕ) (s : Screen) (t : Triangle) where
  abbrev pub others : ℕ
  others = choose (not (vertices_in_range t.vertices)) 6 (choose (triangle_too_large t.vertices (width s.size) (height s.size)) 7 0)

  pub screen-first : screen_number n s ≢ 0 → screen_number n s ≡ triangle_number n s t
  unfolding triangle_number
  screen-first h = screen_refuses n s others h

  pub then_triangle : screen_number n s ≡ 0 → triangle_number n s t ≡ others
  unfolding triangle_number
  then_triangle h = others_follow n s others (screen_number_passed h)

  pub drawn_asks : triangle_number n s t ≡ 0 → FrameAsked n s t
  unfolding triangle_number
  drawn_asks h = go (vertices_in_range t.vertices) refl passed.1
    where
      passed : ScreenPasses n s × (others ≡ 0)
      passed = screen_passed n s others h

      go : (b : Bool) → vertices_in_range t.vertices ≡ b
          → ◌≡◌ {A = ℕ} (choose (not b) 6 (choose (triangle_too_large t.vertices (width s.size) (height s.size)) 7 0)) 0
          → FrameAsked n s t
      go false q e = absurd (omega arith)
      go true q e = record { is_sound = passed.0.is_sound; in_range = q }

-- what the screen's test refuses
module _ (n : ℕ) (s : Screen) (t : Triangle) where
  pub screen_decides : (r : Refusal) → refusal_number r ≡ screen_number n s → refusal_number r ≡ triangle_number n s t
  screen_decides r e = e ∙ screen-first n s t (λ z. refuses r (e ∙ z))

-- the tests of `triangle_number` in the table's order, where the screen passes
module _ (n : ℕ) (s : Screen) (z : 0 ≡ screen_number n s) where
  facts : Sound n s
  facts = sound_facts (screen_number_passed (sym z)).is_sound

  pub some_columns : (w : ℕ) → w ≡ width s.size → 1 ≤ w
  some_columns w p = omega (arith, p, facts.groups_low)

  pub columns : (w : ℕ) → w ≡ width s.size → w ≤ 640
  columns w p = omega (arith, p, width-le facts)

  pub some_rows : (h : ℕ) → h ≡ height s.size → 1 ≤ h
  some_rows h q = omega (arith, q, facts.height_low)

  module _ (t : Triangle) where
    pub vertices_refused : vertices_in_range t.vertices ≡ false → 6 ≡ triangle_number n s t
    vertices_refused v =
        let large = triangle_too_large t.vertices (width s.size) (height s.size) in
        sym (then_triangle n s t (sym z) ∙ ap (λ (q : Bool). choose (not q) 6 (choose large 7 0)) v)

    -- v is the vertices, in range; w columns and h rows
    module _ (v : Vertices) (e : v ≡ t.vertices) (r : vertices_in_range v ≡ true) (w : ℕ) (p : w ≡ width s.size) (h : ℕ) (q : h ≡ height s.size)
        (large : Bool) (i : large ≡ triangle_too_large v w h) where
      judged : (b : Bool) → large ≡ b → choose b 7 0 ≡ triangle_number n s t
      judged b j =
          let l : triangle_too_large t.vertices (width s.size) (height s.size) ≡ b =
          ap₂ (triangle_too_large t.vertices) (sym p) (sym q) ∙ ap (λ u. triangle_too_large u w h) (sym e) ∙ sym i ∙ j in
          let d : vertices_in_range t.vertices ≡ true = ap vertices_in_range (sym e) ∙ r in
          sym (then_triangle n s t (sym z) ∙ ap₂ (λ (p q : Bool). choose (not p) 6 (choose q 7 0)) d l)

      pub size_refused : large ≡ true → 7 ≡ triangle_number n s t
      size_refused = judged true

      pub all_passed : large ≡ false → 0 ≡ triangle_number n s t
      all_passed = judged false

-- what the tests ask of the vertices and the size, where k is the screen's number and b says that the vertices are in range
module _ (n : ℕ) (s : Screen) (t : Triangle) (k : ℕ) (e : k ≡ screen_number n s) (z : k ≡ 0) (b : Bool) (v : b ≡ vertices_in_range t.vertices)
    (w h : ℕ) (f : b ≡ true) (p : w ≡ width s.size) (q : h ≡ height s.size) where
  pub size_asked : (vertices_in_range t.vertices ≡ true) × (1 ≤ w) × (w ≤ 640) × (1 ≤ h) × (h ≤ 512)
  size_asked =
      let k = sound_facts (screen_number_passed (sym e ∙ z)).is_sound in (
        sym v ∙ f,
        omega (arith, p, k.groups_low),
        omega (arith, p, width-le k),
        omega (arith, q, k.height_low),
        omega (arith, q, height-le k),
      )

-- what `draw` asks of its callees where nothing is refused
module _ (n : ℕ) (s : Screen) (t : Triangle) (z : triangle_number n s t ≡ 0) where
  pub frame_asked : FrameAsked n s t
  frame_asked = drawn_asks n s t z

  pub narrow_asked : (w : ℕ) → w ≡ width s.size → (x : ℕ) → x < w → NothingBut t.vertices w x → NarrowAsked n s t x
  narrow_asked w i x h alone =
      record {
        asked = frame_asked;
        lies_on_screen = subst (λ (m : ℕ). x < m) i h;
        others = subst (λ (m : ℕ). NothingBut t.vertices m x) i alone;
      }

-- and of a lone column, where k is the number
module _ (n : ℕ) (s : Screen) (t : Triangle) (k : ℕ) (e : k ≡ triangle_number n s t) (z : k ≡ 0) (w : ℕ) (i : w ≡ width s.size) where
  pub column_asked : (vertices_in_range t.vertices ≡ true) × (w ≤ 640)
  column_asked =
      let a = frame_asked n s t (sym e ∙ z) in
      (a.in_range, omega (arith, i, width-le (sound_facts a.is_sound)))

module _ (m : List ℕ) (s : Screen) (t : Triangle) where
  abbrev N : ℕ
  N = triangle_number (length m) s t

  pub refused_draws : (r : Refusal) → refusal_number r ≡ N → Draws m s t (drawn_of (Err r)) m
  refused_draws k e =
      let r : N ≢ 0 = λ z. refuses k (e ∙ z) in
      record {
        answers = e;
        covers = sym (accepted_no N (covered_pixels t s) 0 r);
        writes = sym (accepted_no N (written_pixels t s m) 0 r);
        leaves = sym (accepted_no N (drawn t s m) m r);
      }

  pub done_draws : 0 ≡ N → {after : Drawing} → FrameDone m s t after → Draws m s t (drawn_of (Ok after.counts)) after.ram
  done_draws i d =
      record {
        answers = i;
        covers = d.covers ∙ sym (accepted_yes N (covered_pixels t s) 0 (sym i));
        writes = d.writes ∙ sym (accepted_yes N (written_pixels t s m) 0 (sym i));
        leaves = d.leaves ∙ sym (accepted_yes N (drawn t s m) m (sym i));
      }
