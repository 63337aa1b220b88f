-- The three edges' insides meet in one span: it begins at the last crossing where an inside begins and ends at the first one where an
-- inside ends.
use Prim.Native.Nat.{ℕ, ◌+◌, ◌*◌, ◌-◌, ◌≤◌, ◌<◌}
use mathlib.Core.Path.{◌≡◌, refl, sym, ◌∙◌, ap, ap₂}
use mathlib.Core.Bool.{Bool, true, false, not, ◌&&◌, ◌||◌, and_comm}
use native.Mathlib.Omega.{arith}
use lib.Dec.{leb, ltb}
use borrow.Author.Tests.{lt-ltb, le-ltb, ltb-true, ltb-false, leb-true, leb-false, le-leb, lt-leb}
use Rattle.rules.specs.declared.Vertices.{Vertices}
use Rattle.rules.specs.Folds.{choose}
use Rattle.rules.specs.Triangles.{Edge, edge1, edge2, edge3, sample, inside, inside_all}
use Rattle.rules.specs.Numbers.{vertices_in_range}
use Rattle.cover.specs.declared.Side.{Side}
use Rattle.cover.specs.declared.Three.{Three}
use Rattle.cover.specs.Units.{unit, raise}
use Rattle.cover.specs.Side.{SideOf, SidesOf, CrossingOf, CrossingsOf}
use Rattle.cover.specs.Spans.{begin, end, column, RowSpan}
use Rattle.masks.proofs.Columns.{span-beyond}
use Rattle.edges.proofs.Within.{EdgeWithin, edge_within, edges_in_range}
use Rattle.cover.proofs.Crossing.{crossing_inside}

-- of two crossings

chosen : (P : ℕ → Type 0) (u : Bool) (m n : ℕ) → (u ≡ true → P m) → (u ≡ false → P n) → P (choose u m n)
chosen P true m n f g = f refl
chosen P false m n f g = g refl

stronger : (p q : Bool) → (p ≡ true → q ≡ true) → p ≡ p && q
stronger true q h = sym (h refl)
stronger false q h = refl

-- of two numbers, the one whose test is the stronger
both : (P : ℕ → Bool) (u : Bool) (m n : ℕ) → (u ≡ true → P m ≡ true → P n ≡ true) → (u ≡ false → P n ≡ true → P m ≡ true)
    → P (choose u m n) ≡ P m && P n
both P u m n f g =
    chosen (λ (k : ℕ). P k ≡ P m && P n) u m n
    (λ t. stronger (P m) (P n) (f t))
    (λ t. stronger (P n) (P m) (g t) ∙ and_comm (P n) (P m))

module _ (x m : ℕ) where
  begin-at : (e : Bool) (l : ℕ) → leb raise (x + begin m e l) ≡ (e || leb raise (x + m)) && leb raise (x + l)
  begin-at true l = refl
  begin-at false l =
      both (λ (k : ℕ). leb raise (x + k)) (ltb m l) m l
      (λ t h. le-leb raise (x + l) (omega (arith, ltb-true m l t, leb-true raise (x + m) h)))
      (λ t h. le-leb raise (x + m) (omega (arith, ltb-false m l t, leb-true raise (x + l) h)))

  end-at : (e : Bool) (g : ℕ) → ltb (x + end m e g) raise ≡ (not e || ltb (x + m) raise) && ltb (x + g) raise
  end-at false g = refl
  end-at true g =
      both (λ (k : ℕ). ltb (x + k) raise) (ltb g m) m g
      (λ t h. lt-ltb (x + g) raise (omega (arith, ltb-true g m t, ltb-true (x + m) raise h)))
      (λ t h. lt-ltb (x + m) raise (omega (arith, ltb-false g m t, ltb-true (x + g) raise h)))

begin-le : (m : ℕ) (e : Bool) (l : ℕ) → begin m e l ≤ l
begin-le m true l = omega arith
begin-le m false l = chosen (λ (k : ℕ). k ≤ l) (ltb m l) m l (λ t. omega (arith, ltb-true m l t)) (λ t. omega arith)

end_ge : (m : ℕ) (e : Bool) (g : ℕ) → g ≤ end m e g
end_ge m false g = omega arith
end_ge m true g = chosen (λ (k : ℕ). g ≤ k) (ltb g m) m g (λ t. omega (arith, ltb-true g m t)) (λ t. omega arith)

-- of the three edges

abbrev pub least_of : Three ℕ → Three Side → ℕ
least_of m d = begin m.p d.p.ends (begin m.q d.q.ends (begin m.r d.r.ends raise))

abbrev pub most_of : Three ℕ → Three Side → ℕ → ℕ
most_of m d w = end m.p d.p.ends (end m.q d.q.ends (end m.r d.r.ends (raise - unit * w)))

pub least_le : (m : Three ℕ) (d : Three Side) → least_of m d ≤ raise
least_le m d =
    let c = begin m.r d.r.ends raise in
    let b = begin m.q d.q.ends c in
    omega (arith, begin-le m.r d.r.ends raise, begin-le m.q d.q.ends c, begin-le m.p d.p.ends b)

pub most_ge : (m : Three ℕ) (d : Three Side) (w : ℕ) → raise - unit * w ≤ most_of m d w
most_ge m d w =
    let c = end m.r d.r.ends (raise - unit * w) in
    let b = end m.q d.q.ends c in
    omega (arith, end_ge m.r d.r.ends (raise - unit * w), end_ge m.q d.q.ends c, end_ge m.p d.p.ends b)

-- an edge's inside, as what it asks of the beginning and what it asks of the end
asked : (e l g : Bool) → choose e g l ≡ (e || l) && (not e || g)
asked true l g = refl
asked false true g = refl
asked false false g = refl

edge_asks : (e : Edge) → EdgeWithin e → (d : Side) (y m : ℕ) → y ≤ 480 → SideOf e d → CrossingOf e y m → (x : ℕ) → x < 640
    → inside e (sample x y) ≡ (d.ends || leb raise (unit * x + m)) && (not d.ends || ltb (unit * x + m) raise)
edge_asks e v d y m n o h x l =
    crossing_inside e v y n m h x l
    ∙ ap (λ (b : Bool). choose b (ltb (unit * x + m) raise) (leb raise (unit * x + m))) (sym o.is_ends)
    ∙ asked d.ends (leb raise (unit * x + m)) (ltb (unit * x + m) raise)

sorted : (a₁ b₁ a₂ b₂ a₃ b₃ : Bool)
    → ((a₁ && b₁) && (a₂ && b₂)) && (a₃ && b₃) ≡ (a₁ && (a₂ && (a₃ && true))) && (b₁ && (b₂ && (b₃ && true)))
sorted false b₁ a₂ b₂ a₃ b₃ = refl
sorted true true false b₂ a₃ b₃ = refl
sorted true false false b₂ a₃ b₃ = refl
sorted true false true b₂ true b₃ = refl
sorted true false true b₂ false b₃ = refl
sorted true true true true false b₃ = refl
sorted true true true false false b₃ = refl
sorted true true true false true b₃ = refl
sorted true true true true true true = refl
sorted true true true true true false = refl

module _ (t : Vertices) (y : ℕ) (v : vertices_in_range t ≡ true) (i : y ≤ 480)
    (d : Three Side) (m : Three ℕ) (o : SidesOf t d) (h : CrossingsOf t y m) (w : ℕ) (k : w ≤ 640) where
  all_inside : (x : ℕ) → x < w → inside_all t (sample x y) ≡ leb raise (unit * x + least_of m d) && ltb (unit * x + most_of m d w) raise
  unfolding inside_all
  all_inside x l =
      let n : x < 640 = omega arith in
      let u = unit * x in
      let r = edges_in_range t v in
      let c = begin m.r d.r.ends raise in
      let f = end m.r d.r.ends (raise - unit * w) in
      let first : leb raise (unit * x + raise) ≡ true = le-leb raise (unit * x + raise) (omega arith) in
      let last : ltb (unit * x + (raise - unit * w)) raise ≡ true = lt-ltb (unit * x + (raise - unit * w)) raise (omega arith) in
      ap₂ ◌&&◌
      (ap₂ ◌&&◌
      (edge_asks (edge1 t) (edge_within (edge1 t) r.0) d.p y m.p i o.of1 h.of1 x n)
      (edge_asks (edge2 t) (edge_within (edge2 t) r.1) d.q y m.q i o.of2 h.of2 x n))
      (edge_asks (edge3 t) (edge_within (edge3 t) r.2) d.r y m.r i o.of3 h.of3 x n)
      ∙ sorted (d.p.ends || leb raise (unit * x + m.p)) (not d.p.ends || ltb (unit * x + m.p) raise)
      (d.q.ends || leb raise (unit * x + m.q)) (not d.q.ends || ltb (unit * x + m.q) raise)
      (d.r.ends || leb raise (unit * x + m.r)) (not d.r.ends || ltb (unit * x + m.r) raise)
      ∙ ap₂ ◌&&◌
      (sym
      (begin-at u m.p d.p.ends (begin m.q d.q.ends c)
      ∙ ap (λ (u : Bool). (d.p.ends || leb raise (unit * x + m.p)) && u)
      (begin-at u m.q d.q.ends c
      ∙ ap (λ (u : Bool). (d.q.ends || leb raise (unit * x + m.q)) && u)
      (begin-at u m.r d.r.ends raise ∙ ap (λ (u : Bool). (d.r.ends || leb raise (unit * x + m.r)) && u) first))))
      (sym
      (end-at u m.p d.p.ends (end m.q d.q.ends f)
      ∙ ap (λ (u : Bool). (not d.p.ends || ltb (unit * x + m.p) raise) && u)
      (end-at u m.q d.q.ends f
      ∙ ap (λ (u : Bool). (not d.q.ends || ltb (unit * x + m.q) raise) && u)
      (end-at u m.r d.r.ends (raise - unit * w) ∙ ap (λ (u : Bool). (not d.r.ends || ltb (unit * x + m.r) raise) && u) last))))

  -- no column is both from the beginning on and before the end
  pub span_none : least_of m d ≤ most_of m d w → RowSpan t y w (record { start = 0; end = 0 })
  span_none l =
      record {
        ordered = omega arith;
        limited = omega arith;
        spans = λ x h. all_inside x h ∙ go x (leb raise (unit * x + least_of m d)) refl ∙ sym (span-beyond 0 0 x (omega arith));
      }
    where
      go : (x : ℕ) (u : Bool) → leb raise (unit * x + least_of m d) ≡ u → u && ltb (unit * x + most_of m d w) raise ≡ false
      go x true e = le-ltb (unit * x + most_of m d w) raise (omega (arith, leb-true raise (unit * x + least_of m d) e))
      go x false e = refl

  pub span_some : most_of m d w < least_of m d → RowSpan t y w (record { start = column (least_of m d); end = column (most_of m d w) })
  span_some l =
      record {
        ordered = omega arith;
        limited = omega (arith, most_ge m d w);
        spans = λ x h.
            all_inside x h
            ∙ ap₂ ◌&&◌ (from x (leb raise (unit * x + least_of m d)) refl) (to x (ltb (unit * x + most_of m d w) raise) refl);
      }
    where
      from : (x : ℕ) (u : Bool) → leb raise (unit * x + least_of m d) ≡ u → u ≡ leb (column (least_of m d)) x
      from x true e = sym (le-leb (column (least_of m d)) x (omega (arith, leb-true raise (unit * x + least_of m d) e)))
      from x false e = sym (lt-leb (column (least_of m d)) x (omega (arith, least_le m d, leb-false raise (unit * x + least_of m d) e)))

      to : (x : ℕ) (u : Bool) → ltb (unit * x + most_of m d w) raise ≡ u → u ≡ ltb x (column (most_of m d w))
      to x true e = sym (lt-ltb x (column (most_of m d w)) (omega (arith, ltb-true (unit * x + most_of m d w) raise e)))
      to x false e = sym (le-ltb x (column (most_of m d w)) (omega (arith, ltb-false (unit * x + most_of m d w) raise e)))
