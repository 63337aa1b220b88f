-- A drawn triangle and a clear are what their pixel-by-pixel readings say, and nothing else is: the cells are known from the passes, and
-- two memories with equal cells and equal bytes elsewhere are equal.
use Prim.Native.Nat.{ℕ, ◌+◌, ◌<◌}
use mathlib.Core.Path.{◌≡◌, refl, sym, ◌∙◌, ap, subst}
use mathlib.Core.Logic.{◌≢◌, inl, inr}
use mathlib.Core.Bool.{Bool, true, false, ◌||◌}
use mathlib.Core.List.{List}
use lib.ListN.{length, get_or}
use Rattle.rules.specs.declared.Screen.{Screen}
use Rattle.rules.specs.declared.Triangle.{Triangle}
use Rattle.rules.specs.Folds.{choose}
use Rattle.ram.specs.Ram.{load_half}
use Rattle.rules.specs.Sizes.{width, height, sound, colour_at, depth_at, Pixel}
use Rattle.rules.specs.Triangles.{written, triangle_pixel, drawn}
use Rattle.rules.specs.Calls.{cleared}
use Rattle.ram.proofs.Halves.{joined, joined_split}
use Rattle.rules.proofs.Pixels.{On, ByteOf, Outside, sound_facts, Cell, cell, painted}
use Rattle.rules.proofs.Memory.{same_memory, on_rows}
use Rattle.rules.proofs.Drawing.{merged_cell, touched_drawn, touched_cleared}
use Rattle.order.specs.Pointwise.{Reads, Elsewhere, Painted}

pub outside : {s : Screen} {b : ℕ} → Elsewhere s b → Outside s b
outside e = record {
  no_colour = λ {x} {y} p. neither (e.no_colour x y p.across p.down);
  no_depth = λ {x} {y} p. neither (e.no_depth x y p.across p.down);
}
  where
    neither : {a b : ℕ} → (b ≢ a) × (b ≢ a + 1) → ¬ ByteOf a b
    neither n (inl q) = n.0 q
    neither n (inr q) = n.1 q

pub elsewhere : {s : Screen} {b : ℕ} → Outside s b → Elsewhere s b
elsewhere o = record {
  no_colour = λ x y h v. let n = o.no_colour (record { across = h; down = v }) in (λ q. n (inl q), λ q. n (inr q));
  no_depth = λ x y h v. let n = o.no_depth (record { across = h; down = v }) in (λ q. n (inl q), λ q. n (inr q));
}

-- four bytes as a cell
module _ (s : Screen) (m : List ℕ) (x y : ℕ) (c : Cell) where
  abbrev Shows : Type 0
  Shows =
      Reads m (colour_at s x y) c.colour.high c.colour.low
      × Reads m (depth_at s x y) c.depth.high c.depth.low

  shows : cell s m x y ≡ c → Shows
  shows e = (
    record { first = ap (λ z. z.colour.high) e; second = ap (λ z. z.colour.low) e },
    record { first = ap (λ z. z.depth.high) e; second = ap (λ z. z.depth.low) e },
  )

  shown : Shows → cell s m x y ≡ c
  shown r = λ i. record {
    colour = record { high = r.0.first i; low = r.0.second i };
    depth = record { high = r.1.first i; low = r.1.second i };
  }

module _ (s : Screen) (picked : ℕ → ℕ → Bool) (new : ℕ → ℕ → Pixel) (m : List ℕ) where
  abbrev then : ℕ → ℕ → Bool → Cell
  then x y b = choose b (painted (new x y).colour (new x y).depth) (cell s m x y)

  pub from_cells : (after : List ℕ) → length after ≡ length m
      → ((x y : ℕ) → On s x y → cell s after x y ≡ then x y (picked x y))
      → ((b : ℕ) → Outside s b → get_or after b 0 ≡ get_or m b 0)
      → Painted s picked new m after
  from_cells after l c o = record {
    same_length = l;
    painted = λ x y h v e. shows s after x y (then x y true) (c x y (record { across = h; down = v }) ∙ ap (then x y) e);
    stays = λ x y h v e. shows s after x y (then x y false) (c x y (record { across = h; down = v }) ∙ ap (then x y) e);
    elsewhere = λ b e. o b (outside e);
  }

  pub to_cells : {after : List ℕ}
      → Painted s picked new m after
      → (x y : ℕ)
      → On s x y
      → cell s after x y ≡ then x y (picked x y)
  to_cells {after} p x y q = go (picked x y) refl
    where
      go : (b : Bool) → picked x y ≡ b → cell s after x y ≡ then x y b
      go true e = shown s after x y (then x y true) (p.painted x y q.across q.down e)
      go false e = shown s after x y (then x y false) (p.stays x y q.across q.down e)

-- no other memory has the same reading
pub painted_unique : {s : Screen} {picked : ℕ → ℕ → Bool} {new : ℕ → ℕ → Pixel} {m k l : List ℕ}
    → Painted s picked new m k
    → Painted s picked new m l
    → k ≡ l
painted_unique {s} {picked} {new} {m} {k} {l} p q =
    same_memory s k l
    (p.same_length ∙ sym q.same_length)
    (λ x y o. to_cells s picked new m p x y o ∙ sym (to_cells s picked new m q x y o))
    (λ b o. p.elsewhere b (elsewhere o) ∙ sym (q.elsewhere b (elsewhere o)))

-- in half-words
module _
    {s : Screen}
    {picked : ℕ → ℕ → Bool}
    {new : ℕ → ℕ → Pixel}
    {m after : List ℕ}
    (p : Painted s picked new m after)
    (x y : ℕ)
    (a : x < width s.size)
    (b : y < height s.size)
  where
    on : On s x y
    on = record { across = a; down = b }

    pub painted-colour : load_half after (colour_at s x y) ≡ choose (picked x y) (new x y).colour (load_half m (colour_at s x y))
    unfolding load_half
    painted-colour = ap (λ c. joined c.colour) (to_cells s picked new m p x y on) ∙ go (picked x y)
      where
        go : (t : Bool) → joined (then s picked new m x y t).colour ≡ choose t (new x y).colour (load_half m (colour_at s x y))
        go true = joined_split (new x y).colour
        go false = refl

    pub painted-depth : load_half after (depth_at s x y) ≡ choose (picked x y) (new x y).depth (load_half m (depth_at s x y))
    unfolding load_half
    painted-depth = ap (λ c. joined c.depth) (to_cells s picked new m p x y on) ∙ go (picked x y)
      where
        go : (t : Bool) → joined (then s picked new m x y t).depth ≡ choose t (new x y).depth (load_half m (depth_at s x y))
        go true = joined_split (new x y).depth
        go false = refl

module _ (s : Screen) (m : List ℕ) (h : sound (length m) s ≡ true) where
  pub drawn_pointwise : (t : Triangle) → Painted s (written t s m) (triangle_pixel t) m (drawn t s m)
  drawn_pointwise t =
      let d = touched_drawn (sound_facts h) t m refl in
      from_cells s (written t s m) (triangle_pixel t) m (drawn t s m) d.same_length
      (λ x y p. d.changed p (on_rows p) ∙ merged_cell t s m x y)
      (λ b o. d.beyond o)

  pub cleared_pointwise : (p : Pixel) → Painted s (λ x y. true) (λ x y. p) m (cleared s p.colour p.depth m)
  cleared_pointwise p =
      let d = touched_cleared (sound_facts h) p.colour p.depth m refl in
      from_cells s (λ x y. true) (λ x y. p) m (cleared s p.colour p.depth m) d.same_length
      (λ x y p. d.changed p (on_rows p))
      (λ b o. d.beyond o)

  pub drawn_unique : (t : Triangle) (after : List ℕ)
      → Painted s (written t s m) (triangle_pixel t) m after
      → after ≡ drawn t s m
  drawn_unique t after p = painted_unique p (drawn_pointwise t)

  pub cleared_unique : (p : Pixel) (after : List ℕ)
      → Painted s (λ x y. true) (λ x y. p) m after
      → after ≡ cleared s p.colour p.depth m
  cleared_unique p after q = painted_unique q (cleared_pointwise p)

-- paintings with one brush, in turn

pub painted-none : (s : Screen) (new : ℕ → ℕ → Pixel) (m : List ℕ) → Painted s (λ x y. false) new m m
painted-none s new m = from_cells s (λ x y. false) new m m refl (λ x y o. refl) (λ b o. refl)

-- only the pixels of the screen count
pub painted_same : {s : Screen} {picked also : ℕ → ℕ → Bool} {new : ℕ → ℕ → Pixel} {m after : List ℕ}
    → ((x y : ℕ) → x < width s.size → y < height s.size → picked x y ≡ also x y)
    → Painted s picked new m after
    → Painted s also new m after
painted_same e p = record {
  same_length = p.same_length;
  painted = λ x y h v t. p.painted x y h v (e x y h v ∙ t);
  stays = λ x y h v t. p.stays x y h v (e x y h v ∙ t);
  elsewhere = p.elsewhere;
}

-- the same pixel, drawn by other words
pub painted_with : {s : Screen} {picked : ℕ → ℕ → Bool} {new other : ℕ → ℕ → Pixel} {m after : List ℕ}
    → ((x y : ℕ) → new x y ≡ other x y)
    → Painted s picked new m after
    → Painted s picked other m after
painted_with {s} {picked} {m = m} {after} e p = subst (λ n. Painted s picked n m after) (λ i x y. e x y i) p

pub painted_then : {s : Screen} {first second : ℕ → ℕ → Bool} {new : ℕ → ℕ → Pixel} {m k after : List ℕ}
    → Painted s first new m k
    → Painted s second new k after
    → Painted s (λ x y. first x y || second x y) new m after
painted_then {s} {first} {second} {new} {m} {k} {after} p q =
    from_cells s (λ x y. first x y || second x y) new m after
    (q.same_length ∙ p.same_length)
    (λ x y o.
    to_cells s second new k q x y o
    ∙ ap (choose (second x y) (painted (new x y).colour (new x y).depth)) (to_cells s first new m p x y o)
    ∙ twice (painted (new x y).colour (new x y).depth) (cell s m x y) (first x y) (second x y))
    (λ b o. q.elsewhere b (elsewhere o) ∙ p.elsewhere b (elsewhere o))
  where
    twice : (c d : Cell) (a b : Bool) → choose b c (choose a c d) ≡ choose (a || b) c d
    twice c d true true = refl
    twice c d true false = refl
    twice c d false b = refl
