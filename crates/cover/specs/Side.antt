-- What a side and a crossing hold. The value of an edge, less 1 where its zeros are outside, is taken with the sign that makes it rise
-- along a row. An edge crosses a row at one column, where its inside begins or ends: its value, divided by what a column adds, says
-- which. A level edge crosses no row: 640 times its value, with 1 added at each column, keeps its sign in every column of a screen.
use Rattle.std.specs.Prelude.{ℕ, ◌+◌, ◌*◌, ◌≤◌, ◌<◌, ◌≡◌, ℤ, pos, negsuc, nat_abs, ◌-ℤ◌, ◌*ℤ◌}
use Rattle.rules.specs.declared.Vertices.{Vertices}
use Rattle.rules.specs.Folds.{choose}
use Rattle.rules.specs.Triangles.{Edge, dx, dy, edge1, edge2, edge3, edge_value, sample, keeps_zero, positive, is_zero}
use Rattle.cover.specs.declared.Side.{Side}
use Rattle.cover.specs.declared.Three.{Three}
use Rattle.cover.specs.Units.{unit, raise, lift, Rounded}

-- what an edge's value loses where its zeros are outside
abbrev pub loss : ℤ → ℤ → ℤ
loss dx dy = choose (keeps_zero dx dy) (pos 0) (pos 1)

-- an edge's value v, lowered so that a pixel is inside where it is not negative
unfoldable pub lowered : ℤ → ℤ → ℤ → ℤ
lowered v dx dy = v -ℤ loss dx dy

-- where it falls to the right it is taken with the other sign: then it is not negative outside
abbrev pub rising_value : ℤ → ℤ → ℤ → ℤ
rising_value v dx dy = choose (positive dy) (negsuc 0 -ℤ lowered v dx dy) (lowered v dx dy)

-- both, of an edge at pixel (x, y)
abbrev pub sided : Edge → ℕ → ℕ → ℤ
sided e x y = lowered (edge_value e (sample x y)) (dx e) (dy e)

abbrev pub rising : Edge → ℕ → ℕ → ℤ
rising e x y = rising_value (edge_value e (sample x y)) (dx e) (dy e)

-- what a column adds, and how many times the value is taken: a level edge's 640 times, so that a column may add 1
abbrev pub across : ℤ → ℕ
across dy = choose (is_zero dy) 1 (8 * nat_abs dy)

abbrev pub times : ℤ → ℕ
times dy = choose (is_zero dy) 640 1

-- how many times, in ticks of a column
abbrev pub scale : ℤ → ℤ
scale dy = pos (unit * times dy)

-- what a row adds to the rising value
abbrev pub down : ℤ → ℤ → ℤ
down dx dy = choose (positive dy) (pos 0 -ℤ pos 8 *ℤ dx) (pos 8 *ℤ dx)

pub record SideOf (e : Edge) (d : Side) : Type 0 where
  pub is_down : Rounded (scale (dy e) *ℤ down (dx e) (dy e)) (across (dy e)) lift 1 d.down
  pub is_ends : d.ends ≡ positive (dy e)

pub record SidesOf (v : Vertices) (d : Three Side) : Type 0 where
  pub of1 : SideOf (edge1 v) d.p
  pub of2 : SideOf (edge2 v) d.q
  pub of3 : SideOf (edge3 v) d.r

-- how far before column 0 the edge crosses row y; a rounding for each row so far
abbrev pub CrossingOf : Edge → ℕ → ℕ → Type 0
CrossingOf e y m = Rounded (scale (dy e) *ℤ rising e 0 y) (across (dy e)) raise (y + 1) m

pub record CrossingsOf (v : Vertices) (y : ℕ) (m : Three ℕ) : Type 0 where
  pub of1 : CrossingOf (edge1 v) y m.p
  pub of2 : CrossingOf (edge2 v) y m.q
  pub of3 : CrossingOf (edge3 v) y m.r

-- a crossing that can be taken a row down, within 64 bits and not negative
pub record Addable (m down : ℕ) : Type 0 where
  pub low : lift ≤ m + down
  pub high : m + down < 18446744073709551616

pub record CanGoBelow (m : Three ℕ) (d : Three Side) : Type 0 where
  pub first : Addable m.p d.p.down
  pub second : Addable m.q d.q.down
  pub third : Addable m.r d.r.down
