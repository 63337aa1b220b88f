-- What this crate's contracts speak of: a row as a triangle is drawn in it, and the memory with what was counted so far.
use Rattle.std.specs.Prelude.{ℕ, Bool, List}
use Rattle.rules.specs.declared.Counts.{Counts}
use Rattle.rules.specs.declared.Screen.{Screen}
use Rattle.rules.specs.declared.Triangle.{Triangle}
use Rattle.rules.specs.Triangles.{covered, written, pixel_drawn}
use Rattle.rows.specs.declared.Line.{Line}

abbrev pub line : Screen → Triangle → ℕ → Line
line s t y = record { screen = s; triangle = t; row = y }

-- a row's pixel in column x: whether it is covered, whether it is written over memory m, and m after it is drawn
abbrev pub covered_in : Line → ℕ → Bool
covered_in l x = covered l.triangle l.screen x l.row

abbrev pub written_in : Line → List ℕ → ℕ → Bool
written_in l m x = written l.triangle l.screen m x l.row

abbrev pub drawn_in : Line → ℕ → List ℕ → List ℕ
drawn_in l x m = pixel_drawn l.triangle l.screen l.row x m

-- a memory, and how many pixels were covered and written so far
pub record Drawing : Type 0 where
  pub ram : List ℕ
  pub counts : Counts

abbrev pub drawing : List ℕ → Counts → Drawing
drawing ram counts = record { ram = ram; counts = counts }

-- a memory, and how many pixels were written so far
pub record Writing : Type 0 where
  pub ram : List ℕ
  pub count : ℕ

abbrev pub writing : List ℕ → ℕ → Writing
writing ram count = record { ram = ram; count = count }

abbrev pub writing_of : Drawing → Writing
writing_of d = writing d.ram d.counts.written
