-- Spans of columns.
use Rattle.std.specs.Prelude.{ℕ, Bool, ◌&&◌, ltb, leb}

-- columns from `from` up to but not including `to`
abbrev pub in_span : ℕ → ℕ → ℕ → Bool
in_span from to x = leb from x && ltb x to
