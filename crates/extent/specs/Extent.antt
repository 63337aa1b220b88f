-- Rows or columns whose sample points lie before or beyond three vertex numbers, in eighths of a pixel.
use Rattle.std.specs.Prelude.{ℕ, ◌+◌, ◌*◌, ℤ, pos, ◌<ℤ◌}
use Rattle.rules.specs.Triangles.{sample_offset}

pub record Before (a b c : ℤ) (k : ℕ) : Type 0 where
  pub first : pos (8 * k + sample_offset) <ℤ a
  pub second : pos (8 * k + sample_offset) <ℤ b
  pub third : pos (8 * k + sample_offset) <ℤ c

pub record Beyond (a b c : ℤ) (k : ℕ) : Type 0 where
  pub first : a <ℤ pos (8 * k + sample_offset)
  pub second : b <ℤ pos (8 * k + sample_offset)
  pub third : c <ℤ pos (8 * k + sample_offset)
