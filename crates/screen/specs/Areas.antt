-- A place in an area, as the code reckons it.
use Rattle.std.specs.Prelude.{ℕ, ◌+◌, ◌*◌}
use Rattle.rules.specs.Sizes.{width}

abbrev pub stands_at : ℕ → ℕ → ℕ → ℕ → ℕ
stands_at start size x y = start + (y * width size + x) * 2
