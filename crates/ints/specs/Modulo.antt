use Rattle.std.specs.Prelude.{ℕ, ◌-◌, ◌%◌, ℤ, pos, negsuc}

-- z modulo 2^32
unfoldable pub mod32 : ℤ → ℕ
mod32 (pos n) = n % 4294967296
mod32 (negsuc n) = 4294967295 - n % 4294967296
