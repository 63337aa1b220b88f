-- "a 'likely' form means the same as the plain one (house)": its opcode is the next one.
use Rattle.std.specs.Prelude.{ℕ, ◌+◌, Bool, ◌||◌, eqb}

abbrev pub is_plain_or_likely : ℕ → ℕ → Bool
is_plain_or_likely k op = eqb op k || eqb op (k + 1)
