-- The halts of READ and WRITE, from the addresses in r1 and r2.
use Rattle.std.specs.Prelude.{ℕ, ◌+◌, ◌%◌, ◌||◌, not, ltb, eqb}
use Rattle.rules.specs.Folds.{choose}

abbrev pub move_halt : ℕ → ℕ → ℕ → ℕ
move_halt ram_length word byte =
    choose (ltb 1008 word) 15 (choose (not (eqb (byte % 4) 0) || ltb ram_length (byte + 64)) 16 0)
