-- The words that a run comes to and carries out.
use Rattle.std.specs.Prelude.{ℕ, ◌<◌, ◌≡◌, ◌≢◌, true, List, length}
use Rattle.instructions.specs.Opcodes.{Edition, READ, WRITE, SCRSET}
use Rattle.instructions.specs.Words.{opcode}
use Rattle.instructions.specs.Halts.{word_at}
use Rattle.instructions.specs.Step.{Machine}
use Rattle.instructions.specs.Run.{run, is_counted}

-- P holds of every word that a run of n steps carries out
abbrev pub CarriesOut : (ℕ → Type 0) → Edition → List ℕ → ℕ → Machine → Type 0
CarriesOut P edition program n m =
    (i : ℕ) → i < n → is_counted edition program (run edition program i m) ≡ true → P (word_at program (run edition program i m).state)

-- neither WRITE, which alone writes anywhere in the RAM, nor SCRSET, which alone changes the screen; CLS and the four TREE
-- instructions are such words
abbrev pub KeepsToScreen : ℕ → Type 0
KeepsToScreen w = (opcode w ≢ WRITE) × (opcode w ≢ SCRSET)

-- P holds of every word that a run of n steps comes to, whether it is carried out or halts
abbrev pub ComesTo : (ℕ → Type 0) → Edition → List ℕ → ℕ → Machine → Type 0
ComesTo P edition program n m =
    (i : ℕ) → i < n → (run edition program i m).state.place < length program → P (word_at program (run edition program i m).state)

-- it reads nothing of the RAM but pixels, nor whether a screen fits there: neither READ, WRITE nor SCRSET
abbrev pub KeepsToPixels : ℕ → Type 0
KeepsToPixels w = (opcode w ≢ READ) × (opcode w ≢ WRITE) × (opcode w ≢ SCRSET)
