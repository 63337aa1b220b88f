-- Editions: a word whose opcode is retired halts with 11, and editions that agree on the opcodes of a program's words run it alike, since
-- all that a step asks of its edition is whether the opcode of the word at its place is retired.
use Prim.Native.Nat.{ℕ, zero, suc, ◌+◌, ◌<◌}
use mathlib.Core.Path.{◌≡◌, refl, ◌∙◌, ap, ap₂}
use mathlib.Core.Bool.{Bool, true, false, ◌||◌, not}
use mathlib.Core.List.{List, [], ◌∷◌}
use native.Mathlib.Omega.{arith}
use lib.ListN.{length, get_or}
use lib.Dec.{ltb, eqb}
use borrow.Author.Tests.{ltb-true, lt-ltb, eq-eqb}
use Rattle.rules.specs.Folds.{bit, choose}
use Rattle.instructions.specs.declared.State.{State}
use Rattle.instructions.specs.Opcodes.{TREEPUT, Edition, is_retired, no_instruction}
use Rattle.instructions.specs.Words.{opcode}
use Rattle.instructions.specs.Halts.{word_at, word_halt, halt_number}
use Rattle.instructions.specs.Step.{Machine, with_state, with_halt, is_halted, next_halt, step}
use Rattle.instructions.specs.Run.{run, is_counted, steps}
use Rattle.instructions.proofs.Run.{step_halting}

-- the opcodes that an edition lists are retired in it
pub listed_retired : (edition : Edition) (i : ℕ) → i < length edition → is_retired edition (get_or edition i 0) ≡ true
unfolding is_retired
listed_retired [] i h = absurd (omega arith)
listed_retired (old ∷ others) zero h = rw (eq-eqb old old refl)
listed_retired (old ∷ others) (suc i) h = go (eqb (get_or others i 0) old) (listed_retired others i (omega arith))
  where
    go : (a : Bool) {b : Bool} → b ≡ true → (a || b) ≡ true
    go true h = refl
    go false h = h

-- a retired opcode is no instruction: at a place within the program it is halt 11
retired_none : (edition : Edition) (op : ℕ) → is_retired edition op ≡ true → no_instruction edition op ≡ true
unfolding no_instruction
retired_none edition op h = ap (λ b. b || ltb TREEPUT op) h

module _ (edition : Edition) (program : List ℕ) (m : Machine) (within : m.state.place < length program)
    (retired : is_retired edition (opcode (word_at program m.state)) ≡ true)
  where
    pub retired_halts : next_halt edition program m ≡ 11
    unfolding halt_number word_halt
    retired_halts = rw (lt-ltb m.state.place (length program) within, retired_none edition (opcode (word_at program m.state)) retired)

    pub retired_stops : is_halted m ≡ false → step edition program m ≡ with_state (with_halt 11 m.state) m
    retired_stops h =
        step_halting edition program m h (rw retired_halts) ∙ ap (λ n. with_state (with_halt n m.state) m) retired_halts

-- editions that agree on an opcode, and on the words of a program
none_alike : (e f : Edition) (op : ℕ) → is_retired e op ≡ is_retired f op → no_instruction e op ≡ no_instruction f op
unfolding no_instruction
none_alike e f op h = ap (λ b. b || ltb TREEPUT op) h

module _ (e f : Edition) (program : List ℕ)
    (agree : (i : ℕ) → i < length program → is_retired e (opcode (get_or program i 0)) ≡ is_retired f (opcode (get_or program i 0)))
  where
    halt_alike : (ram_length : ℕ) (s : State) → halt_number e program ram_length s ≡ halt_number f program ram_length s
    unfolding halt_number word_halt
    halt_alike ram_length s = go (ltb s.place (length program)) refl
      where
        go : (b : Bool)
            → ltb s.place (length program) ≡ b
            → choose (not b) 12 (word_halt e ram_length s (word_at program s)) ≡ choose (not b) 12 (word_halt f ram_length s (word_at program s))
        go true h = rw (none_alike e f (opcode (word_at program s)) (agree s.place (ltb-true s.place (length program) h)))
        go false h = refl

    next_alike : (m : Machine) → step e program m ≡ step f program m
    unfolding step
    next_alike m = rw (halt_alike (length m.ram) m.state)

    counted_alike : (m : Machine) → is_counted e program m ≡ is_counted f program m
    unfolding is_counted
    counted_alike m = rw (halt_alike (length m.ram) m.state)

    pub edition_alike : (n : ℕ) (m : Machine)
        → (run e program n m ≡ run f program n m) × (steps e program n m ≡ steps f program n m)
    unfolding run steps
    edition_alike zero m = (refl, refl)
    edition_alike (suc n) m =
        let (same, counted) = edition_alike n (step f program m) in (
          ap (run e program n) (next_alike m) ∙ same,
          ap₂ (λ b k. bit b + k) (counted_alike m) (ap (steps e program n) (next_alike m) ∙ counted),
        )
