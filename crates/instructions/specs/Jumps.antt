-- docs/RULES.md, 9.1 and 9.4 (01, "Machine words"): the jumps, and where a step goes.
use Rattle.std.specs.Prelude.{ℕ, ◌+◌, Bool, true, ◌&&◌, ◌||◌, not, leb, eqb}
use Rattle.rules.specs.Folds.{choose}
use Rattle.instructions.specs.declared.State.{State}
use Rattle.instructions.specs.Opcodes.{JMP, JEQ, JEQL, JNE, JNEL, JLT, JLTL, JLE, JLEL, JGT, JGTL, JGE, JGEL}
use Rattle.instructions.specs.Words.{opcode, address}

-- JMP and CALL, and what stands between them and DOT
abbrev pub is_jump : ℕ → Bool
is_jump op = leb JMP op && leb op JGEL

-- "JLT reads negative; JLE negative or zero; JGT neither; JGE not negative; JEQ zero; JNE not zero", and "a 'likely' form means the
-- same as the plain one (house)"; JMP and CALL always go
unfoldable pub goes : ℕ → Bool → Bool → Bool
goes op negative zero =
    choose (eqb op JEQ || eqb op JEQL) zero
    (choose (eqb op JNE || eqb op JNEL) (not zero)
    (choose (eqb op JLT || eqb op JLTL) negative
    (choose (eqb op JLE || eqb op JLEL) (negative || zero)
    (choose (eqb op JGT || eqb op JGTL) (not negative && not zero)
    (choose (eqb op JGE || eqb op JGEL) (not negative)
    true)))))

abbrev pub following : State → ℕ
following s = s.place + 1

-- "A jump goes to address, any other step to the next place; there is no delay slot"
unfoldable pub next_place : State → ℕ → ℕ
next_place s w =
    choose (is_jump (opcode w) && goes (opcode w) s.negative s.zero) (address s.regs w) (following s)
