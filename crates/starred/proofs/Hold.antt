-- The starred cases hold: the definitions are computed, and what they give is what 01 says, and of the pair 02, case by case.
use mathlib.Core.Path.{◌≡◌, refl}
use mathlib.Core.List.{map}
use Rattle.ints.specs.Modulo.{mod32}
use Rattle.rules.specs.Folds.{how_many, pixels}
use Rattle.rules.specs.Triangles.{sample, edge_value, keeps_zero, inside, inside_all, covered}
use Rattle.instructions.specs.Opcodes.{is_retired, no_instruction}
use Rattle.instructions.specs.Words.{with_register, sign_extended, address}
use Rattle.instructions.specs.Arithmetic.{rounded_product, reciprocal, immediate, shifted_signed, dot, value, result}
use Rattle.instructions.specs.Jumps.{next_place}
use Rattle.instructions.specs.Halts.{outside_data, move_outside_data, move_outside_ram, no_screen, no_tree, word_halt, halt_number}
use Rattle.instructions.specs.Step.{with_registers, with_place, with_flags, after_result, effect, performed, step}
use Rattle.instructions.specs.Run.{fresh_state}
use Rattle.starred.specs.Table.{starred}

pub starred_hold : map (λ c. c.gives) starred ≡ map (λ c. c.says) starred
unfolding starred pixels how_many covered inside_all inside keeps_zero edge_value sample fresh_state step performed effect after_result
    with_flags with_place with_registers halt_number word_halt is_retired no_instruction outside_data move_outside_data move_outside_ram no_screen no_tree
    next_place result value dot rounded_product reciprocal immediate shifted_signed address sign_extended with_register mod32
starred_hold = refl
