-- The worked cases hold: the definitions are computed, and what they give is what was worked out from 01 and 02, case by case.
use mathlib.Core.Path.{◌≡◌, refl}
use mathlib.Core.List.{map}
use Rattle.ints.specs.Modulo.{mod32}
use Rattle.rules.specs.Folds.{upto, how_many, pixels}
use Rattle.ram.specs.Ram.{load_half, store_half}
use Rattle.rules.specs.Sizes.{sound, sound_areas, colour_at, depth_at, put_pixel}
use Rattle.rules.specs.Triangles.{plane_at, top_half, packed, triangle_depth, triangle_colour, sample, edge_value, keeps_zero, inside}
use Rattle.rules.specs.Triangles.{inside_all, covered, written, pixel_drawn, row_drawn, drawn}
use Rattle.rules.specs.Numbers.{vertices_in_range, edge_too_large, triangle_too_large, row_number, triangle_number}
use Rattle.rules.specs.Calls.{cleared, part_start, row_length}
use Rattle.instructions.specs.Opcodes.{is_retired, no_instruction}
use Rattle.instructions.specs.Words.{with_register, sign_extended, address}
use Rattle.instructions.specs.Arithmetic.{rounded_product, reciprocal, immediate, shifted_left, shifted_right, shifted_signed}
use Rattle.instructions.specs.Arithmetic.{dot, value, result}
use Rattle.instructions.specs.Jumps.{goes, next_place}
use Rattle.ram.specs.Ram.{load_word, store_word}
use Rattle.instructions.specs.Moves.{word_read, words_read, word_written, words_written}
use Rattle.instructions.specs.Tree.{each, refuses_place, mask_bit, tree_set, leaf_value, marked, tree_in, deepened, tree_depth, replaced}
use Rattle.instructions.specs.Tree.{tree_colour, tree_val, leaf_put, tree_put}
use Rattle.instructions.specs.Halts.{outside_data, move_outside_data, move_outside_ram, no_screen, no_tree, word_halt, halt_number}
use Rattle.instructions.specs.Step.{with_registers, with_place, with_flags, with_halt, with_screen, with_tree, after_result, after_st, after_call}
use Rattle.instructions.specs.Step.{after_read, after_write, after_scrset, after_cls, after_treeset, grown, after_treein, after_treeval}
use Rattle.instructions.specs.Step.{after_treeput, effect, performed, step}
use Rattle.instructions.specs.Run.{run, is_counted, steps, fresh_state}
use Rattle.starred.specs.WorkedDrawing.{worked_drawings}
use Rattle.starred.specs.WorkedMachine.{worked_runs}

pub worked-hold :
    (map (λ c. c.gives) worked_drawings ≡ map (λ c. c.says) worked_drawings)
    × (map (λ c. c.gives) worked_runs ≡ map (λ c. c.says) worked_runs)
unfolding worked_drawings worked_runs mod32 upto how_many pixels sound sound_areas colour_at depth_at load_half store_half put_pixel plane_at top_half
    packed triangle_depth triangle_colour sample edge_value keeps_zero inside inside_all covered written pixel_drawn row_drawn drawn
    vertices_in_range edge_too_large triangle_too_large row_number triangle_number cleared part_start row_length with_register sign_extended address
    rounded_product reciprocal immediate shifted_left shifted_right shifted_signed dot value result goes next_place load_word
    store_word
    word_read words_read word_written words_written each refuses_place mask_bit tree_set leaf_value marked tree_in deepened tree_depth replaced
    tree_colour tree_val leaf_put tree_put outside_data move_outside_data move_outside_ram no_screen no_tree is_retired no_instruction word_halt
    halt_number with_registers
    with_place with_flags with_halt with_screen with_tree after_result after_st after_call after_read after_write after_scrset after_cls
    after_treeset grown after_treein after_treeval after_treeput effect performed step run is_counted steps fresh_state
worked-hold = (refl, refl)
