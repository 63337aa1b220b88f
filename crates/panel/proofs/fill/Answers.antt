-- The two triangles are the bar's, by their promises, so the two calls draw it.
use Prim.Native.Nat.{ℕ, ◌+◌}
use mathlib.Core.Path.{◌≡◌, subst₂}
use mathlib.Core.List.{List}
use native.Mathlib.Omega.{arith}
use lib.ListN.{length}
use Rattle.std.specs.Prelude.{Result, Ok}
use Rattle.rules.specs.declared.Counts.{Counts}
use Rattle.rules.specs.declared.Refusal.{Refusal}
use Rattle.rules.specs.declared.Screen.{Screen}
use Rattle.rules.specs.declared.Triangle.{Triangle}
use Rattle.rules.specs.Answers.{drawn_of}
use Rattle.rules.specs.Folds.{pixels}
use Rattle.rules.specs.Sizes.{width, height}
use Rattle.rules.specs.Calls.{Draws}
use Rattle.waveform.specs.Bars.{in_bar}
use Rattle.waveform.proofs.Counts.{pixels_fit}
use Rattle.waveform.proofs.Bars.{bar-paints, bar-counts}
use Rattle.panel.specs.Columns.{bar_of}
use Rattle.panel.proofs.Answers.{upper_ok, lower_ok, fits_after}
use Rattle.panel.proofs.fill.Goals as goal

-- a call that draws a half, as the callee makes the half, draws the bar's
half_drawn : {m k : List ℕ} {s : Screen} {t u : Triangle} {r : Result Counts Refusal} {c : Counts}
    → t ≡ u
    → r ≡ Ok c
    → Draws m s t (drawn_of r) k
    → Draws m s u (drawn_of (Ok c)) k
half_drawn {m} {k} {s} = subst₂ (λ (t : Triangle) (r : Result Counts Refusal). Draws m s t (drawn_of r) k)

pub unwrap-one-requires : goal.unwrap-one-requires
unwrap-one-requires c = upper_ok _ c.requires c.upper.ensures c.draw.ensures

pub unwrap-other-requires : goal.unwrap-other-requires
unwrap-other-requires c = lower_ok _ (fits_after c.requires c.draw.ensures) c.lower.ensures c.draw-2.ensures

pub overflow_add-result : goal.overflow_add-result
overflow_add-result c =
    let a = c.args in
    let counts : c.unwrap-one.result.covered + c.unwrap-other.result.covered ≡ pixels (in_bar (bar_of a.b)) (width a.s.size) (height a.s.size) =
    bar-counts c.requires
    (half_drawn c.upper.ensures c.unwrap-one.ensures c.draw.ensures)
    (half_drawn c.lower.ensures c.unwrap-other.ensures c.draw-2.ensures) in
    record { fits = omega (arith, counts, pixels_fit (length a.ram.now) a.s (in_bar (bar_of a.b)) c.requires.screen) }

pub returns : goal.returns
returns c =
    let one = half_drawn c.upper.ensures c.unwrap-one.ensures c.draw.ensures in
    let other = half_drawn c.lower.ensures c.unwrap-other.ensures c.draw-2.ensures in
    record { paints = bar-paints c.requires one other; counts = bar-counts c.requires one other }
