-- The tests are the definition's. Where there is no screen, what is left of them is whether there is a tree.
use mathlib.Core.Path.{◌≡◌, refl, sym, ◌∙◌, ap₂}
use mathlib.Core.Bool.{Bool, true, false, ◌&&◌, ◌||◌, not, false≢true, true≢false}
use lib.Dec.{eqb}
use Rattle.instructions.specs.Words.{register}
use Rattle.instructions.specs.Run.{ill_formed}
use Rattle.states.proofs.ill_formed.Goals as goal

-- the definition's tests: of R0 (w), of the halt number (h); with a screen (s) an unsound one (u); with a tree (p) no screen or a refused
-- place (r)
abbrev judged : Bool → Bool → Bool → Bool → Bool → Bool → Bool
judged w h s u p r = w || not h || s && u || p && not s || p && r

none_shown : (w h s u p r : Bool) → h ≡ true → s ≡ false → w || p ≡ judged w h s u p r
none_shown w false s u p r known none = absurd (false≢true known)
none_shown w true true u p r known none = absurd (true≢false none)
none_shown true true false u p r known none = refl
none_shown false true false u true r known none = refl
none_shown false true false u false r known none = refl

one_shown : (w h s u p r : Bool) → h ≡ true → s ≡ true → w || u || p && r ≡ judged w h s u p r
one_shown w false s u p r known one = absurd (false≢true known)
one_shown w true false u p r known one = absurd (false≢true one)
one_shown true true true u p r known one = refl
one_shown false true true true p r known one = refl
one_shown false true true false true r known one = refl
one_shown false true true false false r known one = refl

pub returns-then-not-state : goal.returns-then-not-state
unfolding ill_formed
returns-then-not-state c = none_shown _ _ _ _ _ _ (sym c.is_halt_number.ensures ∙ c.if-not-is_halt_number.false) c.if-not-state.true

pub returns : goal.returns
unfolding ill_formed
returns c =
    let s = c.args.state.now in
    ap₂ (λ (t r : Bool). not (eqb (register s.regs 0) 0) || not t || s.planted && r) c.sound-unsound.ensures c.refuses_place.ensures
    ∙ one_shown _ _ _ _ _ _ (sym c.is_halt_number.ensures ∙ c.if-not-is_halt_number.false) c.if-not-state.false
