-- Laws of spans of columns: what lies in a span, before it and beyond it.
use Prim.Native.Nat.{ℕ, ◌≤◌, ◌<◌}
use mathlib.Core.Path.{◌≡◌, ◌∙◌, ap}
use mathlib.Core.Bool.{Bool, true, false, ◌&&◌, and-false}
use lib.Dec.{ltb, leb}
use borrow.Author.Tests.{lt-ltb, le-ltb, le-leb, lt-leb}
use Rattle.masks.specs.Span.{in_span}

module _ (from to x : ℕ) where
  pub span_within : from ≤ x → x < to → in_span from to x ≡ true
  span_within h l = rw (le-leb from x h, lt-ltb x to l)

  pub span-before : x < from → in_span from to x ≡ false
  span-before h = ap (λ (u : Bool). u && ltb x to) (lt-leb from x h)

  pub span-beyond : to ≤ x → in_span from to x ≡ false
  span-beyond h = ap (λ (u : Bool). leb from x && u) (le-ltb x to h) ∙ and-false (leb from x)
