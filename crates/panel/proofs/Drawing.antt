-- Pixels drawn, with their count: nothing, the same pixels by another test, and two drawings that share no pixel, in turn. Then a column
-- as its bar, and the columns before one as those before the last and the last.
use Prim.Native.Nat.{ℕ, ◌+◌, ◌<◌}
use mathlib.Core.Path.{◌≡◌, refl, sym, ◌∙◌, ap, ap₂}
use mathlib.Core.Bool.{Bool, true, false, ◌&&◌, ◌||◌, true≢false}
use mathlib.Core.List.{List}
use native.Mathlib.Omega.{arith}
use native.Mathlib.Decide.{ℕ_discrete}
use lib.Dec.{ltb, eqb}
use lib.IntN.{ℤ}
use borrow.Author.Tests.{ltb-true, ltb-false, lt-ltb, le-ltb, eq-eqb, ne_eqb}
use Rattle.rules.specs.declared.Screen.{Screen}
use Rattle.rules.specs.Folds.{bit}
use Rattle.rules.specs.Sizes.{width, height, Pixel}
use Rattle.rules.proofs.Folds.{pixels-none, pixels_same}
use Rattle.order.proofs.Counts.{pixels-sum}
use Rattle.order.proofs.Pointwise.{painted-none, painted_same, painted_then}
use Rattle.waveform.specs.Panel.{Waveform, in_panel, fills, row_of, column_samples, panel_pixel}
use Rattle.waveform.specs.Bars.{bar, in_bar}
use Rattle.waveform.specs.Members.{Has}
use Rattle.waveform.proofs.Extremes.{Ends, fills-between, fills-none}
use Rattle.panel.specs.Columns.{PixelsDrawn, ColumnDrawn, PanelDrawn, in_column, in_columns_before}

module _ {s : Screen} {new : ℕ → ℕ → Pixel} where
  pub drawn_same : {picked also : ℕ → ℕ → Bool} {m after : List ℕ} {count : ℕ}
      → ((x y : ℕ) → x < width s.size → y < height s.size → picked x y ≡ also x y)
      → PixelsDrawn s picked new m count after
      → PixelsDrawn s also new m count after
  drawn_same {picked} {also} e d = record {
    paints = painted_same e d.paints;
    counts = d.counts ∙ pixels_same picked (width s.size) also (height s.size) e;
  }

  drawn_nothing : (m : List ℕ) → PixelsDrawn s (λ x y. false) new m 0 m
  drawn_nothing m = record {
    paints = painted-none s new m;
    counts = sym (pixels-none (λ x y. false) (width s.size) (height s.size) (λ x y h v. refl));
  }

  pub drawn-none : (picked : ℕ → ℕ → Bool) (m : List ℕ) → ((x y : ℕ) → picked x y ≡ false) → PixelsDrawn s picked new m 0 m
  drawn-none picked m e = drawn_same (λ x y h v. sym (e x y)) (drawn_nothing m)

  -- each pixel of the third test is one of the first or of the second, and of one alone
  pub drawn_then : {first second both : ℕ → ℕ → Bool} {m k after : List ℕ} {i j : ℕ}
      → ((x y : ℕ) → first x y || second x y ≡ both x y)
      → ((x y : ℕ) → bit (first x y) + bit (second x y) ≡ bit (both x y))
      → PixelsDrawn s first new m i k
      → PixelsDrawn s second new k j after
      → PixelsDrawn s both new m (i + j) after
  drawn_then {first} {second} {both} e b p q = record {
    paints = painted_same (λ x y h v. e x y) (painted_then p.paints q.paints);
    counts =
        ap₂ ◌+◌ p.counts q.counts
        ∙ pixels-sum first second both (width s.size) (height s.size) (λ x y h v. b x y);
  }

-- a column

module _ (w : Waveform) (s : Screen) (x : ℕ) where
  -- what is known of column x decides every pixel
  in_column_lem : (filled : ℕ → Bool) → ((y : ℕ) → fills (height s.size) (column_samples w x) y ≡ filled y)
      → (column y : ℕ) → in_column w s x column y ≡ eqb column x && filled y
  unfolding in_panel
  in_column_lem filled h column y = go (ℕ_discrete column x)
    where
      go : Dec (column ≡ x) → in_column w s x column y ≡ eqb column x && filled y
      go (yes e) = ap (λ b. eqb column x && b) (ap (λ k. fills (height s.size) (column_samples w k) y) e ∙ h y)
      go (no e) = ap (λ b. b && in_panel w s column y) (ne_eqb column x e) ∙ sym (ap (λ b. b && filled y) (ne_eqb column x e))

  pub column_is_bar : {high low : ℤ} → Ends (column_samples w x) high low → (column y : ℕ)
      → in_bar (bar x (row_of (height s.size) high) (row_of (height s.size) low) w.colour) column y ≡ in_column w s x column y
  column_is_bar e column y = sym (in_column_lem _ (fills-between (height s.size) (column_samples w x) e) column y)

  pub column_is_empty : ((u : ℤ) → Has u (column_samples w x) → ⊥) → (column y : ℕ) → in_column w s x column y ≡ false
  column_is_empty h column y =
      in_column_lem (λ y. false) (fills-none (height s.size) (column_samples w x) h) column y ∙ never (eqb column x)
    where
      never : (b : Bool) → b && false ≡ false
      never true = refl
      never false = refl

  -- the columns before x, then column x

  not_at : (column : ℕ) → ltb column x ≡ true → eqb column x ≡ false
  not_at column h = ne_eqb column x (λ e. omega (arith, ltb-true column x h))

  before_or_at : (column : ℕ) → ltb column (x + 1) ≡ ltb column x || eqb column x
  before_or_at column = go (ltb column x) refl (ℕ_discrete column x)
    where
      go : (a : Bool) → ltb column x ≡ a → Dec (column ≡ x) → ltb column (x + 1) ≡ a || eqb column x
      go true p e = lt-ltb column (x + 1) (omega (arith, ltb-true column x p))
      go false p (yes e) = lt-ltb column (x + 1) (omega arith) ∙ sym (eq-eqb column x e)
      go false p (no e) = le-ltb column (x + 1) (omega (arith, ltb-false column x p)) ∙ sym (ne_eqb column x e)

  one_more : (column y : ℕ) → in_columns_before w s x column y || in_column w s x column y ≡ in_columns_before w s (x + 1) column y
  one_more column y =
      apart (ltb column x) (eqb column x) (in_panel w s column y) ∙ ap (λ b. b && in_panel w s column y) (sym (before_or_at column))
    where
      apart : (a b c : Bool) → a && c || b && c ≡ (a || b) && c
      apart true true true = refl
      apart true true false = refl
      apart true false true = refl
      apart true false false = refl
      apart false b c = refl

  counted_once : (column y : ℕ)
      → bit (in_columns_before w s x column y) + bit (in_column w s x column y) ≡ bit (in_columns_before w s (x + 1) column y)
  counted_once column y =
      go (ltb column x) (eqb column x) (in_panel w s column y) (not_at column)
      ∙ ap (λ b. bit (b && in_panel w s column y)) (sym (before_or_at column))
    where
      go : (a b c : Bool) → (a ≡ true → b ≡ false) → bit (a && c) + bit (b && c) ≡ bit ((a || b) && c)
      go true true c h = absurd (true≢false (h refl))
      go true false true h = refl
      go true false false h = refl
      go false true true h = refl
      go false true false h = refl
      go false false c h = refl

  pub columns_more : {m k after : List ℕ} {i j : ℕ}
      → PixelsDrawn s (in_columns_before w s x) (panel_pixel w) m i k
      → ColumnDrawn s w x k j after
      → PixelsDrawn s (in_columns_before w s (x + 1)) (panel_pixel w) m (i + j) after
  columns_more = drawn_then one_more counted_once

-- none before column 0
pub columns_none : (w : Waveform) (s : Screen) (m : List ℕ) → PixelsDrawn s (in_columns_before w s 0) (panel_pixel w) m 0 m
columns_none w s m = drawn-none (in_columns_before w s 0) m (λ x y. ap (λ b. b && in_panel w s x y) (le-ltb x 0 (omega arith)))

-- all of them
pub columns_all : (w : Waveform) {s : Screen} {m after : List ℕ} {count x : ℕ}
    → x ≡ width s.size
    → PixelsDrawn s (in_columns_before w s x) (panel_pixel w) m count after
    → PanelDrawn s w m count after
columns_all w {s} {x = x} e =
    drawn_same (λ column y h v. ap (λ b. b && in_panel w s column y) (lt-ltb column x (omega (arith, h))))
