-- A column has exactly the samples that it takes and that exist.
use Prim.Native.Nat.{ℕ, zero, suc, ◌+◌, ◌<◌}
use mathlib.Core.Path.{◌≡◌, refl, sym, ◌∙◌, ap, subst}
use mathlib.Core.Logic.{◌↔◌, ◌⊎◌, inl, inr}
use mathlib.Core.Bool.{Bool, true, false}
use mathlib.Core.List.{List, [], ◌∷◌}
use native.Mathlib.Nat.{add-zero, add-suc, suc-add, zero-add}
use native.Mathlib.Omega.{arith}
use lib.ListN.{length, get_or}
use lib.IntN.{ℤ, pos}
use Rattle.rules.specs.Folds.{choose}
use Rattle.waveform.specs.Panel.{Waveform, takes, taken_from, column_samples}
use Rattle.waveform.specs.Members.{Has, here, there, Sample}

pub first_or_later : {t v : ℤ} {l : List ℤ} → Has t (v ∷ l) → (t ≡ v) ⊎ Has t l
first_or_later here = inl refl
first_or_later (there m) = inr m

pub has_some : {t : ℤ} {l : List ℤ} → Has t l → 0 < length l
has_some here = omega arith
has_some (there m) = omega arith

module _ (n d : ℤ) (x : ℕ) where
  -- of a list that begins with sample i
  abbrev Taken : ℕ → List ℤ → ℤ → Type 0
  Taken i r u = (j : ℕ) × (j < length r) × (takes n d x (i + j) ≡ true) × (get_or r j (pos 0) ≡ u)

  later : (i : ℕ) (v u : ℤ) (r : List ℤ) → Taken (suc i) r u → Taken i (v ∷ r) u
  later i v u r (j, l, t, e) = (suc j, omega arith, ap (takes n d x) (add-suc i j ∙ sym (suc-add i j)) ∙ t, e)

  has_taken : (i : ℕ) (r : List ℤ) (u : ℤ) → Has u (taken_from n d x i r) → Taken i r u
  unfolding taken_from
  has_taken i [] u h = absurd (omega (arith, has_some h))
  has_taken i (v ∷ r) u h = go (takes n d x i) refl h (has_taken (suc i) r u)
    where
      rest : List ℤ
      rest = taken_from n d x (suc i) r

      first : takes n d x i ≡ true → (u ≡ v) ⊎ Has u rest → (Has u rest → Taken (suc i) r u) → Taken i (v ∷ r) u
      first e (inl q) k = (0, omega arith, ap (takes n d x) (add-zero i) ∙ e, sym q)
      first e (inr m) k = later i v u r (k m)

      go : (b : Bool) → takes n d x i ≡ b → Has u (choose b (v ∷ rest) rest) → (Has u rest → Taken (suc i) r u) → Taken i (v ∷ r) u
      go true e m k = first e (first_or_later m) k
      go false e m k = later i v u r (k m)

  taken_has : (i : ℕ) (r : List ℤ) (j : ℕ) → j < length r → takes n d x (i + j) ≡ true → Has (get_or r j (pos 0)) (taken_from n d x i r)
  unfolding taken_from
  taken_has i [] j l t = absurd (omega arith)
  taken_has i (v ∷ r) zero l t =
      subst (λ (b : Bool). Has v (choose b (v ∷ taken_from n d x (suc i) r) (taken_from n d x (suc i) r)))
      (sym (ap (takes n d x) (sym (add-zero i)) ∙ t)) here
  taken_has i (v ∷ r) (suc j) l t =
      go (takes n d x i) (taken_has (suc i) r j (omega arith) (ap (takes n d x) (suc-add i j ∙ sym (add-suc i j)) ∙ t))
    where
      go : (b : Bool) → Has (get_or r j (pos 0)) (taken_from n d x (suc i) r)
          → Has (get_or r j (pos 0)) (choose b (v ∷ taken_from n d x (suc i) r) (taken_from n d x (suc i) r))
      go true k = there k
      go false k = k

-- for every offset, also a negative one
pub column_has : (w : Waveform) (x : ℕ) (u : ℤ) → Has u (column_samples w x) ↔ Sample w x u
column_has w x u = (
  λ h. let (j, l, t, e) = has_taken w.n w.d x 0 w.samples u h in
      record { at = j; exists = l; taken = ap (takes w.n w.d x) (sym (zero-add j)) ∙ t; is = e },
  λ s. subst (λ v. Has v (column_samples w x)) s.is
      (taken_has w.n w.d x 0 w.samples s.at s.exists (ap (takes w.n w.d x) (zero-add s.at) ∙ s.taken)),
)
