-- The last of a list, in an order, is in it and every number of it comes before, and only one number is so: one law for the largest and
-- the smallest. So two samples of a column that none of its samples passes, either way, are its largest and its smallest.
use Prim.Native.Nat.{ℕ}
use mathlib.Core.Path.{◌≡◌, refl, subst, sym, ap₂}
use mathlib.Core.Logic.{◌⊎◌, inl, inr}
use mathlib.Core.Bool.{Bool, true, false, ◌&&◌}
use mathlib.Core.List.{List, [], ◌∷◌}
use native.Mathlib.Omega.{arith}
use lib.Dec.{leb}
use lib.IntN.{ℤ}
use lib.Signed.{le_z, ◌≤ℤ◌, ≤ℤ_refl}
use Rattle.ints.proofs.Order.{le_z_true, le_z_false, <ℤ→≤ℤ, ≤ℤ-trans, antisymmetric}
use Rattle.rules.specs.Folds.{choose}
use Rattle.waveform.specs.Panel.{last, largest, smallest, row_of, fills}
use Rattle.waveform.specs.Members.{Has, here, there}
use Rattle.waveform.proofs.Members.{first_or_later, has_some}

-- an order
pub record Ordered (Before : ℤ → ℤ → Type 0) : Type 0 where
  pub itself : (v : ℤ) → Before v v
  pub through : {u v w : ℤ} → Before u v → Before v w → Before u w

pub rising : Ordered ◌≤ℤ◌
rising = record { itself = ≤ℤ_refl; through = ≤ℤ-trans }

pub falling : Ordered (λ v u. u ≤ℤ v)
falling = record { itself = ≤ℤ_refl; through = λ h k. ≤ℤ-trans k h }

-- a test that decides it
record Order (before : ℤ → ℤ → Bool) (Before : ℤ → ℤ → Type 0) : Type 0 where
  ordered : Ordered Before
  passed : (v u : ℤ) → before v u ≡ true → Before v u
  failed : (v u : ℤ) → before v u ≡ false → Before u v

module _ {before : ℤ → ℤ → Bool} {Before : ℤ → ℤ → Type 0} (o : Order before Before) where
  -- of two, the later
  abbrev later : ℤ → ℤ → ℤ
  later v u = choose (before v u) u v

  later_is : (v u : ℤ) → Before v (later v u) × Before u (later v u)
  later_is v u = go (before v u) refl
    where
      go : (b : Bool) → before v u ≡ b → Before v (choose b u v) × Before u (choose b u v)
      go true e = (o.passed v u e, o.ordered.itself u)
      go false e = (o.ordered.itself v, o.failed v u e)

  one_of : (P : ℤ → Type 0) (b : Bool) (u v : ℤ) → P u → P v → P (choose b u v)
  one_of P true u v p q = p
  one_of P false u v p q = q

  start-before : (v : ℤ) (l : List ℤ) → Before v (last before v l)
  unfolding last
  start-before v [] = o.ordered.itself v
  start-before v (u ∷ l) = o.ordered.through (later_is v u).0 (start-before (later v u) l)

  each-before : (v : ℤ) (l : List ℤ) (t : ℤ) → Has t (v ∷ l) → Before t (last before v l)
  unfolding last
  each-before v [] t m = go (first_or_later m)
    where
      go : (t ≡ v) ⊎ Has t [] → Before t v
      go (inl e) = subst (λ z. Before z v) (sym e) (o.ordered.itself v)
      go (inr n) = absurd (omega (arith, has_some n))
  each-before v (u ∷ l) t m = go (first_or_later m) (each-before (later v u) l t)
    where
      end : ℤ
      end = last before (later v u) l

      second : (t ≡ u) ⊎ Has t l → (Has t (later v u ∷ l) → Before t end) → Before t end
      second (inl e) k = subst (λ z. Before z end) (sym e) (o.ordered.through (later_is v u).1 (start-before (later v u) l))
      second (inr n) k = k (there n)

      go : (t ≡ v) ⊎ Has t (u ∷ l) → (Has t (later v u ∷ l) → Before t end) → Before t end
      go (inl e) k = subst (λ z. Before z end) (sym e) (o.ordered.through (later_is v u).0 (start-before (later v u) l))
      go (inr n) k = second (first_or_later n) k

  last-before : (h v : ℤ) (l : List ℤ) → ((u : ℤ) → Has u (v ∷ l) → Before u h) → Before (last before v l) h
  unfolding last
  last-before h v [] k = k v here
  last-before h v (u ∷ l) k = last-before h (later v u) l (λ t m. go t (first_or_later m))
    where
      go : (t : ℤ) → (t ≡ later v u) ⊎ Has t l → Before t h
      go t (inl e) = subst (λ z. Before z h) (sym e) (one_of (λ z. Before z h) (before v u) u v (k u (there here)) (k v here))
      go t (inr m) = k t (there (there m))

  last_has : (v : ℤ) (l : List ℤ) → Has (last before v l) (v ∷ l)
  unfolding last
  last_has v [] = here
  last_has v (u ∷ l) = go (first_or_later (last_has (later v u) l))
    where
      end : ℤ
      end = last before (later v u) l

      go : (end ≡ later v u) ⊎ Has end l → Has end (v ∷ u ∷ l)
      go (inl e) = subst (λ z. Has z (v ∷ u ∷ l)) (sym e) (one_of (λ z. Has z (v ∷ u ∷ l)) (before v u) u v (there here) here)
      go (inr m) = there (there m)

by-largest : Order le_z ◌≤ℤ◌
by-largest = record { ordered = rising; passed = le_z_true; failed = λ v u e. <ℤ→≤ℤ (le_z_false v u e) }

by-smallest : Order (λ v u. le_z u v) (λ v u. u ≤ℤ v)
by-smallest = record { ordered = falling; passed = λ v u e. le_z_true u v e; failed = λ v u e. <ℤ→≤ℤ (le_z_false u v e) }

-- high and low are in the list, and no number of it is above the one or below the other
pub record Ends (l : List ℤ) (high low : ℤ) : Type 0 where
  pub has_high : Has high l
  pub has_low : Has low l
  pub none_above : (u : ℤ) → Has u l → u ≤ℤ high
  pub none_below : (u : ℤ) → Has u l → low ≤ℤ u

-- every list with a number in it has its largest and its smallest
pub ends_of : (v : ℤ) (l : List ℤ) → Ends (v ∷ l) (largest v l) (smallest v l)
ends_of v l = record {
  has_high = last_has by-largest v l;
  has_low = last_has by-smallest v l;
  none_above = λ u m. each-before by-largest v l u m;
  none_below = λ u m. each-before by-smallest v l u m;
}

module _ {high low : ℤ} where
  ends-largest : {v : ℤ} {l : List ℤ} → Ends (v ∷ l) high low → largest v l ≡ high
  ends-largest {v} {l} e = antisymmetric (last-before by-largest high v l e.none_above) (each-before by-largest v l high e.has_high)

  ends-smallest : {v : ℤ} {l : List ℤ} → Ends (v ∷ l) high low → smallest v l ≡ low
  ends-smallest {v} {l} e = antisymmetric (each-before by-smallest v l low e.has_low) (last-before by-smallest low v l e.none_below)

  pub low-high : {l : List ℤ} → Ends l high low → low ≤ℤ high
  low-high e = e.none_above low e.has_low

  -- the rows that a column with samples fills
  pub fills-between : (h : ℕ) (l : List ℤ) → Ends l high low → (y : ℕ) → fills h l y ≡ leb (row_of h high) y && leb y (row_of h low)
  unfolding fills
  fills-between h [] e y = absurd (omega (arith, has_some e.has_high))
  fills-between h (v ∷ l) e y =
      ap₂ (λ t b. leb (row_of h t) y && leb y (row_of h b)) (ends-largest e) (ends-smallest e)

-- ".. A column with none draws nothing."
pub fills-none : (h : ℕ) (l : List ℤ) → ((u : ℤ) → Has u l → ⊥) → (y : ℕ) → fills h l y ≡ false
unfolding fills
fills-none h [] k y = refl
fills-none h (v ∷ l) k y = absurd (k v here)
