-- An array that a loop fills leaf by leaf, over any f: after k passes it has what f says of each leaf below k, and from k on what it had;
-- after sixteen passes it is `leaves f`. Code here makes its arrays by `from_fn`, whose law is in `Made`.
use Prim.Native.Nat.{ℕ, zero, suc, ◌+◌, ◌<◌}
use mathlib.Core.Path.{◌≡◌, refl, sym, ◌∙◌, ap, ap₂}
use mathlib.Core.List.{List, [], ◌∷◌, ◌++◌, append-nil}
use native.Mathlib.Nat.{le_of_suc-le-suc, not-suc-le-zero}
use native.Mathlib.Numerals.{add-one}
use native.Mathlib.Omega.{arith}
use lib.ListN.{length, get_or, set, drop, drop_of_length-le}
use Rattle.instructions.specs.Tree.{each, leaves}

module _ {A : Type 0} where
  -- `after` is the array `before` after k passes
  pub record Filled (f : ℕ → A) (k : ℕ) (before after : List A) : Type 0 where
    pub sixteen : length before ≡ 16
    pub is : after ≡ each f k ++ drop k before

  set_next : (f : ℕ → A) (k : ℕ) (l : List A) → k < length l → set (each f k ++ drop k l) k (f k) ≡ each f (suc k) ++ drop (suc k) l
  unfolding each
  set_next f k [] h = absurd (not-suc-le-zero h)
  set_next f zero (x ∷ l) h = refl
  set_next f (suc k) (x ∷ l) h = ap (λ t. f 0 ∷ t) (set_next (λ i. f (suc i)) k l (le_of_suc-le-suc h))

  get_next : (f : ℕ → A) (k : ℕ) (l : List A) (d : A) → k < length l → get_or (each f k ++ drop k l) k d ≡ get_or l k d
  unfolding each
  get_next f k [] d h = absurd (not-suc-le-zero h)
  get_next f zero (x ∷ l) d h = refl
  get_next f (suc k) (x ∷ l) d h = get_next (λ i. f (suc i)) k l d (le_of_suc-le-suc h)

  pub filled_none : {f : ℕ → A} {l : List A} → length l ≡ 16 → Filled f 0 l l
  unfolding each
  filled_none h = record { sixteen = h; is = refl }

  module _ {f : ℕ → A} {k : ℕ} {before after : List A} (p : Filled f k before after) where
    -- what pass k finds at its leaf is what the array had
    pub filled_kept : (d : A) → k < 16 → get_or after k d ≡ get_or before k d
    filled_kept d h = ap (λ t. get_or t k d) p.is ∙ get_next f k before d (omega (arith, p.sixteen))

    pub filled_more : {v : A} → k < 16 → v ≡ f k → Filled f (k + 1) before (set after k v)
    filled_more h e = record {
      sixteen = p.sixteen;
      is = ap₂ (λ t x. set t k x) p.is e
          ∙ set_next f k before (omega (arith, p.sixteen))
          ∙ ap (λ i. each f i ++ drop i before) (sym (add-one k));
    }

    pub filled_all : k ≡ 16 → after ≡ leaves f
    filled_all e =
        p.is
        ∙ ap (λ i. each f i ++ drop i before) e
        ∙ ap (λ t. each f 16 ++ t) (drop_of_length-le before {i = 16} (omega (arith, p.sixteen)))
        ∙ append-nil (each f 16)
