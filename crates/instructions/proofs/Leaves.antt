-- The tree leaf by leaf: what leaf k holds after each of its instructions, once over the leaf number.
use Prim.Native.Nat.{ℕ, zero, suc, ◌*◌, ◌<◌}
use mathlib.Core.Path.{◌≡◌, refl, ap, ap₂}
use mathlib.Core.Bool.{Bool, true, false, ◌&&◌, ◌||◌, not}
use mathlib.Core.List.{List, ◌∷◌}
use native.Mathlib.Nat.{le_of_suc-le-suc, not-suc-le-zero}
use native.Mathlib.Omega.{arith}
use lib.ListN.{length, get_or}
use lib.Dec.{eqb}
use Rattle.rules.specs.declared.Screen.{Screen}
use Rattle.rules.specs.Triangles.{top_half, positive, negative}
use Rattle.instructions.specs.declared.Tree.{Tree}
use Rattle.instructions.specs.Words.{keep32, signed}
use Rattle.instructions.specs.Tree.{each, leaves, mark_i, mark_o, leaf_colour, leaf_depth, mask_bit, tree_set, leaf_value, past_leaves}
use Rattle.instructions.specs.Tree.{marked, tree_in, deepened, too_deep, tree_depth, replaced, tree_colour, tree_val}

module _ {A : Type 0} where
  pub length-each : (f : ℕ → A) (n : ℕ) → length (each f n) ≡ n
  unfolding each
  length-each f zero = refl
  length-each f (suc n) = ap suc (length-each (λ k. f (suc k)) n)

  pub each_at : (f : ℕ → A) (n k : ℕ) (d : A) → k < n → get_or (each f n) k d ≡ f k
  unfolding each
  each_at f zero k d h = absurd (not-suc-le-zero h)
  each_at f (suc n) zero d h = refl
  each_at f (suc n) (suc k) d h = each_at (λ i. f (suc i)) n k d (le_of_suc-le-suc h)

  pub leaf_at_lem : (f : ℕ → A) {k : ℕ} (d : A) → k < 16 → get_or (leaves f) k d ≡ f k
  leaf_at_lem f {k} d h = each_at f 16 k d h

  each_same : (f g : ℕ → A) (n : ℕ) → ((k : ℕ) → k < n → f k ≡ g k) → each f n ≡ each g n
  unfolding each
  each_same f g zero h = refl
  each_same f g (suc n) h =
      ap₂ ◌∷◌ (h 0 (omega arith)) (each_same (λ k. f (suc k)) (λ k. g (suc k)) n (λ k l. h (suc k) (omega arith)))

  pub leaves_same : {f g : ℕ → A} → ((k : ℕ) → k < 16 → f k ≡ g k) → leaves f ≡ leaves g
  leaves_same {f} {g} h = each_same f g 16 h

-- what a leaf holds
pub record LeafHolds : Type 0 where
  pub inside : Bool
  pub outside : Bool
  pub colour : ℕ
  pub depth : ℕ

-- leaf k of a tree, whole
pub record Leaf (t : Tree) (k : ℕ) (l : LeafHolds) : Type 0 where
  pub marked_i : mark_i t k ≡ l.inside
  pub marked_o : mark_o t k ≡ l.outside
  pub coloured : leaf_colour t k ≡ l.colour
  pub deep : leaf_depth t k ≡ l.depth

module _ {k : ℕ} (h : k < 16) where
  pub leaf_TREESET : (column row mask : ℕ)
      → Leaf (tree_set column row mask) k
      (record { inside = mask_bit mask k; outside = not (mask_bit mask k); colour = 0; depth = 0 })
  unfolding tree_set
  leaf_TREESET column row mask = record {
    marked_i = leaf_at_lem (mask_bit mask) false h;
    marked_o = leaf_at_lem (λ i. not (mask_bit mask i)) false h;
    coloured = leaf_at_lem (λ i. 0) 0 h;
    deep = leaf_at_lem (λ i. 0) 0 h;
  }

  module _ (a b : ℕ) (t : Tree) where
    pub leaf_TREEIN : Leaf (tree_in a b t) k
        (record {
          inside = mark_i t k && not (positive (signed (leaf_value a b k)));
          outside = mark_o t k || negative (signed (leaf_value a b k));
          colour = leaf_colour t k;
          depth = leaf_depth t k;
        })
    unfolding tree_in marked
    leaf_TREEIN = record {
      marked_i = leaf_at_lem (λ i. mark_i t i && not (positive (signed (leaf_value a b i)))) false h;
      marked_o = leaf_at_lem (λ i. mark_o t i || negative (signed (leaf_value a b i))) false h;
      coloured = refl;
      deep = refl;
    }

    module _ (s : Screen) (ram : List ℕ) where
      pub leaf_TREEVAL_depth : Leaf (tree_val 0 s ram a b t) k
          (record {
            inside = mark_i t k && not (too_deep s ram a b t k);
            outside = mark_o t k || too_deep s ram a b t k;
            colour = leaf_colour t k;
            depth = top_half (leaf_value a b k);
          })
      unfolding tree_val tree_depth marked deepened
      leaf_TREEVAL_depth = record {
        marked_i = leaf_at_lem (λ i. mark_i t i && not (too_deep s ram a b t i)) false h;
        marked_o = leaf_at_lem (λ i. mark_o t i || too_deep s ram a b t i) false h;
        coloured = refl;
        deep = leaf_at_lem (λ i. top_half (leaf_value a b i)) 0 h;
      }

      pub leaf_TREEVAL_colour : (kind : ℕ) → eqb kind 0 ≡ false
          → Leaf (tree_val kind s ram a b t) k
          (record {
            inside = mark_i t k;
            outside = mark_o t k;
            colour = replaced kind (leaf_value a b k) (leaf_colour t k);
            depth = leaf_depth t k;
          })
      unfolding tree_val tree_colour
      leaf_TREEVAL_colour kind e =
          rw e (record {
            marked_i = refl;
            marked_o = refl;
            coloured = leaf_at_lem (λ i. replaced kind (leaf_value a b i) (leaf_colour t i)) 0 h;
            deep = refl;
          })

-- whether depths are held
pub held_TREESET : (column row mask : ℕ) → (tree_set column row mask).held ≡ false
unfolding tree_set
held_TREESET column row mask = refl

module _ (a b : ℕ) (t : Tree) where
  pub held_TREEIN : (tree_in a b t).held ≡ t.held
  unfolding tree_in marked
  held_TREEIN = refl

  pub held_TREEVAL_depth : (s : Screen) (ram : List ℕ) → (tree_val 0 s ram a b t).held ≡ true
  unfolding tree_val tree_depth marked deepened
  held_TREEVAL_depth s ram = refl

  pub held_TREEVAL_colour : (s : Screen) (ram : List ℕ) (kind : ℕ)
      → eqb kind 0 ≡ false
      → (tree_val kind s ram a b t).held ≡ t.held
  unfolding tree_val tree_colour
  held_TREEVAL_colour s ram kind e = rw e

-- r1 goes on where leaf 16 would be, and with one register for both it is 17 times what it was
pub past_leaves_lem : (a b : ℕ) → past_leaves a b ≡ leaf_value a b 16
unfolding leaf_value
past_leaves_lem a b = refl

pub past_leaves_same : (a : ℕ) → past_leaves a a ≡ keep32 (17 * a)
past_leaves_same a = omega arith
