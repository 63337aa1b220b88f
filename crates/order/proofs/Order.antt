-- Demand 3: two orders give one memory exactly if they give one cell at each pixel, and that is decided at each pixel by the two depths,
-- the two colours and the depth stored there.
use Prim.Native.Nat.{ℕ, ◌≤◌, ◌<◌}
use mathlib.Core.Path.{◌≡◌, refl, sym, ◌∙◌, ap}
use mathlib.Core.Logic.{◌≢◌, ◌⊎◌, inl, inr, ◌↔◌}
use mathlib.Core.Bool.{Bool, true, false}
use mathlib.Core.List.{List}
use native.Mathlib.Omega.{arith}
use native.Mathlib.Decide.{dec_le, dec_lt}
use lib.ListN.{length, get_or}
use lib.Dec.{leb}
use borrow.Author.Tests.{le-leb, lt-leb}
use Rattle.rules.specs.declared.Screen.{Screen}
use Rattle.rules.specs.declared.Triangle.{Triangle}
use Rattle.rules.specs.declared.Drawn.{Drawn}
use Rattle.rules.specs.Folds.{choose}
use Rattle.ram.specs.Ram.{load_half}
use Rattle.rules.specs.Sizes.{sound}
use Rattle.rules.specs.Triangles.{covered, triangle_colour, triangle_depth, drawn}
use Rattle.rules.specs.Numbers.{triangle_number}
use Rattle.rules.specs.Calls.{accepted, Draws}
use Rattle.ram.proofs.Halves.{joined, joined_split, split_inj}
use Rattle.rules.proofs.Pixels.{On, Outside, Sound, sound_facts, Cell, cell, painted}
use Rattle.rules.proofs.Memory.{same_memory, on_rows}
use Rattle.rules.proofs.Drawing.{covered_on, merged, length-drawn, touched_drawn}
use Rattle.order.specs.Order.{SameInBothOrders, Compatible}
use Rattle.order.proofs.Numbers.{triangle-accepted}

-- a colour and a depth put on the cell of a covered pixel
put : ℕ → ℕ → Cell → Cell
put c d z = choose (leb d (joined z.depth)) (painted c d) z

module _ (c d : ℕ) where
  put_near : (z : Cell) → d ≤ joined z.depth → put c d z ≡ painted c d
  unfolding put
  put_near z h = rw (le-leb d (joined z.depth) h)

  put_far : (z : Cell) → joined z.depth < d → put c d z ≡ z
  unfolding put
  put_far z h = rw (lt-leb d (joined z.depth) h)

  over_near : (c' d' : ℕ) → d ≤ d' → put c d (painted c' d') ≡ painted c d
  over_near c' d' h = put_near (painted c' d') (rw joined_split h)

  over_far : (c' d' : ℕ) → d' < d → put c d (painted c' d') ≡ painted c' d'
  over_far c' d' h = put_far (painted c' d') (rw joined_split h)

-- the nearer of two is left, whichever is put first
nearer : (c d c' d' : ℕ) (z : Cell) → d < d' → put c' d' (put c d z) ≡ put c d (put c' d' z)
nearer c d c' d' z l = go (dec_le d (joined z.depth)) (dec_le d' (joined z.depth))
  where
    go : Dec (d ≤ joined z.depth) → Dec (d' ≤ joined z.depth) → put c' d' (put c d z) ≡ put c d (put c' d' z)
    go (yes h) (yes h') =
        rw (put_near c d z h, put_near c' d' z h', over_far c' d' c d l)
        (sym (over_near c d c' d' (omega arith)))
    go (yes h) (no h') = rw (put_far c' d' z (omega arith), put_near c d z h) (over_far c' d' c d l)
    go (no h) (yes h') = absurd (omega arith)
    go (no h) (no h') =
        rw (put_far c' d' z (omega arith), put_far c d z (omega arith)) (put_far c' d' z (omega arith))

data Compared (m n : ℕ) : Type 0 where
  less : m < n → Compared m n
  equal : m ≡ n → Compared m n
  more : n < m → Compared m n

compared : (m n : ℕ) → Compared m n
compared m n = go (dec_lt m n) (dec_lt n m)
  where
    go : Dec (m < n) → Dec (n < m) → Compared m n
    go (yes l) g = less l
    go (no l) (yes g) = more g
    go (no l) (no g) = equal (omega arith)

module _ (c d c' d' : ℕ) (z : Cell) where
  abbrev Same : Type 0
  Same = put c' d' (put c d z) ≡ put c d (put c' d' z)

  abbrev Apt : Type 0
  Apt = (d ≢ d') ⊎ ((joined z.depth < d) × (joined z.depth < d')) ⊎ (c ≡ c')

  same_apt : Same → Apt
  same_apt e = go (compared d d') (dec_le d (joined z.depth))
    where
      go : Compared d d' → Dec (d ≤ joined z.depth) → Apt
      go (less l) h = inl (omega arith)
      go (more l) h = inl (omega arith)
      go (equal q) (no h) = inr (inl (omega arith))
      go (equal q) (yes h) =
          inr (inr (split_inj (ap (λ k. k.colour)
          (sym (ap (put c d) (put_near c' d' z (omega arith)) ∙ over_near c d c' d' (omega arith))
          ∙ sym e
          ∙ ap (put c' d') (put_near c d z h)
          ∙ over_near c' d' c d (omega arith)))))

  apt_same : Apt → Same
  apt_same a = go a (compared d d')
    where
      go : Apt → Compared d d' → Same
      go a (less l) = nearer c d c' d' z l
      go a (more l) = sym (nearer c' d' c d z l)
      go (inl n) (equal q) = absurd (n q)
      go (inr (inl h)) (equal q) = rw (put_far c d z h.0, put_far c' d' z h.1) (sym (put_far c d z h.0))
      go (inr (inr e)) (equal q) = rw (e, q)

-- the cell of one pixel, with both triangles drawn
module _ (s : Screen) (x y : ℕ) where
  merged_covered : (t : Triangle) (z : Cell)
      → covered t s x y ≡ true
      → merged t s x y z ≡ put (triangle_colour t x y) (triangle_depth t x y) z
  unfolding merged put
  merged_covered t z e = rw e

  merged_uncovered : (t : Triangle) (z : Cell) → covered t s x y ≡ false → merged t s x y z ≡ z
  unfolding merged
  merged_uncovered t z e = rw e

  both_covered : (a b : Triangle) (z : Cell) → covered a s x y ≡ true → covered b s x y ≡ true
      → merged b s x y (merged a s x y z)
      ≡ put (triangle_colour b x y) (triangle_depth b x y) (put (triangle_colour a x y) (triangle_depth a x y) z)
  both_covered a b z p q =
      merged_covered b (merged a s x y z) q ∙ ap (put (triangle_colour b x y) (triangle_depth b x y)) (merged_covered a z p)

  module _ (a b : Triangle) (z : Cell) where
    abbrev Swaps : Type 0
    Swaps = merged b s x y (merged a s x y z) ≡ merged a s x y (merged b s x y z)

    abbrev AptHere : Type 0
    AptHere = Apt (triangle_colour a x y) (triangle_depth a x y) (triangle_colour b x y) (triangle_depth b x y) z

    swaps_apt : Swaps → covered a s x y ≡ true → covered b s x y ≡ true → AptHere
    swaps_apt e p q =
        same_apt (triangle_colour a x y) (triangle_depth a x y) (triangle_colour b x y) (triangle_depth b x y) z
        (sym (both_covered a b z p q) ∙ e ∙ both_covered b a z q p)

    apt_swaps : (covered a s x y ≡ true → covered b s x y ≡ true → AptHere) → Swaps
    apt_swaps h = go (covered a s x y) (covered b s x y) refl refl
      where
        go : (t u : Bool) → covered a s x y ≡ t → covered b s x y ≡ u → Swaps
        go true true p q =
            both_covered a b z p q
            ∙ apt_same (triangle_colour a x y) (triangle_depth a x y) (triangle_colour b x y) (triangle_depth b x y) z (h p q)
            ∙ sym (both_covered b a z q p)
        go true false p q = merged_uncovered b (merged a s x y z) q ∙ ap (merged a s x y) (sym (merged_uncovered b z q))
        go false u p q = ap (merged b s x y) (merged_uncovered a z p) ∙ sym (merged_uncovered a (merged b s x y z) p)

module _ (s : Screen) (m : List ℕ) (h : sound (length m) s ≡ true) where
  cell_after : (a b : Triangle) (x y : ℕ)
      → On s x y
      → cell s (drawn b s (drawn a s m)) x y ≡ merged b s x y (merged a s x y (cell s m x y))
  cell_after a b x y p =
      let k : Sound (length m) s = sound_facts h in
      (touched_drawn k b (drawn a s m) (length-drawn a s m)).changed p (on_rows p)
      ∙ ap (merged b s x y) ((touched_drawn k a m refl).changed p (on_rows p))

  byte_after : (a b : Triangle) (i : ℕ) → Outside s i → get_or (drawn b s (drawn a s m)) i 0 ≡ get_or m i 0
  byte_after a b i o =
      let k : Sound (length m) s = sound_facts h in
      (touched_drawn k b (drawn a s m) (length-drawn a s m)).beyond o ∙ (touched_drawn k a m refl).beyond o

  length-after : (a b : Triangle) → length (drawn b s (drawn a s m)) ≡ length m
  length-after a b = length-drawn b s (drawn a s m) ∙ length-drawn a s m

  pub either_order : (a b : Triangle) → SameInBothOrders a b s m ↔ Compatible a b s m
  unfolding load_half
  either_order a b = (to, from)
    where
      to : SameInBothOrders a b s m → Compatible a b s m
      to e x y p q =
          let o : On s x y = covered_on a p in
          swaps_apt s x y a b (cell s m x y) (sym (cell_after a b x y o) ∙ ap (λ l. cell s l x y) e ∙ cell_after b a x y o) p q

      from : Compatible a b s m → SameInBothOrders a b s m
      from p =
          same_memory s (drawn b s (drawn a s m)) (drawn a s (drawn b s m))
          (length-after a b ∙ sym (length-after b a))
          (λ x y o. cell_after a b x y o ∙ apt_swaps s x y a b (cell s m x y) (p x y) ∙ sym (cell_after b a x y o))
          (λ i o. byte_after a b i o ∙ sym (byte_after b a i o))

-- the same of calls: each triangle is accepted at its first call

pub accepted-sound : (n : ℕ) (s : Screen) (t : Triangle) → triangle_number n s t ≡ 0 → sound n s ≡ true
accepted-sound n s t e = ((triangle-accepted n s t).0 e).1

module _ {s : Screen} where
  pub accepted-drawn : {m after : List ℕ} {t : Triangle} {r : Drawn}
      → Draws m s t r after
      → triangle_number (length m) s t ≡ 0
      → after ≡ drawn t s m
  accepted-drawn {m} {t = t} d e = d.leaves ∙ ap (λ n. accepted n (drawn t s m) m) e

  two_calls : {m m₁ m₂ : List ℕ} {a b : Triangle} {r₁ r₂ : Drawn}
      → Draws m s a r₁ m₁
      → Draws m₁ s b r₂ m₂
      → triangle_number (length m) s a ≡ 0
      → triangle_number (length m) s b ≡ 0
      → m₂ ≡ drawn b s (drawn a s m)
  two_calls {m} {m₁} {m₂} {a} {b} d₁ d₂ p q =
      let e : m₁ ≡ drawn a s m = accepted-drawn d₁ p in
      accepted-drawn d₂ (ap (λ n. triangle_number n s b) (ap length e ∙ length-drawn a s m) ∙ q) ∙ ap (drawn b s) e

  pub calls_either_order : {m m₁ m₂ k₁ k₂ : List ℕ} {a b : Triangle} {ra₁ rb₂ rb₁ ra₂ : Drawn}
      → Draws m s a ra₁ m₁
      → Draws m₁ s b rb₂ m₂
      → Draws m s b rb₁ k₁
      → Draws k₁ s a ra₂ k₂
      → ra₁.number ≡ 0
      → rb₁.number ≡ 0
      → (m₂ ≡ k₂) ↔ Compatible a b s m
  calls_either_order {m} {m₁} {m₂} {k₁} {k₂} {a} {b} da₁ db₂ db₁ da₂ ea eb =
      let p : triangle_number (length m) s a ≡ 0 = sym da₁.answers ∙ ea in
      let q : triangle_number (length m) s b ≡ 0 = sym db₁.answers ∙ eb in
      let ab : m₂ ≡ drawn b s (drawn a s m) = two_calls da₁ db₂ p q in
      let ba : k₂ ≡ drawn a s (drawn b s m) = two_calls db₁ da₂ q p in
      let both = either_order s m (accepted-sound (length m) s a p) a b in
      (λ e. both.0 (sym ab ∙ e ∙ ba), λ c. ab ∙ both.1 c ∙ sym ba)
