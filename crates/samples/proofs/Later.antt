-- Of two samples the later in an order, and the last of the samples so far: one sample more keeps the law, in any order. Numbers of 16 bits
-- are what they are read back as.
use Prim.Native.Nat.{ℕ, ◌+◌, ◌≤◌, ◌<◌}
use mathlib.Core.Bool.{Bool, true, false}
use mathlib.Core.Path.{◌≡◌, refl, sym, ◌∙◌, ap₂, subst, subst₂}
use mathlib.Core.Logic.{◌⊎◌, inl, inr}
use mathlib.Core.List.{List}
use native.Mathlib.Omega.{arith}
use native.Mathlib.Decide.{ℕ_discrete}
use lib.IntN.{ℤ, pos}
use lib.ListN.{take, drop}
use lib.Signed.{lt_z, ◌≤ℤ◌}
use mir.Syntax.{w16}
use mir.Val.{SFits, to_z, of_z}
use mir.ValLaws.{to_z-of_z}
use Rattle.std.specs.Prelude.{cond}
use Rattle.std.specs.Int.{int_max, int_min}
use Rattle.std.proofs.lemmas.List.{get_or-take, get_or-drop}
use Rattle.waveform.proofs.Extremes.{Ordered}
use Rattle.samples.specs.Reached.{Between, at, LaterOf, Last, ◌≥ℤ◌}

-- two numbers of 16 bits, compared as they are read
pub compared : {a b : ℤ} → SFits w16 a → SFits w16 b → lt_z (to_z w16 (of_z w16 a)) (to_z w16 (of_z w16 b)) ≡ lt_z a b
compared {a} {b} f g = ap₂ lt_z (to_z-of_z w16 a f) (to_z-of_z w16 b g)

one_of : {a b r : ℤ} (t : Bool) → r ≡ cond t a b → (r ≡ a) ⊎ (r ≡ b)
one_of true e = inl e
one_of false e = inr e

swapped : {A B : Type 0} → A ⊎ B → B ⊎ A
swapped (inl x) = inr x
swapped (inr x) = inl x

-- the library's greater of two, and the lesser

pub greater : {a b r : ℤ} → r ≡ int_max a b → a ≤ℤ r → b ≤ℤ r → LaterOf ◌≤ℤ◌ a b r
greater {a} {b} e f g = record { one = one_of (lt_z b a) e; after_first = f; after_second = g }

pub lesser : {a b r : ℤ} → r ≡ int_min a b → r ≤ℤ a → r ≤ℤ b → LaterOf ◌≥ℤ◌ a b r
lesser {a} {b} e f g = record { one = swapped (one_of (lt_z b a) e); after_first = f; after_second = g }

module _ {before : ℤ → ℤ → Type 0} (o : Ordered before) where
  module _ {a b : ℤ} where
    pub later_second : SFits w16 b → before a b → LaterOf before a b (to_z w16 (of_z w16 b))
    later_second f h =
        subst (LaterOf before a b) (sym (to_z-of_z w16 b f))
        (record { one = inr refl; after_first = h; after_second = o.itself b })

    pub later_first : SFits w16 a → before b a → LaterOf before a b (to_z w16 (of_z w16 a))
    later_first f h =
        subst (LaterOf before a b) (sym (to_z-of_z w16 a f))
        (record { one = inl refl; after_first = o.itself a; after_second = h })

  module _ {samples : List ℤ} {from : ℕ} where
    -- the first sample alone
    last-first : Last before samples from (from + 1) (at samples from)
    last-first = record {
      place = from;
      between = record { not_before = omega arith; before = omega arith };
      is = refl;
      after_each = λ i b. subst (λ k. before (at samples k) (at samples from)) (only i b) (o.itself (at samples from));
    }
      where
        only : (i : ℕ) → Between from (from + 1) i → from ≡ i
        only i b = omega (arith, b.not_before, b.before)

    -- one sample more
    last_more : {to : ℕ} {v r : ℤ} → from ≤ to → Last before samples from to v → LaterOf before v (at samples to) r
        → Last before samples from (to + 1) r
    last_more {to} {v} {r} h l k = record {
      place = place_of k.one;
      between = between-of k.one;
      is = is-of k.one;
      after_each = λ i b. go i b (ℕ_discrete i to);
    }
      where
        place_of : (r ≡ v) ⊎ (r ≡ at samples to) → ℕ
        place_of (inl e) = l.place
        place_of (inr e) = to

        between-of : (t : (r ≡ v) ⊎ (r ≡ at samples to)) → Between from (to + 1) (place_of t)
        between-of (inl e) = record { not_before = l.between.not_before; before = omega (arith, l.between.before) }
        between-of (inr e) = record { not_before = h; before = omega arith }

        is-of : (t : (r ≡ v) ⊎ (r ≡ at samples to)) → at samples (place_of t) ≡ r
        is-of (inl e) = l.is ∙ sym e
        is-of (inr e) = sym e

        go : (i : ℕ) → Between from (to + 1) i → Dec (i ≡ to) → before (at samples i) r
        go i b (yes e) = subst (λ j. before (at samples j) r) (sym e) k.after_second
        go i b (no e) =
            o.through (l.after_each i (record { not_before = b.not_before; before = omega (arith, b.before) })) k.after_first

    -- as the machine reads the samples behind the first and keeps the later

    pub last_first_read : SFits w16 (at samples from) → Last before samples from (from + 1) (to_z w16 (of_z w16 (at samples from)))
    last_first_read f = subst (Last before samples from (from + 1)) (sym (to_z-of_z w16 (at samples from) f)) last-first

    pub last_more_read : {i count : ℕ} {v r : ℤ}
        → i < count
        → SFits w16 (at (take count (drop (from + 1) samples)) i)
        → SFits w16 r
        → Last before samples from (from + 1 + i) v
        → LaterOf before v (to_z w16 (of_z w16 (at (take count (drop (from + 1) samples)) i))) r
        → Last before samples from (from + 1 + (i + 1)) (to_z w16 (of_z w16 r))
    last_more_read {i} {count} {v} {r} h f g l k =
        let read : to_z w16 (of_z w16 (at (take count (drop (from + 1) samples)) i)) ≡ at samples (from + 1 + i) =
        to_z-of_z w16 (at (take count (drop (from + 1) samples)) i) f
        ∙ get_or-take count (drop (from + 1) samples) i (pos 0) h
        ∙ get_or-drop (from + 1) samples i (pos 0) in
        let more : Last before samples from (from + 1 + i + 1) r = last_more (omega arith) l (subst (λ (u : ℤ). LaterOf before v u r) read k) in
        subst₂ (Last before samples from) (omega arith) (sym (to_z-of_z w16 r g)) more

    pub last-whole : {i to : ℕ} {v : ℤ} → i ≡ to → Last before samples from i v → Last before samples from to v
    last-whole {v = v} e l = subst (λ k. Last before samples from k v) e l
