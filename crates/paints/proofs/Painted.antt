-- A painted memory is known by its cells: so no second memory has the same reading, and a clear is one.
use Prim.Native.Nat.{ℕ, ◌<◌}
use mathlib.Core.Path.{◌≡◌, refl, sym, ◌∙◌, ap}
use mathlib.Core.Bool.{Bool, true, false}
use mathlib.Core.List.{List}
use lib.ListN.{length, get_or}
use Rattle.rules.specs.declared.Screen.{Screen}
use Rattle.rules.specs.Folds.{choose}
use Rattle.ram.specs.Ram.{load_half}
use Rattle.rules.specs.Sizes.{width, height, sound, colour_at, depth_at, pixel}
use Rattle.rules.specs.Calls.{cleared}
use Rattle.ram.proofs.Halves.{Bytes, split, joined, joined_split, bytes}
use Rattle.rules.proofs.Pixels.{On, Outside, Cell, cell}
use Rattle.rules.proofs.Memory.{same_memory}
use Rattle.order.specs.Pointwise.{Reads, Painted}
use Rattle.order.proofs.Pointwise.{outside, elsewhere, cleared_pointwise}
use Rattle.paints.specs.Paint.{pixel_colour, pixel_depth, Paint, everywhere, Laid, PaintedWith}

-- the two bytes at an address, as the paint has them
abbrev dyed : Paint → List ℕ → ℕ → ℕ → ℕ → Bytes
dyed p m a x y = choose (p.picks x y) (split (p.value x y)) (bytes m a)

abbrev pub dyed_cell : Screen → Paint → Paint → List ℕ → ℕ → ℕ → Cell
dyed_cell s colour depth m x y = record {
  colour = dyed colour m (colour_at s x y) x y;
  depth = dyed depth m (depth_at s x y) x y;
}

reads : {m : List ℕ} {a : ℕ} {b : Bytes} → bytes m a ≡ b → Reads m a b.high b.low
reads e = record { first = ap (λ z. z.high) e; second = ap (λ z. z.low) e }

module _ {s : Screen} {at : ℕ → ℕ → ℕ} {p : Paint} {m after : List ℕ} where
  laid : ((x y : ℕ) → On s x y → bytes after (at x y) ≡ dyed p m (at x y) x y) → Laid s at p m after
  laid h = record {
    holds = λ x y a b e. reads {b = split (p.value x y)} (now x y a b e);
    stays = λ x y a b e. reads {b = bytes m (at x y)} (now x y a b e);
  }
    where
      now : (x y : ℕ) {t : Bool}
          → x < width s.size
          → y < height s.size
          → p.picks x y ≡ t
          → bytes after (at x y) ≡ choose t (split (p.value x y)) (bytes m (at x y))
      now x y a b e = h x y (record { across = a; down = b }) ∙ ap (λ t. choose t (split (p.value x y)) (bytes m (at x y))) e

  laid_bytes : Laid s at p m after → (x y : ℕ) → On s x y → bytes after (at x y) ≡ dyed p m (at x y) x y
  laid_bytes l x y o = go (p.picks x y) refl
    where
      read : {a high low : ℕ} → Reads after a high low → bytes after a ≡ record { high = high; low = low }
      read r = λ i. record { high = r.first i; low = r.second i }

      go : (t : Bool) → p.picks x y ≡ t → bytes after (at x y) ≡ choose t (split (p.value x y)) (bytes m (at x y))
      go true e = read (l.holds x y o.across o.down e)
      go false e = read (l.stays x y o.across o.down e)

  -- in half-words
  laid_half : Laid s at p m after
      → (x y : ℕ)
      → On s x y
      → load_half after (at x y) ≡ choose (p.picks x y) (p.value x y) (load_half m (at x y))
  unfolding load_half
  laid_half l x y o = ap joined (laid_bytes l x y o) ∙ go (p.picks x y)
    where
      go : (t : Bool) → joined (choose t (split (p.value x y)) (bytes m (at x y))) ≡ choose t (p.value x y) (load_half m (at x y))
      go true = joined_split (p.value x y)
      go false = refl

module _ {s : Screen} {colour depth : Paint} {m : List ℕ} where
  pub from_cells : {after : List ℕ} → length after ≡ length m
      → ((x y : ℕ) → On s x y → cell s after x y ≡ dyed_cell s colour depth m x y)
      → ((b : ℕ) → Outside s b → get_or after b 0 ≡ get_or m b 0)
      → PaintedWith s colour depth m after
  from_cells l c o = record {
    same_length = l;
    colours = laid (λ x y p. ap (λ z. z.colour) (c x y p));
    depths = laid (λ x y p. ap (λ z. z.depth) (c x y p));
    elsewhere = λ b e. o b (outside e);
  }

  to_cells : {after : List ℕ} → PaintedWith s colour depth m after
      → (x y : ℕ) → On s x y → cell s after x y ≡ dyed_cell s colour depth m x y
  to_cells p x y o = λ i. record { colour = laid_bytes p.colours x y o i; depth = laid_bytes p.depths x y o i }

  -- no other memory has the same reading
  pub painted_with_unique : {k l : List ℕ} → PaintedWith s colour depth m k → PaintedWith s colour depth m l → k ≡ l
  painted_with_unique {k} {l} p q =
      same_memory s k l
      (p.same_length ∙ sym q.same_length)
      (λ x y o. to_cells p x y o ∙ sym (to_cells q x y o))
      (λ b o. p.elsewhere b (elsewhere o) ∙ sym (q.elsewhere b (elsewhere o)))

  -- each pixel's colour and depth
  module _ {after : List ℕ} (p : PaintedWith s colour depth m after) (x y : ℕ) (a : x < width s.size) (b : y < height s.size) where
    pub colour-after : pixel_colour s after x y ≡ choose (colour.picks x y) (colour.value x y) (pixel_colour s m x y)
    colour-after = laid_half p.colours x y (record { across = a; down = b })

    pub depth-after : pixel_depth s after x y ≡ choose (depth.picks x y) (depth.value x y) (pixel_depth s m x y)
    depth-after = laid_half p.depths x y (record { across = a; down = b })

-- a clear: one paint on all colours, another on all depths
pub clear_paints : (s : Screen) (m : List ℕ) → sound (length m) s ≡ true
    → (colour depth : ℕ)
    → PaintedWith s (everywhere colour) (everywhere depth) m (cleared s colour depth m)
clear_paints s m h colour depth =
    let p : Painted s (λ x y. true) (λ x y. pixel colour depth) m (cleared s colour depth m) =
    cleared_pointwise s m h (pixel colour depth) in
    record {
      same_length = p.same_length;
      colours = record { holds = λ x y a b e. (p.painted x y a b e).0; stays = λ x y a b e. (p.stays x y a b e).0 };
      depths = record { holds = λ x y a b e. (p.painted x y a b e).1; stays = λ x y a b e. (p.stays x y a b e).1 };
      elsewhere = p.elsewhere;
    }
