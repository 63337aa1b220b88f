-- What drawing one pixel and the pixels of a word of 64 bits promises.
use Rattle.std.specs.Prelude.{ℕ, ◌+◌, ◌-◌, ◌%◌, ◌<◌, ◌≡◌, Bool, true, List, leb, length}
use Rattle.rules.specs.Folds.{upto, bit, how_many, choose}
use Rattle.ram.specs.Ram.{load_half, store_half}
use Rattle.rules.specs.Sizes.{sound}
use Rattle.masks.specs.Mask.{mask_of}
use Rattle.planes.specs.declared.Tints.{Tints}
use Rattle.planes.specs.Planes.{tint_depth, tint_colour}
use Rattle.rows.specs.declared.Line.{Line}
use Rattle.rows.specs.Lines.{covered_in, written_in, drawn_in, Writing}

abbrev pub passes : List ℕ → ℕ → Tints → Bool
passes m depth v = leb (tint_depth v) (load_half m depth)

pub record PixelDone (colour depth : ℕ) (v : Tints) (before after : Writing) : Type 0 where
  pub counts : after.count ≡ before.count + bit (passes before.ram depth v)
  pub leaves : after.ram
      ≡ choose (passes before.ram depth v)
      (store_half (store_half before.ram depth (tint_depth v)) colour (tint_colour v))
      before.ram

-- a chunk is 64 columns; the one of column a starts with a's group
abbrev pub chunk_at : ℕ → ℕ
chunk_at a = a - a % 16

-- how many of its columns stand from a on
abbrev pub chunk_from : ℕ → ℕ
chunk_from a = 64 - a % 16

-- the bits of the word of 64 are the covered pixels of a's chunk, and a's is set
pub record WordAsked (l : Line) (a wide : ℕ) (before : Writing) : Type 0 where
  pub is_sound : sound (length before.ram) l.screen ≡ true
  pub says : wide ≡ mask_of (λ k. covered_in l (chunk_at a + k)) 64
  pub begins : covered_in l a ≡ true
  pub room : before.count + 64 < 4294967296

-- its pixels from a on are drawn
pub record WordDone (l : Line) (a : ℕ) (before after : Writing) : Type 0 where
  pub counts : after.count ≡ before.count + how_many (λ k. written_in l before.ram (a + k)) (chunk_from a)
  pub leaves : after.ram ≡ upto (λ k. drawn_in l (a + k)) (chunk_from a) before.ram
