-- What drawing a chunk and a row promises.
use Rattle.std.specs.Prelude.{ℕ, ◌+◌, ◌≤◌, ◌<◌, ◌≡◌, ◌≢◌, Bool, true, false, length}
use Rattle.rules.specs.Folds.{upto, how_many}
use Rattle.rules.specs.Sizes.{width, sound}
use Rattle.rules.specs.Triangles.{row_drawn}
use Rattle.masks.specs.declared.Masks.{Masks}
use Rattle.masks.specs.Mask.{MasksOf}
use Rattle.masks.specs.Span.{in_span}
use Rattle.std.specs.declared.ops.Range.{Range}
use Rattle.rules.specs.declared.Counts.{Counts}
use Rattle.rows.specs.declared.Line.{Line}
use Rattle.rows.specs.Lines.{covered_in, written_in, drawn_in, Drawing}
use Rattle.rows.specs.Pixels.{chunk_at, chunk_from}

-- the counts can still grow by k
pub record Room (c : Counts) (k : ℕ) : Type 0 where
  pub to_cover : c.covered + k < 4294967296
  pub to_write : c.written + k < 4294967296

-- each group's mask has its covered pixels; a is the first of them
pub record ChunkAsked (l : Line) (a : ℕ) (m : Masks) (before : Drawing) : Type 0 where
  pub is_sound : sound (length before.ram) l.screen ≡ true
  pub masks : MasksOf (λ k. covered_in l (chunk_at a + k)) m
  pub begins : covered_in l a ≡ true
  pub no_earlier : (x : ℕ) → chunk_at a ≤ x → x < a → covered_in l x ≡ false
  pub room : Room before.counts 64

pub record ChunkDone (l : Line) (a : ℕ) (before after : Drawing) : Type 0 where
  pub covers : after.counts.covered ≡ before.counts.covered + how_many (λ k. covered_in l (a + k)) (chunk_from a)
  pub writes : after.counts.written ≡ before.counts.written + how_many (λ k. written_in l before.ram (a + k)) (chunk_from a)
  pub leaves : after.ram ≡ upto (λ k. drawn_in l (a + k)) (chunk_from a) before.ram

-- the row's covered pixels are those of the span
pub record RowAsked (l : Line) (columns : Range ℕ) (before : Drawing) : Type 0 where
  pub is_sound : sound (length before.ram) l.screen ≡ true
  pub ordered : columns.start ≤ columns.end
  pub limited : columns.end ≤ width l.screen.size
  pub spans : (x : ℕ) → x < width l.screen.size → covered_in l x ≡ in_span columns.start columns.end x
  pub room : Room before.counts 1024

-- of the row pixel x alone can be covered, and is where `on` says so
pub record LoneAsked (l : Line) (x : ℕ) (on : Bool) (before : Drawing) : Type 0 where
  pub is_sound : sound (length before.ram) l.screen ≡ true
  pub across : x < width l.screen.size
  pub here : covered_in l x ≡ on
  pub others : (k : ℕ) → k < width l.screen.size → k ≢ x → covered_in l k ≡ false
  pub room : Room before.counts 1024

pub record RowDone (l : Line) (before after : Drawing) : Type 0 where
  pub covers : after.counts.covered ≡ before.counts.covered + how_many (covered_in l) (width l.screen.size)
  pub writes : after.counts.written ≡ before.counts.written + how_many (written_in l before.ram) (width l.screen.size)
  pub leaves : after.ram ≡ row_drawn l.triangle l.screen l.row before.ram
