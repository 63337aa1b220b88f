-- The part that the row reader hands back is the row's own colours, or its own depths, in order: it starts at the first pixel's
-- half-word, and those of a row follow one another. Said once over the area.
use Prim.Native.Nat.{ℕ, ◌+◌, ◌*◌, ◌≤◌, ◌<◌}
use mathlib.Core.Path.{◌≡◌, ap}
use mathlib.Core.List.{List}
use native.Mathlib.Omega.{arith}
use lib.ListN.{length, get_or, take, drop, length-take, length-drop}
use lib.Seq.{get_or-take, get_or-drop}
use Rattle.rules.specs.declared.Screen.{Screen}
use Rattle.rules.specs.Sizes.{width, Area, colour_at, depth_at}
use Rattle.rules.specs.Numbers.{row_number}
use Rattle.rules.specs.Calls.{accepted, part_start, row_length, part_bytes, row_bytes, depth_row_bytes}
use Rattle.rules.proofs.Strips.{RowByRow, colours_by_row, depths_by_row}
use Rattle.rules.proofs.Rows.{accepted-row}

module _ {at : Area} (a : RowByRow at) (m : List ℕ) (s : Screen) (row : ℕ) (e : row_number (length m) s row ≡ 0) where
  part : part_bytes at m s row ≡ take (2 * width s.size) (drop (at s 0 row) m)
  unfolding part_bytes part_start row_length
  part = ap (λ n. take (accepted n (2 * width s.size) 0) (drop (accepted n (at s 0 row) 0) m)) e

  fits : at s 0 row + 2 * width s.size ≤ length m
  fits = (accepted-row a (length m) s row e).fits

  part_length : length (part_bytes at m s row) ≡ 2 * width s.size
  part_length = rw part (simp (length-take, length-drop) (omega (arith, fits)))

  part_bytes_lem : (x : ℕ) → x < width s.size
      → (get_or (part_bytes at m s row) (x * 2) 0 ≡ get_or m (at s x row) 0)
      × (get_or (part_bytes at m s row) (x * 2 + 1) 0 ≡ get_or m (at s x row + 1) 0)
  part_bytes_lem x h =
      let c = (accepted-row a (length m) s row e).follow x in
      (byte (x * 2) (omega arith) (omega arith), byte (x * 2 + 1) (omega arith) (omega arith))
    where
      byte : (i : ℕ) → i < 2 * width s.size → {b : ℕ} → at s 0 row + i ≡ b → get_or (part_bytes at m s row) i 0 ≡ get_or m b 0
      byte i l q = rw (part, get_or-take, get_or-drop, q)

module _ (m : List ℕ) (s : Screen) (row : ℕ) (e : row_number (length m) s row ≡ 0) where
  pub row-length : length (row_bytes m s row) ≡ 2 * width s.size
  row-length = part_length colours_by_row m s row e

  pub row-bytes : (x : ℕ) → x < width s.size
      → (get_or (row_bytes m s row) (x * 2) 0 ≡ get_or m (colour_at s x row) 0)
      × (get_or (row_bytes m s row) (x * 2 + 1) 0 ≡ get_or m (colour_at s x row + 1) 0)
  row-bytes = part_bytes_lem colours_by_row m s row e

  pub depth_row_length : length (depth_row_bytes m s row) ≡ 2 * width s.size
  depth_row_length = part_length depths_by_row m s row e

  pub depth_row_bytes_lem : (x : ℕ) → x < width s.size
      → (get_or (depth_row_bytes m s row) (x * 2) 0 ≡ get_or m (depth_at s x row) 0)
      × (get_or (depth_row_bytes m s row) (x * 2 + 1) 0 ≡ get_or m (depth_at s x row + 1) 0)
  depth_row_bytes_lem = part_bytes_lem depths_by_row m s row e
