-- What a chart shows, its picture, and what it answers.
use Rattle.std.specs.Prelude.{◌≡◌, ℕ, ◌+◌, ◌*◌, ◌/◌, ◌%◌, ◌<◌, ◌≤◌, if◌then◌else◌, List, [], ◌∷◌, map, length, Ok, Err, Result, nat_lt, slice_index}
use Rattle.std.specs.List.{range_with_len}
use Rattle.format.specs.Limits.{Sized}
use Rattle.format.specs.Refusals.{refusal, told}
use Rattle.format.specs.declared.fault.Fault.{Fault}
use Rattle.format.specs.declared.fault.Layer.TheVariants as layer

-- a width, a height, and the levels of the cells, row by row
pub record Picture : Type 0 where
  pub width : ℕ
  pub height : ℕ
  pub levels : List ℕ

abbrev pub pictured : ℕ → ℕ → List ℕ → Picture
pictured w h levels = record { width = w; height = h; levels = levels }

-- the picture of a new chart: one cell, of level 0
abbrev pub blank : Picture
blank = pictured 1 1 (0 ∷ [])

-- the size is within its limits, and each cell has a level from 0 to 255
pub record Lawful (p : Picture) : Type 0 where
  pub sized : Sized p.width p.height
  pub full : length p.levels ≡ p.width * p.height
  pub octets : (k : ℕ) → slice_index p.levels k ≤ 255

-- an answer at cell q: its level, and n of at least 1 such that the n cells from q on have that level and lie in the
-- picture; level 0 and length 0 past the last cell
pub record RunAt (p : Picture) (q level n : ℕ) : Type 0 where
  pub some : q < p.width * p.height → 1 ≤ n
  pub within : q < p.width * p.height → q + n ≤ p.width * p.height
  pub same : (k : ℕ) → k < n → slice_index p.levels (q + k) ≡ level
  pub past : p.width * p.height ≤ q → (level ≡ 0) × (n ≡ 0)

-- a call that sets what a chart shows: what it needs, the picture that it then gives, the pictures before and after, and
-- the answer; refusal 14 exactly if what it needs does not hold, and then the picture stays
abbrev pub Shown : Type 0 → Picture → Picture → Picture → Result (Unit {0}) Fault → Type 0
Shown Fit p before after (Ok _) = Fit × (after ≡ p)
Shown Fit p before after (Err e) = (Fit → ⊥) × (refusal e ≡ told 14 layer.Charts 0 0 0) × (after ≡ before)

-- the level at a row and a column, and 0 outside the picture
abbrev pub level_at : Picture → ℕ → ℕ → ℕ
level_at p row column = if nat_lt row p.height then if nat_lt column p.width then slice_index p.levels (row * p.width + column) else 0 else 0

-- the picture of a size with the level that is given for each row and column
abbrev pub drawn : ℕ → ℕ → (ℕ → ℕ → ℕ) → Picture
drawn w h level = pictured w h (map (λ q. level (q / w) (q % w)) (range_with_len 0 (w * h)))

-- an answer within a row: some of at most `most` cells from a column on, all of one level
pub record RowRun (p : Picture) (row column most level n : ℕ) : Type 0 where
  pub some : 1 ≤ most → 1 ≤ n
  pub within : n ≤ most
  pub same : (k : ℕ) → k < n → level_at p row (column + k) ≡ level
