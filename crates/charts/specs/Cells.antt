-- What cells tell, and what a buffer of them shows.
use Rattle.std.specs.Prelude.{◌≡◌, ℕ, ◌-◌, ◌*◌, ◌<◌, ◌≤◌, min, if◌then◌else◌, List, ◌++◌, map, length, replicate, ◌==◌, ◌≢◌, slice_index}
use Rattle.charts.specs.declared.cells.Cells.{Cells}
use Rattle.charts.specs.Pictures.{Picture, pictured}

-- an octet, which is 255 at most, is its own level
abbrev pub octet_level : ℕ → ℕ
octet_level c = min c 255

-- the rain level if the cause is 1, and else 0
abbrev pub marked_level : ℕ → ℕ → ℕ
marked_level rain cause = if cause == 1 then octet_level rain else 0

-- the longest stretch of one level that levels begin with
pub record Stretch (levels : List ℕ) (level n : ℕ) : Type 0 where
  pub first : level ≡ slice_index levels 0
  pub some : 0 < length levels → 1 ≤ n
  pub within : n ≤ length levels
  pub same : (k : ℕ) → k < n → slice_index levels k ≡ level
  pub ends : n < length levels → slice_index levels n ≢ level

-- levels, and level 0 in those of n cells that have none
abbrev pub padded : ℕ → List ℕ → List ℕ
padded n levels = levels ++ replicate (n - length levels) 0

-- the levels that a buffer's cells tell; a cell that it has not is 0
abbrev pub cells_picture : {C : Type 0} → (C → ℕ) → Cells C → Picture
cells_picture tells c = pictured c.size.width c.size.height (padded (c.size.width * c.size.height) (map tells c.cells.now))
