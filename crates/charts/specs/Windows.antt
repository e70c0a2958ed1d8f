-- A part of a picture.
use Rattle.std.specs.Prelude.{ℕ, ◌+◌}
use Rattle.charts.specs.declared.window.Window.{Window}
use Rattle.charts.specs.Pictures.{Picture, level_at, drawn}

-- so many columns and rows from a column and a row on; a cell outside the picture is 0
abbrev pub windowed : ℕ → ℕ → ℕ → ℕ → Picture → Picture
windowed w h column row p = drawn w h (λ i j. level_at p (row + i) (column + j))

abbrev pub window_picture : {C : Type 0} → (C → Picture) → Window C → Picture
window_picture picture c = windowed c.size.width c.size.height c.column c.row (picture c.below)
