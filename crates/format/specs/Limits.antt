-- The limits of a grid.
use Rattle.std.specs.Prelude.{ℕ, ◌*◌, ◌≤◌}

-- a width and a height within their limits
pub record Sized (width height : ℕ) : Type 0 where
  pub wide : 1 ≤ width
  pub width_limit : width ≤ 16384
  pub high : 1 ≤ height
  pub height_limit : height ≤ 16384
  pub cells_limit : width * height ≤ 33554432
