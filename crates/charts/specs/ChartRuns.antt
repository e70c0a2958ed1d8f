-- A walk over the runs of a chart.
use Rattle.std.specs.Prelude.{◌≡◌, ℕ, ◌+◌, ◌*◌, ◌<◌, ◌≤◌, Option, MatchOption}
use Rattle.charts.specs.declared.chart.Run.{Run}
use Rattle.charts.specs.declared.chart_runs.ChartRuns.{ChartRuns}
use Rattle.charts.specs.Pictures.{Picture, RunAt}

-- how many cells a picture has
abbrev pub cells_of : Picture → ℕ
cells_of p = p.width * p.height

-- a run that is answered at cell q, and the cell behind it
pub record GoesOn (p : Picture) (q next : ℕ) (run : Run) : Type 0 where
  pub inside : q < cells_of p
  pub answer : RunAt p q run.level run.length
  pub behind : next ≡ q + run.length

-- a step of a walk: a run inside the picture with its first cell, and none past the last cell. The chart stays lent, and its picture the same.
pub record StepsOn {C : Type 0} (picture : C → Picture) (before : ChartRuns C) (answer : Option (ℕ × Run)) (after : ChartRuns C) : Type 0 where
  pub same_reference : after.chart.ghost_name ≡ before.chart.ghost_name
  pub same : picture after.chart.now ≡ picture before.chart.now
  pub step : MatchOption answer
      ((cells_of (picture before.chart.now) ≤ before.cell) × (after.cell ≡ before.cell))
      (λ item. (item.0 ≡ before.cell) × GoesOn (picture before.chart.now) item.0 after.cell item.1)
