-- Walks over the runs of a chart.
use Rattle.std.proofs.Common.{◌≡◌, ℕ, Some}
use Rattle.charts.specs.declared.chart.Run.{Run}
use Rattle.charts.specs.declared.chart_runs.ChartRuns.{ChartRuns}
use Rattle.charts.specs.Pictures.{Picture}
use Rattle.charts.specs.ChartRuns.{GoesOn, StepsOn}

-- a step of a walk over a chart that shows p
pub goes_on : {C : Type 0} (picture : C → Picture) (p : Picture) (before : ChartRuns C) (item : ℕ × Run) (after : ChartRuns C) → picture before.chart.now ≡ p → StepsOn picture before (Some item) after → GoesOn p item.0 after.cell item.1
goes_on picture p before item after shows step = rw shows at step.step.1
