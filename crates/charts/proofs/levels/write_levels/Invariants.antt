use Rattle.std.proofs.Common.{◌≡◌, ◌≤◌, take}
use Rattle.charts.specs.ChartRuns.{cells_of}
use Rattle.charts.proofs.levels.write_levels.Given as goal

abbrev pub invariant-loop-cell : goal.invariant-loop-cell
invariant-loop-cell g l =
    let picture = g.C.Chart.picture in
    let before = l.initial.cell-iterator.chart in
    record {
      can_next : (goal.iterator-loop-cell g).can_next l.cell-iterator;
      is_finite : (goal.iterator-loop-cell g).is_finite l.cell-iterator;
      same_reference : l.cell-iterator.chart.ghost_name ≡ before.ghost_name;
      same : picture l.cell-iterator.chart.now ≡ picture before.now;
      within : l.cell-iterator.cell ≤ cells_of (picture before.now);
      written : take l.cell-iterator.cell l.buffer ≡ take l.cell-iterator.cell (picture before.now).levels;
    }
