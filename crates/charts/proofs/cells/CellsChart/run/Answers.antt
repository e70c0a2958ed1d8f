use Rattle.std.proofs.Common.{arith}
use Rattle.charts.proofs.Told.{run_told}
use Rattle.charts.proofs.cells.CellsChart.run.Goals as goal

pub returns-clause-answer : goal.returns-clause-answer
returns-clause-answer g c =
    let self = c.args.self.now in
    run_told g.C.Cell.tells self.cells.now self.size.width self.size.height c.args.cell c.min-end.result _ _ (omega arith) (omega arith) (omega arith) c.stretch.ensures
