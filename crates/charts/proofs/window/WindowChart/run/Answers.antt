use Rattle.std.proofs.Common.{arith}
use Rattle.charts.specs.Pictures.{Picture}
use Rattle.charts.proofs.Rows.{run_windowed}
use Rattle.charts.proofs.window.WindowChart.run.Goals as goal

pub returns-clause-answer : goal.returns-clause-answer
returns-clause-answer g c =
    let self = c.args.self.now in
    let p : Picture = g.C.Chart.picture self.below in
    let run = c.run_in_row in
    run_windowed self.size.width self.size.height self.column self.row p c.args.cell run.result.level run.result.length (omega arith) (omega arith) run.ensures.answer
