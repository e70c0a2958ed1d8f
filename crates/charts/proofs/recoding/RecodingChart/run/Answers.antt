use Rattle.std.proofs.Common.{arith}
use Rattle.charts.proofs.Codes.{run_recoded}
use Rattle.charts.proofs.recoding.RecodingChart.run.Goals as goal

pub returns-clause-answer : goal.returns-clause-answer
returns-clause-answer g c =
    let m = g.C.Chart in
    let self = c.args.self.now in
    let run = c.run-run in
    run_recoded self.map.table (m.picture self.below) c.args.cell run.result.level c.level.result run.result.length (g.met.C.Chart.lawful self.below) run.ensures.answer (omega arith) c.level.ensures
