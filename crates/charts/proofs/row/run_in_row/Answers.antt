use Rattle.std.proofs.Common.{arith}
use Rattle.charts.proofs.Rows.{row_zero, row_part}
use Rattle.charts.proofs.row.run_in_row.Goals as goal

pub returns-then-run-inside-clause-answer : goal.returns-then-run-inside-clause-answer
returns-then-run-inside-clause-answer g c =
    row_zero (g.C.Chart.picture c.args.chart.now) _ _ _ _ _ c.size-size.ensures.width (omega arith) c.run-run.ensures.answer c.args.most (omega arith) (omega arith)

pub returns-clause-answer : goal.returns-clause-answer
returns-clause-answer g c =
    row_part (g.C.Chart.picture c.args.chart.now) _ _ _ _ _ c.size-size.ensures.width (omega arith) c.run-run.ensures.answer c.args.most c.min-2.result (omega arith) (omega arith)
