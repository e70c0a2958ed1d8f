use Rattle.std.proofs.Common.{◌≡◌, ℕ, ◌*◌, ◌/◌, ◌%◌, ap, arith}
use Rattle.charts.specs.Pictures.{Picture, RowRun}
use Rattle.charts.proofs.Rows.{run_overlaid}
use Rattle.charts.proofs.overlay.OverlayChart.run.Goals as goal

pub returns-clause-answer : goal.returns-clause-answer
returns-clause-answer g c =
    let self = c.args.self.now in
    let p : Picture = g.A.Chart.picture self.first in
    let s : Picture = g.B.Chart.picture self.second in
    let q : ℕ = c.args.cell in
    let wide = c.size-size.ensures.width in
    let column = ap (λ x. q % x) wide in
    let count : c.size-size.result.width * c.size-size.result.height ≡ p.width * p.height = cc in
    let first = c.run-first in
    let second = c.run_in_row-second in
    let under : RowRun s (q / p.width) (q % p.width) c.min-most.result second.result.level second.result.length = rw wide at second.ensures.answer in
    rw c.level.ensures (run_overlaid self.rule p s q first.result.level first.result.length c.min-most.result second.result.level second.result.length (g.met.A.Chart.lawful self.first).sized.wide (omega arith) first.ensures.answer (omega arith) under)
