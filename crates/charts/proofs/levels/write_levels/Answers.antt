use Rattle.std.proofs.Common.{◌≡◌, ◌*◌, ◌∙◌, take, sym, subst, arith}
use Rattle.charts.specs.Pictures.{Picture}
use Rattle.charts.specs.ChartRuns.{cells_of}
use Rattle.charts.proofs.Filling.{one_more}
use Rattle.charts.proofs.Walks.{goes_on}
use Rattle.charts.proofs.levels.write_levels.Goals as goal

pub loop-cell-preserved : goal.loop-cell-preserved
loop-cell-preserved g c =
    let chart = c.into_iter-cell-iterator.result.chart.now in
    let p : Picture = g.C.Chart.picture chart in
    let kept = c.loop-cell.invariant in
    let walk = c.in-Some.ensures.steps in
    let run = c.in-Some.run' in
    let q = c.in-Some.cell in
    let on = goes_on g.C.Chart.picture p _ (q, run) _ kept.same walk in
    let at : take q c.loop-cell.buffer ≡ take q p.levels = subst (λ n. take n c.loop-cell.buffer ≡ take n p.levels) (sym walk.step.0) kept.written in
    let end = on.answer.within on.inside in
    let full = (g.met.C.Chart.lawful chart).full in
    let count : c.size.result.width * c.size.result.height ≡ cells_of p = cc in
    record {
      can_next = tt;
      is_finite = tt;
      same_reference = walk.same_reference ∙ kept.same_reference;
      same = walk.same ∙ kept.same;
      within = rw on.behind end;
      written = rw on.behind (one_more c.loop-cell.buffer c.fill.new.self p.levels q run.length run.level at (omega arith) (omega arith) (c.fill.ensures.after (λ y e. e)) on.answer.same);
    }
