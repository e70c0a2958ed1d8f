use Rattle.std.proofs.Common.{ℕ, eqb, rules}
use borrow.Author.Tests.{tests}
use Rattle.std.proofs.lemmas.Iterator.{YieldsList-from_slice}
use Rattle.std.proofs.lemmas.Iterator.Consumers.{count_from_yields_List}
use Rattle.std.proofs.lemmas.Iterator.Search.{YieldsList-from_take_while}
use Rattle.charts.proofs.Told.{stretched}
use Rattle.charts.proofs.cell.stretch.Goals as goal

pub returns : goal.returns
returns g c =
    let tells = g.C.Cell.tells in
    let cells = c.args.cells.now in
    let level : ℕ = c.level-level.result in
    stretched tells cells c.in-Some.first.now level c.count-length.result (search rules) (search rules) c.level-level.ensures (count_from_yields_List c.take_while.result c.count-length.result c.count-length.ensures.ran (YieldsList-from_take_while _ (λ x. eqb (tells x) level) (YieldsList-from_slice cells cc) c.take_while.ensures.closure c.take_while.ensures.done (λ x b q k. search (rules, tests))))
