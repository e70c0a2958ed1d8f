use Rattle.std.proofs.Common.{Ok, sym, subst, ap, ◌∙◌, refl}
use Rattle.std.specs.Iterator.Adapters.{enumerate_source}
use Rattle.messages.specs.Order.{held_field}
use Rattle.loader.specs.Held.{ahead}
use Rattle.listing.specs.Lines.{figures_of}
use Rattle.listing.proofs.Printing.{Printing, more}
use Rattle.listing.proofs.listing.write_fields.Goals as goal

pub loop-number-preserved : goal.loop-number-preserved
loop-number-preserved g c =
    let took = g.W.Write.write_str_gives in
    let all = ahead c.args.fields in
    let steps = c.in-Some.ensures.steps in
    let figures = c.of_field-figures.ensures ∙ ap (λ n. figures_of n (held_field c.in-Some.field)) steps.1 in
    subst (λ n. Printing took c.args.f.now all n (ahead (enumerate_source c.next.new.self)) c.write.new.self) (sym steps.2)
    (more took c.args.f.now all _ _ _ c.in-Some.field c.of_field-figures.result c.loop-number.f c.write.new.self (Ok tt)
    c.loop-number.invariant steps.0 figures c.in_ok-write.ensures.writes refl)
