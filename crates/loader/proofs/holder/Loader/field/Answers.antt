use Rattle.std.proofs.Common.{ap, ◌∙◌}
use Rattle.std.proofs.lemmas.Iterator.Consumers.{YieldsList-from_first, nth_from_yields_List}
use Rattle.std.specs.Option.{ok_or}
use Rattle.messages.specs.Order.{held_field}
use Rattle.loader.specs.Held.{held_fields, ahead, held_answer, found, itself}
use Rattle.loader.proofs.Paces.{answered}
use Rattle.loader.proofs.holder.Loader.field.Goals as goal

pub returns : goal.returns
returns c =
    let nth = nth_from_yields_List c.nth.result c.nth.new.self c.args.k c.nth.ensures.ran (YieldsList-from_first held_field ahead (held_fields c.args.self.now) c.fields.ensures) in
    ap held_answer (c.ok_or.ensures.value ∙ ap (ok_or c.nth.result) c.into-2.ensures) ∙ answered _ ∙ ap (found itself) nth
