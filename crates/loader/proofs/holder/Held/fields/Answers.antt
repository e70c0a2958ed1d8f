use Rattle.std.proofs.Common.{length, sym, ap, ◌∙◌}
use Rattle.messages.specs.declared.order.Last.TheVariants as last
use Rattle.messages.specs.Meaning.{coming}
use Rattle.loader.proofs.Starting.{fields_from, counted_as}
use Rattle.loader.proofs.holder.Held.fields.Goals as goal

pub invariant_of-result : goal.invariant_of-result
invariant_of-result c =
    let self = c.args.self.now in
    let h = counted_as self.octets.now self.count self.known in
    record { known = h.count ∙ ap length (h.starts.comes c.grid_of.result ∙ ap (coming (last.Data c.grid_of.result)) (sym c.from_place-rest.ensures)) }

pub returns : goal.returns
returns c = let self = c.args.self.now in sym (fields_from self.octets.now self.count _ _ self.known c.from_place-rest.ensures)
