use Rattle.std.proofs.Common.{Some, sym, ap, ◌∙◌, arith}
use Rattle.std.specs.Option.{option_map}
use Rattle.loader.proofs.Starting.{counted_as}
use Rattle.loader.proofs.holder.Held.identification.Goals as goal

pub slice_bounds-identification_of-end : goal.slice_bounds-identification_of-end
slice_bounds-identification_of-end c = let self = c.args.self.now in omega (arith, (counted_as self.octets.now self.count self.known).starts.long)

pub returns : goal.returns
returns c =
    let self = c.args.self.now in
    let h = counted_as self.octets.now self.count self.known in
    ap Some (c.identification_of.ensures ∙ sym h.starts.says) ∙ ap (option_map (λ m. m.identification)) (sym h.is)
