use Rattle.std.proofs.Common.{length, ap, ap₂, ◌∙◌}
use Rattle.runs.specs.Runs.{loaded, highest}
use Rattle.messages.specs.Order.{held_field}
use Rattle.listing.proofs.Measures.{shortest}
use Rattle.listing.proofs.figures.Figures.of_field.Goals as goal

pub returns : goal.returns
returns c =
    let field = c.args.field.now in
    let is = c.run_string-string.ensures in
    let same = ap₂ (λ V s. loaded V s) is.v is.octets in
    let least = shortest (held_field field) _ _ _ c.requires same c.canonical_length.ensures.length c.unwrap_or.ensures in
    let most = c.highest_level.ensures ∙ ap highest same in
    λ i. record {
      number = c.args.number;
      width = field.frame.ni;
      height = field.frame.nj;
      highest = most i;
      string = length (is.octets i);
      shortest = least i;
    }
