use Rattle.std.proofs.Common.{sym, ap, ◌∙◌, ap₂}
use Rattle.sections.specs.Sections.{content}
use Rattle.messages.specs.declared.order.Last.TheVariants as last
use Rattle.messages.specs.Meaning.{coming}
use Rattle.loader.proofs.Coming.{at_product}
use Rattle.loader.proofs.fields.to_packing.Goals as goal

pub hop-requires : goal.hop-requires
hop-requires c = (at_product c.args.grid c.args.rest.now c.requires).fits

pub returns : goal.returns
returns c =
    (at_product c.args.grid c.args.rest.now c.requires).on
    ∙ ap₂ (λ a b. coming (last.Product c.args.grid a) b) (ap content (sym c.hop.ensures.section) ∙ sym c.content.ensures) (sym c.hop.ensures.after)
