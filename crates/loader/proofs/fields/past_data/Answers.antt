use Rattle.std.proofs.Common.{ℕ, List, ◌∷◌, sym, ap, ◌∙◌, ap₂}
use Rattle.sections.specs.Sections.{content, held_packing}
use Rattle.messages.specs.declared.order.Last.TheVariants as last
use Rattle.messages.specs.Meaning.{coming}
use Rattle.loader.proofs.Coming.{FieldList, at_data}
use Rattle.loader.proofs.fields.past_data.Goals as goal

pub hop-requires : goal.hop-requires
hop-requires c = (at_data c.args.grid c.args.rest.now c.args.product.now (held_packing c.args.packing) c.requires).fits

pub returns : goal.returns
returns c =
    (at_data c.args.grid c.args.rest.now c.args.product.now (held_packing c.args.packing) c.requires).on
    ∙ ap₂ {B = List ℕ} {C = FieldList} (λ (a b : List ℕ). record { frame = c.args.grid.frame; product = c.args.product.now; packing = held_packing c.args.packing; string = a } ∷ coming (last.Data c.args.grid) b)
    (ap content (sym c.hop.ensures.section) ∙ sym c.content.ensures) (sym c.hop.ensures.after)
