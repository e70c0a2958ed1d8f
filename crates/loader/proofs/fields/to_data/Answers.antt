use Rattle.std.proofs.Common.{length, sym, ap, ◌∙◌, ap₂, arith}
use Rattle.sections.specs.Sections.{packing_of}
use Rattle.messages.specs.declared.order.Last.TheVariants as last
use Rattle.messages.specs.Meaning.{coming}
use Rattle.loader.proofs.Coming.{at_packing, at_bitmap, past_packing}
use Rattle.loader.proofs.fields.to_data.Goals as goal

pub hop-requires : goal.hop-requires
hop-requires c = (at_packing c.args.grid c.args.rest.now c.args.product.now c.requires).fits

pub hop-requires-2 : goal.hop-requires-2
hop-requires-2 c =
    let on = past_packing c.args.grid c.args.rest.now c.args.product.now _ _ c.requires c.hop.ensures.section c.hop.ensures.after in
    (at_bitmap c.args.grid c.hop.result.1.now c.args.product.now (packing_of c.hop.result.0.now) (omega (arith, c.requires, ap length on))).fits

pub returns : goal.returns
returns c =
    let on = past_packing c.args.grid c.args.rest.now c.args.product.now _ _ c.requires c.hop.ensures.section c.hop.ensures.after in
    on ∙ (at_bitmap c.args.grid c.hop.result.1.now c.args.product.now (packing_of c.hop.result.0.now) (omega (arith, c.requires, ap length on))).on
    ∙ ap₂ (λ a b. coming (last.Bitmap c.args.grid c.args.product.now a) b) (sym c.packing_of.ensures) (sym c.hop-2.ensures.after)
