use Rattle.std.proofs.Common.{sym, ap, ◌∙◌, ap₂, arith}
use Rattle.messages.specs.declared.order.Last.TheVariants as last
use Rattle.messages.specs.Messages.{grid_of}
use Rattle.messages.specs.Meaning.{coming}
use Rattle.loader.proofs.Coming.{opens, at_same, at_frame}
use Rattle.loader.proofs.fields.to_product.Goals as goal

pub bounds-rest-4 : goal.bounds-rest-4
bounds-rest-4 c = omega (arith, (opens (last.Data c.args.grid) c.args.rest.now c.requires).long)

pub returns-then-rest-ne3 : goal.returns-then-rest-ne3
returns-then-rest-ne3 c = at_same c.args.grid c.args.rest.now c.requires c.if-rest-ne3.true

pub hop-requires : goal.hop-requires
hop-requires c = (opens (last.Data c.args.grid) c.args.rest.now c.requires).fits

pub returns : goal.returns
returns c =
    (at_frame c.args.grid c.args.rest.now c.requires c.if-rest-ne3.false).on
    ∙ ap₂ (λ g b. coming (last.Frame g) b) (ap grid_of (sym c.hop.ensures.section) ∙ sym c.grid_of.ensures) (sym c.hop.ensures.after)
