use Rattle.std.proofs.Common.{length, ap₂, ◌∙◌}
use Rattle.runs.specs.Runs.{loaded}
use Rattle.messages.specs.Order.{held_field}
use Rattle.loader.proofs.Lawfulness.{found_lawful}
use Rattle.loader.proofs.packed.Packed.open.Goals as goal

pub invariant_of-size : goal.invariant_of-size
invariant_of-size c =
    record { sized = (found_lawful c.args.loader.now _ (held_field c.in_ok-field.field) c.in_ok-field.ensures).sized }

pub at_start-requires : goal.at_start-requires
at_start-requires c =
    let law = found_lawful c.args.loader.now _ (held_field c.in_ok-field.field) c.in_ok-field.ensures in
    ap₂ (λ V s. length (loaded V s)) c.run_string.ensures.v c.run_string.ensures.octets ∙ law.cells
