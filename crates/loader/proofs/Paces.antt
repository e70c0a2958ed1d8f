-- The answer of an option that was asked for a field.
use Rattle.std.proofs.Common.{◌≡◌, ℕ, List, Some, None, Option, refl, Bor}
use Rattle.std.specs.Option.{ok_or, option_map}
use Rattle.format.specs.declared.fault.Fault.TheVariants.{Chart}
use Rattle.format.specs.declared.fault.ChartFault.TheVariants.{NoField}
use Rattle.messages.specs.declared.field.Field.{Field}
use Rattle.messages.specs.Order.{held_field}
use Rattle.loader.specs.Held.{found, itself, held_answer}

pub answered : (o : Option (Field (Bor (List ℕ)))) → held_answer (ok_or o (Chart NoField)) ≡ found itself (option_map held_field o)
answered None = refl
answered (Some f) = refl
