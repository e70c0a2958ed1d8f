use Rattle.std.proofs.Common.{length, sym, ap}
use Rattle.loader.proofs.Starting.{none_coming}
use Rattle.loader.proofs.fields.Fields.none.Goals as goal

pub invariant_of-result : goal.invariant_of-result
invariant_of-result c = record { known = sym (ap length (none_coming _)) }
