use Rattle.std.proofs.Common.{refl}
use Rattle.sections.specs.Sections.{packing_rules}
use Rattle.sections.proofs.tables.packing_rules.Goals as goal

pub returns : goal.returns
unfolding packing_rules
returns c = refl
