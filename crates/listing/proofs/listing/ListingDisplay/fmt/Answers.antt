use Rattle.std.proofs.Common.{sym, subst}
use Rattle.std.specs.List.{AllByRecursion}
use Rattle.messages.specs.Lawful.{LawfulField}
use Rattle.loader.proofs.Lawfulness.{held_lawful}
use Rattle.listing.proofs.listing.ListingDisplay.fmt.Goals as goal

pub write_fields-requires : goal.write_fields-requires
write_fields-requires g c = subst (AllByRecursion LawfulField) (sym c.fields.ensures) (held_lawful c.in-Ok.loader)
