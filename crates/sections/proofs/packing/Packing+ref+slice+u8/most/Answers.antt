use Rattle.std.proofs.Common.{sym}
use Rattle.sections.proofs.Entries.{length-values}
use Rattle.sections.proofs.packing.Packing+ref+slice+u8.most.Goals as goal

pub returns : goal.returns
returns c = sym (length-values c.args.self.now.table.now)
