use Rattle.std.proofs.Common.{arith}
use Rattle.messages.specs.Order.{held_field}
use Rattle.loader.proofs.Lawfulness.{found_lawful}
use Rattle.loader.proofs.holder.Loader.lamp_map.Goals as goal

pub lamps_of-requires : goal.lamps_of-requires
lamps_of-requires c = record {
  few = omega arith;
  scaled = (found_lawful c.args.self.now _ (held_field c.in_ok-packing.field-0) c.in_ok-packing.ensures).scaled;
}
