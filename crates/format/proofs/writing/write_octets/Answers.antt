use Rattle.std.proofs.Common.{refl, arith}
use Rattle.format.proofs.Parts.{put_written}
use Rattle.format.proofs.writing.write_octets.Goals as goal

pub returns : goal.returns
returns c = (refl, omega arith, put_written c.args.place _ c.args.buffer.now _ c.args.octets.now c.copy_from_slice.ensures.after (omega arith))
