use Rattle.std.proofs.Common.{length}
use Rattle.messages.specs.Order.{held_last}
use Rattle.messages.proofs.Counting.{Counting}
use Rattle.messages.proofs.reading.check_message.Given as goal

abbrev pub invariant-loop-last : goal.invariant-loop-last
invariant-loop-last l = Counting l.octets (held_last l.last) l.fields l.rest

abbrev pub decreases-loop-last : goal.decreases-loop-last
decreases-loop-last l = length l.rest
