use Rattle.runs.proofs.CheckLoop.{Checked}
use Rattle.runs.proofs.reading.RunString.check.Given as goal

abbrev pub invariant-loop-run : goal.invariant-loop-run
invariant-loop-run l = Checked l.self.v l.all l.self.octets.now l.run-iterator l.offset l.done
