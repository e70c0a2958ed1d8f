use Rattle.runs.specs.Runs.{loaded}
use Rattle.runs.proofs.LengthLoop.{Counted}
use Rattle.runs.proofs.reading.RunString.canonical_length.Given as goal

abbrev pub invariant-loop-run : goal.invariant-loop-run
invariant-loop-run l = Counted (loaded l.self.v l.self.octets.now) l.highest l.run-iterator l.done l.octets l.level l.alike
