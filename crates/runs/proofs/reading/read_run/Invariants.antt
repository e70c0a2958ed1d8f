use Rattle.std.proofs.Common.{◌-◌, length}
use Rattle.runs.proofs.DigitLoop.{Reading}
use Rattle.runs.proofs.reading.read_run.Given as goal

abbrev pub invariant-loop-place : goal.invariant-loop-place
invariant-loop-place l = Reading 4_294_967_296 l.v l.string l.at l.cells l.weight l.place

abbrev pub decreases-loop-place : goal.decreases-loop-place
decreases-loop-place l = length l.string - l.place
