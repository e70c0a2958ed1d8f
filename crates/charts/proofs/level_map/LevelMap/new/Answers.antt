use Rattle.std.proofs.Common.{arith}
use Rattle.charts.specs.Lawfulness.{zeros}
use Rattle.charts.proofs.level_map.LevelMap.new.Goals as goal

pub invariant_of-result : goal.invariant_of-result
invariant_of-result c = record { octets = λ k. omega (arith, zeros 256 k) }
