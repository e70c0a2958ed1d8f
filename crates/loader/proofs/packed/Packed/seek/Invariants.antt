use Rattle.std.proofs.Common.{◌≡◌, ◌+◌, ◌-◌, ◌≤◌}
use Rattle.loader.specs.FieldCharts.{packed_picture}
use Rattle.loader.proofs.packed.Packed.seek.Given as goal

abbrev pub invariant-loop-self : goal.invariant-loop-self
invariant-loop-self l = (packed_picture l.self ≡ packed_picture l.initial.self) × (l.self.first ≤ l.cell) × (l.initial.self.place ≤ l.self.place)

abbrev pub decreases-loop-self : goal.decreases-loop-self
decreases-loop-self l = l.cell + 1 - l.self.end
