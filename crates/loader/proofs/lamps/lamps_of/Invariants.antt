use Rattle.std.proofs.Common.{◌≡◌, ℕ, ◌<◌, length, get_or}
use Rattle.sections.specs.Sections.{held_packing}
use Rattle.sections.specs.Values.{value_of}
use Rattle.loader.specs.Lamps.{lamp}
use Rattle.loader.proofs.lamps.lamps_of.Given as goal

abbrev pub invariant-loop-code : goal.invariant-loop-code
invariant-loop-code l =
    (length l.map.table ≡ 256)
    × ((k : ℕ) → k < l.code → get_or l.map.table k 0 ≡ lamp l.bounds (value_of (held_packing l.packing) k))
