-- Where the reader of a field's cells stands: the runs after the one that was answered last are ahead of it.
use Rattle.std.specs.Prelude.{◌≡◌, ℕ, ◌+◌, ◌<◌, ◌≤◌, List, length, drop, slice_index}
use Rattle.runs.specs.Runs.{loaded}
use Rattle.runs.specs.declared.reading.RunString.{RunString}

-- the cells that a string gives from a place on
abbrev pub cells_from : RunString → ℕ → List ℕ
cells_from s place = loaded s.v (drop place s.octets.now)

-- of n cells those before `end` are read, and the others are ahead
abbrev pub Left : List ℕ → ℕ → ℕ → Type 0
Left ahead n end = end + length ahead ≡ n

-- they are ahead with their levels
abbrev pub Rest : List ℕ → List ℕ → ℕ → Type 0
Rest cells ahead end = (k : ℕ) → slice_index cells (end + k) ≡ slice_index ahead k

-- the cells from `first` to before `end` have the level
abbrev pub Hand : List ℕ → ℕ → ℕ → ℕ → Type 0
Hand cells first end level = (k : ℕ) → first ≤ k → k < end → slice_index cells k ≡ level
