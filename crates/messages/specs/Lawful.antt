-- What holds of each field of a message that loads.
use Rattle.std.specs.Prelude.{◌≡◌, ℕ, ◌*◌, ◌<◌, ◌≤◌, true, List, length, Ok}
use Rattle.std.specs.List.{AllByRecursion}
use Rattle.format.specs.Limits.{Sized}
use Rattle.runs.specs.Runs.{loaded}
use Rattle.sections.specs.Positions.{covers}
use Rattle.sections.specs.Values.{values}
use Rattle.messages.specs.declared.field.Field.{Field}
use Rattle.messages.specs.Messages.{Message, Means}

-- the levels of a field's cells, row by row
abbrev pub levels_of : Field (List ℕ) → List ℕ
levels_of f = loaded f.packing.v f.string

-- its frame is within the limits, each of its cells has a level and a position, and its highest levels are within theirs
pub record LawfulField (f : Field (List ℕ)) : Type 0 where
  pub sized : Sized f.frame.ni f.frame.nj
  pub cells : length (levels_of f) ≡ f.frame.ni * f.frame.nj
  pub placed : (column row : ℕ) → column < f.frame.ni → row < f.frame.nj → covers f.frame column row ≡ true
  pub provided : f.packing.v ≤ length (values f.packing.table)
  pub valued : length (values f.packing.table) ≤ 252
  pub scaled : f.packing.scale ≤ 6

abbrev pub LawfulFields : Type 0
LawfulFields = (s : List ℕ) (m : Message) → Means s (Ok m) → AllByRecursion LawfulField m.fields
