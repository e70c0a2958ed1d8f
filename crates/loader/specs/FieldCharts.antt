-- What the chart of a field shows.
use Rattle.std.specs.Prelude.{◌≡◌, ℕ, List, Ok, Err, Result}
use Rattle.format.specs.Refusals.{refusal}
use Rattle.format.specs.declared.fault.Fault.{Fault}
use Rattle.format.specs.declared.fault.Refusal.{Refusal}
use Rattle.charts.specs.Pictures.{Picture, Lawful, pictured}
use Rattle.runs.specs.Handed.{cells_in}
use Rattle.messages.specs.declared.field.Field.{Field}
use Rattle.messages.specs.Lawful.{levels_of}
use Rattle.loader.specs.declared.packed.Packed.{Packed}

abbrev pub field_picture : Field (List ℕ) → Picture
field_picture f = pictured f.frame.ni f.frame.nj (levels_of f)

abbrev pub packed_picture : Packed → Picture
packed_picture c = pictured c.size.width c.size.height (cells_in c.string)

pub packed_lawful : (c : Packed) → Lawful (packed_picture c)
packed_lawful c = record { sized = c.size.sized; full = c.full; octets = c.octets }

-- a chart is opened over what was asked for: the pictures before and after, and the answer; a refusal leaves the picture
-- as it was
abbrev pub Opened : Result Picture Refusal → Picture → Picture → Result (Unit {0}) Fault → Type 0
Opened (Ok p) before after (Ok _) = after ≡ p
Opened (Ok p) before after (Err e) = ⊥
Opened (Err x) before after (Ok _) = ⊥
Opened (Err x) before after (Err e) = (refusal e ≡ x) × (after ≡ before)
