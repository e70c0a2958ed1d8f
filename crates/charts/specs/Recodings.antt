-- A picture through a map of levels.
use Rattle.std.specs.Prelude.{ℕ, List, map, slice_index}
use Rattle.charts.specs.declared.recoding.Recoding.{Recoding}
use Rattle.charts.specs.Pictures.{Picture, pictured}

-- each level replaced by the table's entry for it
abbrev pub recoded : List ℕ → Picture → Picture
recoded table p = pictured p.width p.height (map (λ level. slice_index table level) p.levels)

abbrev pub recoding_picture : {C : Type 0} → (C → Picture) → Recoding C → Picture
recoding_picture picture c = recoded c.map.table (picture c.below)
