-- The lamps that the levels of a field light.
use Rattle.std.specs.Prelude.{ℕ, suc, ◌*◌, ◌^◌, Bool, List, [], ◌∷◌, map, pos, Some, None, count_by, Option, Result, int_le}
use Rattle.std.specs.List.{range_with_len}
use Rattle.std.specs.Result.{result_map_both}
use Rattle.format.specs.Refusals.{refusal}
use Rattle.format.specs.declared.fault.Fault.{Fault}
use Rattle.format.specs.declared.fault.Refusal.{Refusal}
use Rattle.charts.specs.declared.level_map.LevelMap.{LevelMap}
use Rattle.sections.specs.declared.packing.Packing.{Packing}
use Rattle.sections.specs.declared.packing.Value.{Value}
use Rattle.sections.specs.Values.{value_of}
use Rattle.messages.specs.declared.field.Field.{Field}

-- in millimetres
abbrev pub lamp_bounds : List ℕ
lamp_bounds = 1 ∷ 5 ∷ 10 ∷ 20 ∷ 30 ∷ 50 ∷ 80 ∷ []

-- a value is at least a bound
abbrev pub reaches : Value → ℕ → Bool
reaches v bound = int_le (pos (bound * 10 ^ v.scale)) v.number

-- no lamp without a value, and else one more than the number of bounds that the value reaches
abbrev pub lamp : List ℕ → Option Value → ℕ
lamp bounds None = 0
lamp bounds (Some v) = suc (count_by (reaches v) bounds)

-- the lamps of the levels from 0 to 255
unfoldable pub lamps_of : List ℕ → Packing (List ℕ) → List ℕ
lamps_of bounds p = map (λ level. lamp bounds (value_of p level)) (range_with_len 0 256)

abbrev pub lamp_table : Field (List ℕ) → List ℕ
lamp_table f = lamps_of lamp_bounds f.packing

-- an answer that is a map, as its table
abbrev pub map_answer : Result LevelMap Fault → Result (List ℕ) Refusal
map_answer r = result_map_both (λ m. m.table) refusal r
