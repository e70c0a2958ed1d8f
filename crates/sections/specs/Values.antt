-- Which values the levels of a packing stand for.
use Rattle.std.specs.Prelude.{ℕ, zero, suc, ◌+◌, ◌*◌, List, [], ◌∷◌, ℤ, None, Option}
use Rattle.std.specs.Option.{option_map}
use Rattle.std.specs.List.{slice_get}
use Rattle.format.specs.Numbers.{signed}
use Rattle.sections.specs.declared.packing.Packing.{Packing}
use Rattle.sections.specs.declared.packing.Value.{Value}

-- R(1), R(2) and so on: signed numbers of two octets
abbrev pub values : List ℕ → List ℤ
values [] = []
values (a ∷ []) = []
values (a ∷ b ∷ t) = signed 32768 (a * 256 + b) ∷ values t

-- the value of a level, with the scale; level 0 has none, and no level above the last of the table has one
abbrev pub value_of : Packing (List ℕ) → ℕ → Option Value
value_of p zero = None
value_of p (suc m) = option_map (λ r. record { number = r; scale = p.scale }) (slice_get (values p.table) m)
