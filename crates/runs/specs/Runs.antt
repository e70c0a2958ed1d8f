-- Run strings and the cells that they give. V is the highest level that a packing provides for: an octet up to V is
-- a level, and one above V is a digit of value octet - (V + 1).
use Rattle.std.specs.Prelude.{◌≡◌, ℕ, suc, ◌+◌, ◌-◌, ◌*◌, ◌<◌, ◌≤◌, max, if◌then◌else◌, List, [], ◌∷◌, ◌++◌, map, replicate, nat_le}
use Rattle.std.specs.List.{AllByRecursion}

-- how many values a digit has
abbrev pub base : ℕ → ℕ
base V = 255 - V

-- the values of the digits that a string begins with
unfoldable pub leading_digits : ℕ → List ℕ → List ℕ
leading_digits V [] = []
leading_digits V (o ∷ s) = if nat_le o V then [] else (o - suc V) ∷ leading_digits V s

-- the runs of a string: each a level, with the values of the digits after it
unfoldable pub runs : ℕ → List ℕ → List (ℕ × List ℕ)
runs V [] = []
runs V (o ∷ s) = if nat_le o V then (o, leading_digits V s) ∷ runs V s else runs V s

-- the number that digits of base L write, the least significant first
abbrev pub digits_value : ℕ → List ℕ → ℕ
digits_value L [] = 0
digits_value L (d ∷ ds) = d + L * digits_value L ds

-- a run as its level and the number of its cells past the first
abbrev pub measured : ℕ → ℕ × List ℕ → ℕ × ℕ
measured V r = (r.0, digits_value (base V) r.1)

-- the cells of measured runs
abbrev pub cells_of : List (ℕ × ℕ) → List ℕ
cells_of [] = []
cells_of (r ∷ rs) = replicate (suc r.1) r.0 ++ cells_of rs

-- the cells that a string gives
abbrev pub loaded : ℕ → List ℕ → List ℕ
loaded V s = cells_of (map (measured V) (runs V s))

-- a string begins with a level
abbrev pub Begins : ℕ → List ℕ → Type 0
Begins V [] = ⊥
Begins V (o ∷ s) = o ≤ V

-- a string is loadable, as these cells
pub record Loadable (V : ℕ) (cells s : List ℕ) : Type 0 where
  pub octets : AllByRecursion (λ o. o < 256) s
  pub begins : Begins V s
  pub gives : loaded V s ≡ cells

-- the highest level among cells, and 0 if there are none
abbrev pub highest : List ℕ → ℕ
highest [] = 0
highest (c ∷ cs) = max c (highest cs)
