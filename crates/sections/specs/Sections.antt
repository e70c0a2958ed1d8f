-- What each section is checked for, in order, and what it says.
use Rattle.std.specs.Prelude.{ℕ, min, List, [], ◌∷◌, drop}
use Rattle.std.specs.Borrow.{Bor}
use Rattle.format.specs.Numbers.{field}
use Rattle.sections.specs.declared.rules.Row.{Row}
use Rattle.sections.specs.declared.rules.Rule.{Rule}
use Rattle.sections.specs.declared.rules.Rule.TheVariants.{Length, LengthFrom, ProductLength, TableLength, Fixed, Template, ProductTemplate, Equals, Within, AtMost, Day, Latitude, Cells, South, East}
use Rattle.sections.specs.declared.identification.Identification.{Identification}
use Rattle.sections.specs.declared.frame.Frame.{Frame}
use Rattle.sections.specs.declared.packing.Packing.{Packing}
use Rattle.sections.specs.Rules.{latitude_at}

abbrev pub row : ℕ → ℕ → ℕ → Row
row octet width value = record { octet = octet; width = width; value = value }

-- section 1
unfoldable pub identification_rules : List Rule
identification_rules =
    Length 21 ∷ Fixed (row 6 2 34) ∷ Within 13 2 1 9999 ∷ Within 15 1 1 12 ∷ Day 16 13 15 ∷
    Within 17 1 0 23 ∷ Within 18 1 0 59 ∷ Within 19 1 0 59 ∷ []

abbrev pub identification_of : List ℕ → Identification
identification_of s = record {
  centre = field s 6 2;
  subcentre = field s 8 2;
  tables = field s 10 1;
  local = field s 11 1;
  meaning = field s 12 1;
  year = field s 13 2;
  month = field s 15 1;
  day = field s 16 1;
  hour = field s 17 1;
  minute = field s 18 1;
  second = field s 19 1;
  status = field s 20 1;
  kind = field s 21 1;
}

-- section 3
unfoldable pub frame_rules : List Rule
frame_rules =
    Length 72 ∷ Fixed (row 6 1 0) ∷ Within 7 4 1 33554432 ∷ Fixed (row 11 1 0) ∷ Fixed (row 12 1 0) ∷ Template (row 13 2 0) ∷
    Fixed (row 15 1 4) ∷ Fixed (row 16 1 255) ∷ Fixed (row 17 4 0xFFFF_FFFF) ∷ Fixed (row 21 1 1) ∷ Fixed (row 22 4 63781370) ∷
    Fixed (row 26 1 1) ∷ Fixed (row 27 4 63567523) ∷ Within 31 4 1 16384 ∷ Within 35 4 1 16384 ∷ Cells 35 31 7 ∷
    Fixed (row 39 4 0) ∷ Fixed (row 43 4 0xFFFF_FFFF) ∷ Latitude 47 ∷ Within 51 4 0 360000000 ∷ Fixed (row 55 1 0x30) ∷
    Latitude 56 ∷ South 56 47 35 ∷ Within 60 4 0 360000000 ∷ East 60 51 31 ∷ Fixed (row 72 1 0) ∷ []

abbrev pub frame_of : List ℕ → Frame
frame_of s = record {
  ni = field s 31 4;
  nj = field s 35 4;
  la1 = latitude_at s 47;
  lo1 = field s 51 4;
  la2 = latitude_at s 56;
  lo2 = field s 60 4;
  di = field s 64 4;
  dj = field s 68 4;
}

-- section 4: the product is all from its octet 6 on
unfoldable pub product_rules : List Rule
product_rules = LengthFrom 9 ∷ Fixed (row 6 2 0) ∷ ProductTemplate 8 ∷ ProductLength ∷ []

-- section 5, under a frame of so many points: V is its octets 13 and 14, M 15 and 16, E 17, and the table all from octet 18 on
unfoldable pub packing_rules : ℕ → List Rule
packing_rules n =
    LengthFrom 17 ∷ Equals (row 6 4 n) ∷ Template (row 10 2 200) ∷ Fixed (row 12 1 8) ∷ AtMost 13 15 ∷ Within 15 2 1 252 ∷
    Within 17 1 0 6 ∷ TableLength ∷ []

abbrev pub packing_of : List ℕ → Packing (List ℕ)
packing_of s = record { v = min (field s 13 2) 255; scale = field s 17 1; table = drop 17 s }

-- section 6
unfoldable pub bitmap_rules : List Rule
bitmap_rules = Length 6 ∷ Fixed (row 6 1 255) ∷ []

-- section 7: the string is all from its octet 6 on
unfoldable pub data_rules : List Rule
data_rules = LengthFrom 5 ∷ []

-- what stands after a section's length and number
abbrev pub content : List ℕ → List ℕ
content s = drop 5 s

-- a packing whose table is a part of the octets, as the octets themselves
abbrev pub held_packing : Packing (Bor (List ℕ)) → Packing (List ℕ)
held_packing p = record { v = p.v; scale = p.scale; table = p.table.now }
