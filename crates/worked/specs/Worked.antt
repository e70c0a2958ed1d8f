-- Worked cases: strings, refusals, values and positions.
use Rattle.std.specs.Prelude.{◌≡◌, ℕ, List, [], ◌∷◌, replicate, pos, negsuc, Some}
use Rattle.runs.specs.Runs.{Loadable, highest}
use Rattle.runs.specs.Canonical.{canonical}
use Rattle.runs.specs.StringFaults.{flaw, fault}
use Rattle.sections.specs.declared.frame.Frame.{Frame}
use Rattle.sections.specs.Positions.{latitude_of}
use Rattle.sections.specs.Values.{values}

-- a string of cells at the V that is its highest level
pub record Packs (V : ℕ) (cells s : List ℕ) : Type 0 where
  pub reaches : highest cells ≡ V
  pub string : canonical cells ≡ s

pub record Worked : Type 0 where
  -- strings
  pub five : Packs 2 (0 ∷ 0 ∷ 0 ∷ 2 ∷ 2 ∷ []) (0x00 ∷ 0x05 ∷ 0x02 ∷ 0x04 ∷ [])
  pub many : Packs 0 (replicate 8_601_600 0) (0x00 ∷ 0xC3 ∷ 0x48 ∷ 0x85 ∷ [])
  pub rain : Packs 98 (replicate 158 98) (0x62 ∷ 0x63 ∷ 0x64 ∷ [])
  pub split : Loadable 98 (replicate 158 98) (0x62 ∷ 0xFF ∷ 0x62 ∷ [])
  pub three : Packs 252 (replicate 3 252) (0xFC ∷ 0xFF ∷ [])
  pub four : Packs 252 (replicate 4 252) (0xFC ∷ 0xFD ∷ 0xFE ∷ [])
  -- refusals: number, place in the string, cells finished
  pub digit : fault 2 1 (0x03 ∷ []) ≡ Some (flaw 10 0 0)
  pub past : fault 2 2 (0x00 ∷ 0x05 ∷ []) ≡ Some (flaw 11 0 0)
  pub early : fault 2 3 (0x00 ∷ 0x04 ∷ []) ≡ Some (flaw 12 2 2)
  -- table entries: -100 and 0
  pub minus : values (0x80 ∷ 0x64 ∷ []) ≡ negsuc 99 ∷ []
  pub zero : values (0x80 ∷ 0x00 ∷ []) ≡ pos 0 ∷ []
  -- latitudes of 3360 rows
  pub second : (f : Frame) → f.nj ≡ 3360 → f.la1 ≡ pos 47995833 → f.la2 ≡ pos 20004167 → latitude_of f 2 ≡ pos 47979166
  pub last : (f : Frame) → f.nj ≡ 3360 → f.la1 ≡ pos 47995833 → f.la2 ≡ pos 20004167 → latitude_of f 3359 ≡ pos 20004167
