-- A loadable message in the subject's words: which sections it is made of, and what they mean.
use Rattle.std.specs.Prelude.{◌≡◌, ℕ, ◌<◌, ◌≤◌, true, List, [], ◌∷◌, ◌++◌, length, take, Some, None, Ok, Option, slice_index_or}
use Rattle.std.specs.List.{AllByRecursion}
use Rattle.runs.specs.StringFaults as string
use Rattle.sections.specs.declared.rules.Rule.{Rule}
use Rattle.sections.specs.Rules.{checks_for}
use Rattle.sections.specs.Sections.{identification_rules, identification_of, frame_rules, product_rules, packing_rules, packing_of, bitmap_rules, data_rules, content}
use Rattle.messages.specs.declared.field.Field.{Field}
use Rattle.messages.specs.declared.field.Grid.{Grid}
use Rattle.messages.specs.Messages.{Message, Means, head_checks, stated, mark, grid_of}

-- a section: its first four octets state its length, the fifth is its number, and it keeps each of its rules
pub record IsSection (number : ℕ) (rules : List Rule) (s : List ℕ) : Type 0 where
  pub long : 5 ≤ length s
  pub states : stated s ≡ length s
  pub numbered : slice_index_or s 4 0 ≡ number
  pub keeps : AllByRecursion (λ c. c.passes s ≡ true) (checks_for rules)

-- the octets of a field under a frame: sections 4, 5, 6 and 7, whose string loads as the frame's points; and what they mean
pub record IsField (g : Grid) (s : List ℕ) (f : Field (List ℕ)) : Type 0 where
  pub product : List ℕ
  pub packing : List ℕ
  pub bitmap : List ℕ
  pub levels : List ℕ
  pub octets : s ≡ product ++ (packing ++ (bitmap ++ levels))
  pub four : IsSection 4 product_rules product
  pub five : IsSection 5 (packing_rules g.points) packing
  pub six : IsSection 6 bitmap_rules bitmap
  pub seven : IsSection 7 data_rules levels
  pub loads : string.Loads (packing_of packing).v g.points (content levels)
  pub means : f ≡ record { frame = g.frame; product = content product; packing = packing_of packing; string = content levels }

-- fields one after another, each with a frame section of its own or under the latest one, if there is one
pub data AreFields : Option Grid → List ℕ → List (Field (List ℕ)) → Type 0 where
  none : {g : Option Grid} {s : List ℕ} {fs : List (Field (List ℕ))} → s ≡ [] → fs ≡ [] → AreFields g s fs
  own : {g : Option Grid} {s frame body rest : List ℕ} {f : Field (List ℕ)} {more fs : List (Field (List ℕ))}
      → IsSection 3 frame_rules frame → IsField (grid_of frame) body f → AreFields (Some (grid_of frame)) rest more
      → s ≡ frame ++ (body ++ rest) → fs ≡ f ∷ more → AreFields g s fs
  under : {g : Option Grid} {latest : Grid} {s body rest : List ℕ} {f : Field (List ℕ)} {more fs : List (Field (List ℕ))}
      → g ≡ Some latest → IsField latest body f → AreFields (Some latest) rest more
      → s ≡ body ++ rest → fs ≡ f ∷ more → AreFields g s fs

-- section 0 with the right total, section 1, one or more fields, and the end mark
pub record IsMessage (s : List ℕ) (m : Message) : Type 0 where
  pub identification : List ℕ
  pub fields : List ℕ
  pub octets : s ≡ take 16 s ++ (identification ++ (fields ++ mark))
  pub zero : AllByRecursion (λ c. c.passes s ≡ true) head_checks
  pub one : IsSection 1 identification_rules identification
  pub are : AreFields None fields m.fields
  pub some : 0 < length m.fields
  pub says : m.identification ≡ identification_of identification

-- octets load as a message exactly if they are one
abbrev pub Composition : Type 0
Composition = (s : List ℕ) (m : Message) → AllByRecursion (λ o. o < 256) s → (Means s (Ok m) → IsMessage s m) × (IsMessage s m → Means s (Ok m))
