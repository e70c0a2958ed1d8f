-- What the octets of a message mean, by rules: one for each case.
use Rattle.std.specs.Prelude.{◌≡◌, ℕ, ◌+◌, ◌-◌, ◌<◌, ◌≤◌, List, [], ◌∷◌, ◌++◌, length, take, drop, Some, None, Ok, Err, Option, Result, nat_eq, nat_le, slice_index}
use Rattle.format.specs.Numbers.{number, field}
use Rattle.format.specs.Refusals.{told}
use Rattle.format.specs.declared.section.Section.{Section}
use Rattle.format.specs.declared.section.Section.TheVariants as section
use Rattle.format.specs.Sections.{number_of}
use Rattle.format.specs.declared.fault.Layer.TheVariants as layer
use Rattle.format.specs.declared.fault.Refusal.{Refusal}
use Rattle.runs.specs.StringFaults as string
use Rattle.sections.specs.declared.identification.Identification.{Identification}
use Rattle.sections.specs.declared.rules.Rule.{Rule}
use Rattle.sections.specs.Rules.{Check, Flaw, check, judge, checks_for}
use Rattle.sections.specs.SectionRules as tables
use Rattle.sections.specs.Sections.{identification_of, frame_of, packing_of, content}
use Rattle.messages.specs.declared.field.Field.{Field}
use Rattle.messages.specs.declared.field.Grid.{Grid}
use Rattle.messages.specs.declared.order.Last.{Last}
use Rattle.messages.specs.declared.order.Last.TheVariants as last
use Rattle.messages.specs.declared.order.Due.{Due}
use Rattle.messages.specs.declared.order.Due.TheVariants as due
use Rattle.messages.specs.Order.{follows}

-- a message that loads: its identification, and its fields in order
pub record Message : Type 0 where
  pub identification : Identification
  pub fields : List (Field (List ℕ))

-- what loading gives: a message, or why it is refused
abbrev pub Outcome : Type 0
Outcome = Result Message Refusal

-- section 0, with the refusals 1, 2 and 3: the message's first 16 octets are GRIB, two octets of all ones, 0, 2 and the
-- total length
abbrev pub head_checks : List Check
head_checks =
    check 1 1 (λ s. nat_le 16 (length s)) ∷
    check 2 1 (λ s. nat_eq (field s 1 4) 0x47524942) ∷
    check 2 5 (λ s. nat_eq (field s 5 2) 0xFFFF) ∷
    check 2 7 (λ s. nat_eq (field s 7 1) 0) ∷
    check 2 8 (λ s. nat_eq (field s 8 1) 2) ∷
    check 3 9 (λ s. nat_eq (field s 9 8) (length s)) ∷
    check 3 9 (λ s. nat_le (length s) 134217728) ∷ []

-- the length that a section states in its first four octets
abbrev pub stated : List ℕ → ℕ
stated r = number (take 4 r)

-- the end mark, 7777
abbrev pub mark : List ℕ
mark = 55 ∷ 55 ∷ 55 ∷ 55 ∷ []

-- the end mark stands here: it is looked for only after a section 7
abbrev pub Ended : Last (List ℕ) → List ℕ → Type 0
Ended last.Head r = ⊥
Ended last.Identification r = ⊥
Ended (last.Frame g) r = ⊥
Ended (last.Product g p) r = ⊥
Ended (last.Packing g p k) r = ⊥
Ended (last.Bitmap g p k) r = ⊥
Ended (last.Data g) r = take 4 r ≡ mark

-- a frame section's frame and points
abbrev pub grid_of : List ℕ → Grid
grid_of s = record { frame = frame_of s; points = field s 7 4 }

-- which section is due
abbrev pub section_of : {P : Type 0} → Due P → Section
section_of due.Identification = section.Identification
section_of due.Frame = section.Frame
section_of (due.Product g) = section.Product
section_of (due.Packing g p) = section.Packing
section_of (due.Bitmap g p k) = section.Bitmap
section_of (due.Data g p k) = section.Data

-- the points of the frame that it stands under: 0 before the first
abbrev pub points_of : {P : Type 0} → Due P → ℕ
points_of due.Identification = 0
points_of due.Frame = 0
points_of (due.Product g) = g.points
points_of (due.Packing g p) = g.points
points_of (due.Bitmap g p k) = g.points
points_of (due.Data g p k) = g.points

abbrev pub rules_of : {P : Type 0} → Due P → List Rule
rules_of d = tables.rules_of (section_of d) (points_of d)

-- the first fault of a section's string, for as many cells as the frame has points
abbrev pub string_fault : Due (List ℕ) → List ℕ → Option string.Flaw
string_fault due.Identification s = None
string_fault due.Frame s = None
string_fault (due.Product g) s = None
string_fault (due.Packing g p) s = None
string_fault (due.Bitmap g p k) s = None
string_fault (due.Data g p k) s = string.fault k.v g.points (content s)

-- what a section leaves for those after it
abbrev pub leaves : Due (List ℕ) → List ℕ → Last (List ℕ)
leaves due.Identification s = last.Identification
leaves due.Frame s = last.Frame (grid_of s)
leaves (due.Product g) s = last.Product g (content s)
leaves (due.Packing g p) s = last.Packing g p (packing_of s)
leaves (due.Bitmap g p k) s = last.Bitmap g p k
leaves (due.Data g p k) s = last.Data g

-- the field that a section finishes
abbrev pub finishes : Due (List ℕ) → List ℕ → List (Field (List ℕ))
finishes due.Identification s = []
finishes due.Frame s = []
finishes (due.Product g) s = []
finishes (due.Packing g p) s = []
finishes (due.Bitmap g p k) s = []
finishes (due.Data g p k) s = record { frame = g.frame; product = p; packing = k; string = content s } ∷ []

-- the fields that the octets from a place on add, or why they are refused
abbrev pub Fields : Type 0
Fields = Result (List (Field (List ℕ))) Refusal

-- a refusal of the message, of a section and of a string
abbrev pub of_message : ℕ → ℕ → ℕ → Refusal
of_message n place fields = told n layer.Message place fields 0

abbrev pub of_section : ℕ → Flaw → ℕ → ℕ → Refusal
of_section section f place fields = told f.number (layer.Section section) (place + (f.octet - 1)) fields 0

abbrev pub of_string : string.Flaw → ℕ → ℕ → Refusal
of_string f place fields = told f.number layer.String (place + f.place) fields f.cells

-- Reading goes on from the section just read, the place, the fields finished, and the octets left. Where the end mark
-- stands, the message is whole or has octets after it. Elsewhere a section begins: it is cut short, out of order, longer
-- than what is left, flawed, has a faulty string, or is sound, and then reading goes on after it.
pub data Reads : Last (List ℕ) → ℕ → List (Field (List ℕ)) → List ℕ → Fields → Type 0 where
  whole : {l : Last (List ℕ)} {p : ℕ} {fs : List (Field (List ℕ))} {r : List ℕ}
      → Ended l r → length r ≡ 4 → Reads l p fs r (Ok fs)
  trailing : {l : Last (List ℕ)} {p : ℕ} {fs : List (Field (List ℕ))} {r : List ℕ}
      → Ended l r → 4 < length r → Reads l p fs r (Err (of_message 5 (p + 4) (length fs)))
  short : {l : Last (List ℕ)} {p : ℕ} {fs : List (Field (List ℕ))} {r : List ℕ}
      → (Ended l r → ⊥) → length r < 5 → Reads l p fs r (Err (of_message 1 p (length fs)))
  disorder : {l : Last (List ℕ)} {p : ℕ} {fs : List (Field (List ℕ))} {r : List ℕ}
      → (Ended l r → ⊥) → 5 ≤ length r → follows l (slice_index r 4) ≡ None → Reads l p fs r (Err (of_message 4 (p + 4) (length fs)))
  overlong : {l : Last (List ℕ)} {p : ℕ} {fs : List (Field (List ℕ))} {r : List ℕ} {d : Due (List ℕ)}
      → (Ended l r → ⊥) → 5 ≤ length r → follows l (slice_index r 4) ≡ Some d → length r < stated r → Reads l p fs r (Err (of_message 1 p (length fs)))
  flawed : {l : Last (List ℕ)} {p : ℕ} {fs : List (Field (List ℕ))} {r : List ℕ} {d : Due (List ℕ)} {f : Flaw}
      → (Ended l r → ⊥) → 5 ≤ length r → follows l (slice_index r 4) ≡ Some d → stated r ≤ length r
      → judge (checks_for (rules_of d)) (take (stated r) r) ≡ Some f → Reads l p fs r (Err (of_section (number_of (section_of d)) f p (length fs)))
  faulty : {l : Last (List ℕ)} {p : ℕ} {fs : List (Field (List ℕ))} {r : List ℕ} {d : Due (List ℕ)} {f : string.Flaw}
      → (Ended l r → ⊥) → 5 ≤ length r → follows l (slice_index r 4) ≡ Some d → stated r ≤ length r
      → judge (checks_for (rules_of d)) (take (stated r) r) ≡ None → string_fault d (take (stated r) r) ≡ Some f
      → Reads l p fs r (Err (of_string f (p + 5) (length fs)))
  sound : {l : Last (List ℕ)} {p : ℕ} {fs : List (Field (List ℕ))} {r : List ℕ} {d : Due (List ℕ)} {o : Fields}
      → (Ended l r → ⊥) → 5 ≤ length r → follows l (slice_index r 4) ≡ Some d → stated r ≤ length r
      → judge (checks_for (rules_of d)) (take (stated r) r) ≡ None → string_fault d (take (stated r) r) ≡ None
      → Reads (leaves d (take (stated r) r)) (p + stated r) (fs ++ finishes d (take (stated r) r)) (drop (stated r) r) o
      → Reads l p fs r o

-- the message of the fields read: its identification is what section 1 says, which is octets 17 to 37
abbrev pub message_of : List ℕ → Fields → Outcome
message_of s (Ok fs) = Ok (record { identification = identification_of (take 21 (drop 16 s)); fields = fs })
message_of s (Err e) = Err e

-- the outcome of a whole message: section 0, and then the sections after it
pub data Means : List ℕ → Outcome → Type 0 where
  headless : {s : List ℕ} {f : Flaw} → judge head_checks s ≡ Some f → Means s (Err (of_message f.number (f.octet - 1) 0))
  headed : {s : List ℕ} {o : Fields} → judge head_checks s ≡ None → Reads last.Head 16 [] (drop 16 s) o → Means s (message_of s o)
