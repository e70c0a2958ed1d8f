-- What a message says.
use Rattle.std.specs.Prelude.{◌≡◌, ℕ, ◌<◌, List, map, ℤ, Ok}
use Rattle.std.specs.List.{AllByRecursion}
use Rattle.sections.specs.declared.frame.Frame.{Frame}
use Rattle.sections.specs.declared.identification.Identification.{Identification}
use Rattle.sections.specs.Values as table
use Rattle.messages.specs.declared.field.Field.{Field}
use Rattle.messages.specs.Messages.{Message, Means}
use Rattle.messages.specs.Composition.{IsMessage}
use Rattle.messages.specs.Lawful.{levels_of}

-- a field: its frame, its product, its scale, the values of its levels from 1 on, and the levels of its cells, row by row
pub record FieldContent : Type 0 where
  pub frame : Frame
  pub product : List ℕ
  pub scale : ℕ
  pub values : List ℤ
  pub levels : List ℕ

-- a message: its identification, and its fields in order
pub record Content : Type 0 where
  pub identification : Identification
  pub fields : List FieldContent

abbrev pub field_content : Field (List ℕ) → FieldContent
field_content f = record { frame = f.frame; product = f.product; scale = f.packing.scale; values = table.values f.packing.table; levels = levels_of f }

abbrev pub content_of : Message → Content
content_of m = record { identification = m.identification; fields = map field_content m.fields }

-- octets load with a content, and octets are a message of a content
pub record LoadsWith (s : List ℕ) (c : Content) : Type 0 where
  pub message : Message
  pub loads : Means s (Ok message)
  pub says : content_of message ≡ c

pub record IsMessageOf (s : List ℕ) (c : Content) : Type 0 where
  pub message : Message
  pub is : IsMessage s message
  pub says : content_of message ≡ c

-- octets load with a content exactly if they are a message of that content
abbrev pub ContentLaw : Type 0
ContentLaw = (s : List ℕ) (c : Content) → AllByRecursion (λ o. o < 256) s → (LoadsWith s c → IsMessageOf s c) × (IsMessageOf s c → LoadsWith s c)
