-- What each fault tells: one definition over the fault enum.
use Rattle.std.specs.Prelude.{ℕ, Result}
use Rattle.std.specs.Result.{result_map_both}
use Rattle.format.specs.declared.fault.Fault.{Fault}
use Rattle.format.specs.declared.fault.Fault.TheVariants.{Message, Section, Chart, Packer}
use Rattle.format.specs.declared.fault.InSection.{InSection}
use Rattle.format.specs.declared.fault.InSection.TheVariants as section
use Rattle.format.specs.declared.fault.InString.{InString}
use Rattle.format.specs.declared.fault.MessageFault.{MessageFault}
use Rattle.format.specs.declared.fault.MessageFault.TheVariants.{CutShort, Indicator, TotalLength, Order, AfterEnd}
use Rattle.format.specs.declared.fault.SectionFault.{SectionFault}
use Rattle.format.specs.declared.fault.SectionFault.TheVariants.{Length, Fixed, Template, Value}
use Rattle.format.specs.declared.fault.StringFault.{StringFault}
use Rattle.format.specs.declared.fault.StringFault.TheVariants.{DigitFirst, PastLastCell, OverEarly}
use Rattle.format.specs.declared.fault.ChartFault.{ChartFault}
use Rattle.format.specs.declared.fault.ChartFault.TheVariants.{NoField, Limits}
use Rattle.format.specs.declared.fault.PackerFault.{PackerFault}
use Rattle.format.specs.declared.fault.PackerFault.TheVariants.{Size, Level, Room}
use Rattle.format.specs.declared.fault.Layer.{Layer}
use Rattle.format.specs.declared.fault.Layer.TheVariants as layer
use Rattle.format.specs.declared.fault.Refusal.{Refusal}

-- a refusal's parts, in the order number, layer, place, fields, cells
abbrev pub told : ℕ → Layer → ℕ → ℕ → ℕ → Refusal
told n l p f c = record { number = n; layer = l; place = p; fields = f; cells = c }

-- the numbers of the message's faults, a section's, a string's, the charts' and the packer's
abbrev pub message_number : MessageFault → ℕ
message_number CutShort = 1
message_number Indicator = 2
message_number TotalLength = 3
message_number Order = 4
message_number AfterEnd = 5

abbrev pub section_number : SectionFault → ℕ
section_number Length = 6
section_number Fixed = 7
section_number Template = 8
section_number Value = 9

abbrev pub string_number : StringFault → ℕ
string_number DigitFirst = 10
string_number PastLastCell = 11
string_number OverEarly = 12

abbrev pub chart_number : ChartFault → ℕ
chart_number NoField = 13
chart_number Limits = 14

abbrev pub packer_number : PackerFault → ℕ
packer_number Size = 15
packer_number Level = 16
packer_number Room = 17

-- what a string's fault tells, what a section's tells, and what any fault tells: the charts' faults tell no fields
abbrev pub string_refusal : InString → Refusal
string_refusal e = told (string_number e.fault) layer.String e.at.place e.at.fields e.cells

abbrev pub section_refusal : InSection → Refusal
section_refusal (section.Own f n at) = told (section_number f) (layer.Section n) at.place at.fields 0
section_refusal (section.String e) = string_refusal e

abbrev pub refusal : Fault → Refusal
refusal (Message f at) = told (message_number f) layer.Message at.place at.fields 0
refusal (Section e) = section_refusal e
refusal (Chart f) = told (chart_number f) layer.Charts 0 0 0
refusal (Packer f at) = told (packer_number f) layer.Packer at.place at.fields 0

-- an answer with its fault as what that tells
abbrev pub refused : {X : Type 0} → Result X Fault → Result X Refusal
refused r = result_map_both (λ x. x) refusal r

abbrev pub refused_in_section : {X : Type 0} → Result X InSection → Result X Refusal
refused_in_section r = result_map_both (λ x. x) section_refusal r

abbrev pub refused_in_string : {X : Type 0} → Result X InString → Result X Refusal
refused_in_string r = result_map_both (λ x. x) string_refusal r
