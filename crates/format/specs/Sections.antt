-- The sections that have rules of their own.
use Rattle.std.specs.Prelude.{◌≡◌, ◌≢◌, ℕ, Ok, Err, Result}
use Rattle.format.specs.declared.section.Section.{Section}
use Rattle.format.specs.declared.section.Section.TheVariants.{Identification, Frame, Product, Packing, Bitmap, Data}
use Rattle.format.specs.declared.section.NoSection.{NoSection}

-- a section's number
abbrev pub number_of : Section → ℕ
number_of Identification = 1
number_of Frame = 3
number_of Product = 4
number_of Packing = 5
number_of Bitmap = 6
number_of Data = 7

-- a number names the section that has it, and none where no section has it
abbrev pub Names : ℕ → Result Section NoSection → Type 0
Names n (Ok s) = number_of s ≡ n
Names n (Err e) = (e.0 ≡ n) × ((s : Section) → number_of s ≢ n)
