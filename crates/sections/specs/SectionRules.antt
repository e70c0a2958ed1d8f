-- The rules of each section.
use Rattle.std.specs.Prelude.{ℕ, List}
use Rattle.format.specs.declared.section.Section.{Section}
use Rattle.format.specs.declared.section.Section.TheVariants.{Identification, Frame, Product, Packing, Bitmap, Data}
use Rattle.sections.specs.declared.rules.Rule.{Rule}
use Rattle.sections.specs.Sections.{identification_rules, frame_rules, product_rules, packing_rules, bitmap_rules, data_rules}

-- what a section is checked for, under a frame of so many points
abbrev pub rules_of : Section → ℕ → List Rule
rules_of Identification n = identification_rules
rules_of Frame n = frame_rules
rules_of Product n = product_rules
rules_of Packing n = packing_rules n
rules_of Bitmap n = bitmap_rules
rules_of Data n = data_rules
