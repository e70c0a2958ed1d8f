-- A section's checks as a list in octet order, and the first that fails.
use Rattle.std.specs.Prelude.{◌≡◌, ℕ, ◌+◌, ◌-◌, ◌*◌, Bool, true, false, if◌then◌else◌, ◌&&◌, ◌||◌, List, [], ◌∷◌, ◌++◌, map, length, ℤ, Some, None, Ok, Err, Option, Result, ◌==◌, int_lt, nat_eq, nat_le, nat_lt, unsigned_abs}
use Rattle.std.specs.List.{AllByRecursion}
use Rattle.std.specs.Ordering.{int_eq}
use Rattle.format.specs.Numbers.{field, signed}
use Rattle.format.specs.Refusals.{told}
use Rattle.format.specs.declared.fault.Layer.{Layer}
use Rattle.format.specs.declared.fault.Refusal.{Refusal}
use Rattle.sections.specs.declared.rules.Rule.{Rule}
use Rattle.sections.specs.declared.rules.Rule.TheVariants as rule
use Rattle.sections.specs.Calendar.{days_in}

-- what a failed check tells: the refusal's number, and the octet, counted from 1
pub record Flaw : Type 0 where
  pub number : ℕ
  pub octet : ℕ

-- a check: its test, and what is told where the test fails
pub record Check : Type 0 where
  pub tells : Flaw
  pub passes : List ℕ → Bool

abbrev pub check : ℕ → ℕ → (List ℕ → Bool) → Check
check number octet test = record { tells = record { number = number; octet = octet }; passes = test }

-- what the first check of the list that fails tells
abbrev pub judge : List Check → List ℕ → Option Flaw
judge [] s = None
judge (c ∷ cs) s = if c.passes s then judge cs s else Some c.tells

-- a verdict as an answer, of a layer whose octets begin at a place, where some fields are finished
abbrev pub judged : {X : Type 0} → Layer → ℕ → ℕ → Option Flaw → X → Result X Refusal
judged layer place fields None x = Ok x
judged layer place fields (Some f) x = Err (told f.number layer (place + (f.octet - 1)) fields 0)

-- t is told by the first check of the list that fails
pub record FirstFails (cs : List Check) (s : List ℕ) (t : Flaw) : Type 0 where
  pub before : List Check
  pub here : Check
  pub after : List Check
  pub split : cs ≡ before ++ (here ∷ after)
  pub passed : AllByRecursion (λ c. c.passes s ≡ true) before
  pub failed : here.passes s ≡ false
  pub tells : t ≡ here.tells

-- the verdict is that of the first check that fails, and none exactly if no check fails
pub record FirstDecides : Type 0 where
  pub some : (cs : List Check) (s : List ℕ) (t : Flaw) → (judge cs s ≡ Some t → FirstFails cs s t) × (FirstFails cs s t → judge cs s ≡ Some t)
  pub none : (cs : List Check) (s : List ℕ) → (judge cs s ≡ None → AllByRecursion (λ c. c.passes s ≡ true) cs) × (AllByRecursion (λ c. c.passes s ≡ true) cs → judge cs s ≡ None)

-- the product templates that are known, and the length of section 4 that each sets
abbrev pub known_product : ℕ → Bool
known_product t = t == 0 || (t == 50008 || (t == 50011 || t == 50009))

abbrev pub product_length : List ℕ → ℕ
product_length s = if field s 8 2 == 0 then 34 else if field s 8 2 == 50009 then 85 + 2 * field s 83 2 else 82

-- the latitude in four octets
abbrev pub latitude_at : List ℕ → ℕ → ℤ
latitude_at s octet = signed 2147483648 (field s octet 4)

-- the check of each rule: refusal 6 for a length, 7 for a field of one value, 8 for a template, 9 for any other field
abbrev pub check_of : Rule → Check
check_of (rule.Length n) = check 6 1 (λ s. nat_eq (length s) n)
check_of (rule.LengthFrom n) = check 6 1 (λ s. nat_le n (length s))
check_of rule.ProductLength = check 6 1 (λ s. nat_eq (length s) (product_length s))
check_of rule.TableLength = check 6 1 (λ s. nat_eq (length s) (17 + 2 * field s 15 2))
check_of (rule.Fixed r) = check 7 r.octet (λ s. nat_eq (field s r.octet r.width) r.value)
check_of (rule.Template r) = check 8 r.octet (λ s. nat_eq (field s r.octet r.width) r.value)
check_of (rule.ProductTemplate octet) = check 8 octet (λ s. known_product (field s octet 2))
check_of (rule.Equals r) = check 9 r.octet (λ s. nat_eq (field s r.octet r.width) r.value)
check_of (rule.Within octet width low high) = check 9 octet (λ s. nat_le low (field s octet width) && nat_le (field s octet width) high)
check_of (rule.AtMost octet most) = check 9 octet (λ s. nat_le (field s octet 2) (field s most 2))
check_of (rule.Day octet year month) = check 9 octet (λ s. nat_le 1 (field s octet 1) && nat_le (field s octet 1) (days_in (field s year 2) (field s month 1)))
check_of (rule.Latitude octet) = check 9 octet (λ s. nat_le (unsigned_abs (latitude_at s octet)) 90000000)
check_of (rule.Cells octet columns points) = check 9 octet (λ s. nat_eq (field s columns 4 * field s octet 4) (field s points 4))
check_of (rule.South octet first count) = check 9 octet (λ s. if field s count 4 == 1 then int_eq (latitude_at s octet) (latitude_at s first) else int_lt (latitude_at s octet) (latitude_at s first))
check_of (rule.East octet first count) = check 9 octet (λ s. if field s count 4 == 1 then field s octet 4 == field s first 4 else nat_lt (field s first 4) (field s octet 4))

abbrev pub checks_for : List Rule → List Check
checks_for rules = map check_of rules
