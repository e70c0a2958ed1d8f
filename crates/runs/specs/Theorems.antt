-- The laws of strings, for all strings and cells.
use Rattle.std.specs.Prelude.{◌≡◌, ℕ, ◌<◌, ◌≤◌, List, length, None}
use Rattle.std.specs.List.{AllByRecursion}
use Rattle.runs.specs.Runs.{highest, Loadable}
use Rattle.runs.specs.Canonical.{IsCanonical, canonical, Packable}
use Rattle.runs.specs.StringFaults.{fault, Exactly}

-- the check refuses exactly the strings that are not loadable
abbrev pub FaultlessLoads : Type 0
FaultlessLoads = (V n : ℕ) (s : List ℕ) → 0 < n → AllByRecursion (λ o. o < 256) s → Exactly V n s

abbrev pub CanonicalLoads : Type 0
CanonicalLoads = (cells : List ℕ) → Packable cells → Loadable (highest cells) cells (canonical cells)

abbrev pub CanonicalIsCanonical : Type 0
CanonicalIsCanonical = (cells : List ℕ) → Packable cells → IsCanonical (highest cells) cells (canonical cells)

abbrev pub CanonicalIsOne : Type 0
CanonicalIsOne = (V : ℕ) (cells s : List ℕ) → Packable cells → Loadable V cells s → IsCanonical V cells s → s ≡ canonical cells

abbrev pub CanonicalIsShortest : Type 0
CanonicalIsShortest = (V : ℕ) (cells s : List ℕ) → highest cells ≤ V → V ≤ 252 → Loadable V cells s → length (canonical cells) ≤ length s

abbrev pub CanonicalFaultless : Type 0
CanonicalFaultless = (cells : List ℕ) → Packable cells → fault (highest cells) (length cells) (canonical cells) ≡ None

pub record CanonicalLaws : Type 0 where
  pub loads : CanonicalLoads
  pub is : CanonicalIsCanonical
  pub only : CanonicalIsOne
  pub shortest : CanonicalIsShortest
  pub faultless : CanonicalFaultless
