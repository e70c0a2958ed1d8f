-- The canonical string of cells.
use Rattle.std.specs.Prelude.{◌≡◌, ℕ, zero, suc, ◌+◌, ◌/◌, ◌%◌, ◌<◌, ◌≤◌, if◌then◌else◌, List, [], ◌∷◌, ◌++◌, map, length, ◌==◌, ◌≢◌}
use Rattle.std.specs.List.{AllByRecursion}
use Rattle.runs.specs.Runs.{base, runs, highest, Loadable}

-- no level is that of the next
abbrev pub Apart : List ℕ → Type 0
Apart [] = Unit {0}
Apart (a ∷ []) = Unit {0}
Apart (a ∷ b ∷ s) = (a ≢ b) × Apart (b ∷ s)

-- the last digit, if there is one, is not 0
abbrev pub Tight : List ℕ → Type 0
Tight [] = Unit {0}
Tight (d ∷ []) = d ≡ 0 → ⊥
Tight (d ∷ e ∷ ds) = Tight (e ∷ ds)

-- the level of a run, measured or not
abbrev pub level : {X : Type 0} → ℕ × X → ℕ
level r = r.0

-- V is the highest level of the cells, neighbouring runs differ in level, and no run ends in a digit of value 0
pub record IsCanonical (V : ℕ) (cells s : List ℕ) : Type 0 where
  pub reached : V ≡ highest cells
  pub apart : Apart (map level (runs V s))
  pub tight : AllByRecursion (λ r. Tight r.1) (runs V s)

-- one more run in front: n cells past its first, joined to the next run if that has its level
unfoldable pub prepend : ℕ → ℕ → List (ℕ × ℕ) → List (ℕ × ℕ)
prepend v n [] = (v, n) ∷ []
prepend v n (r ∷ rs) = if v == r.0 then (v, suc n + r.1) ∷ rs else (v, n) ∷ r ∷ rs

-- the longest runs of equal cells
abbrev pub longest_runs : List ℕ → List (ℕ × ℕ)
longest_runs [] = []
longest_runs (c ∷ cs) = prepend c 0 (longest_runs cs)

-- the digits of n in base L, the least significant first; the second number bounds how many
unfoldable pub digits_by : ℕ → ℕ → ℕ → List ℕ
digits_by L zero n = []
digits_by L (suc k) zero = []
digits_by L (suc k) (suc n) = (suc n % L) ∷ digits_by L k (suc n / L)

abbrev pub digits : ℕ → ℕ → List ℕ
digits L n = digits_by L n n

-- the octets of a measured run, and of measured runs
abbrev pub run_octets : ℕ → ℕ × ℕ → List ℕ
run_octets V r = r.0 ∷ map (λ d. suc V + d) (digits (base V) r.1)

abbrev pub runs_octets : ℕ → List (ℕ × ℕ) → List ℕ
runs_octets V [] = []
runs_octets V (r ∷ rs) = run_octets V r ++ runs_octets V rs

-- the canonical string of cells
abbrev pub canonical : List ℕ → List ℕ
canonical cells = runs_octets (highest cells) (longest_runs cells)

-- cells that a packing can hold
pub record Packable (cells : List ℕ) : Type 0 where
  pub some : 0 < length cells
  pub low : AllByRecursion (λ c. c ≤ 252) cells

-- cells whose string is stored
pub record Storable (cells : List ℕ) : Type 0 where
  pub count : length cells ≤ 33_554_432
  pub low : highest cells ≤ 252

-- what the string of cells is: it loads as them, is canonical, is the only such string, and none is shorter
pub record StringOf (cells s : List ℕ) : Type 0 where
  pub loads : Loadable (highest cells) cells s
  pub is : IsCanonical (highest cells) cells s
  pub only : (V : ℕ) (t : List ℕ) → Loadable V cells t → IsCanonical V cells t → t ≡ s
  pub shortest : (V : ℕ) (t : List ℕ) → highest cells ≤ V → V ≤ 252 → Loadable V cells t → length s ≤ length t
