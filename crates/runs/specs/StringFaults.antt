-- What is wrong with a string for a number of cells.
use Rattle.std.specs.Prelude.{◌≡◌, ℕ, suc, ◌+◌, Bool, false, if◌then◌else◌, List, [], ◌∷◌, length, Some, None, Ok, Err, Option, Result, nat_lt}
use Rattle.format.specs.Refusals.{told}
use Rattle.format.specs.declared.fault.Layer.TheVariants as layer
use Rattle.format.specs.declared.fault.Refusal.{Refusal}
use Rattle.runs.specs.Runs.{base, runs, digits_value, loaded, Loadable}

-- a fault's number, its place counted from the string's first octet, and the cells finished before it
pub record Flaw : Type 0 where
  pub number : ℕ
  pub place : ℕ
  pub cells : ℕ

abbrev pub flaw : ℕ → ℕ → ℕ → Flaw
flaw n p c = record { number = n; place = p; cells = c }

abbrev pub digit_first : ℕ → List ℕ → Bool
digit_first V [] = false
digit_first V (o ∷ s) = nat_lt V o

-- the first fault of the runs that begin at a place, where some cells are finished: a run passes the last of n cells,
-- or there are no more runs and cells are left
unfoldable pub fault_from : ℕ → ℕ → ℕ → ℕ → List (ℕ × List ℕ) → Option Flaw
fault_from L n place done [] = if nat_lt done n then Some (flaw 12 place done) else None
fault_from L n place done (r ∷ rs) = if nat_lt n (done + suc (digits_value L r.1)) then Some (flaw 11 place done) else fault_from L n (place + suc (length r.1)) (done + suc (digits_value L r.1)) rs

-- the first fault of a string for n cells
abbrev pub fault : ℕ → ℕ → List ℕ → Option Flaw
fault V n s = if digit_first V s then Some (flaw 10 0 0) else fault_from (base V) n 0 0 (runs V s)

-- the verdict on a string that begins at a place of the message, with the fields finished before it
abbrev pub judged : ℕ → ℕ → Option Flaw → Result (Unit {0}) Refusal
judged place fields None = Ok tt
judged place fields (Some f) = Err (told f.number layer.String (place + f.place) fields f.cells)

-- a string is loadable, as n cells
pub record Loads (V n : ℕ) (s : List ℕ) : Type 0 where
  pub loadable : Loadable V (loaded V s) s
  pub count : length (loaded V s) ≡ n

-- a string has no fault for n cells exactly if it is loadable, as n cells
pub record Exactly (V n : ℕ) (s : List ℕ) : Type 0 where
  pub loads : fault V n s ≡ None → Loads V n s
  pub none : Loads V n s → fault V n s ≡ None
