-- Runs as they are handed out, one after another.
use Rattle.std.specs.Prelude.{◌≡◌, ℕ, suc, ◌≤◌, min, List, [], ◌∷◌, ◌++◌, map, length, drop, replicate, Option, Some, None}
use Rattle.runs.specs.Runs.{base, runs, digits_value, loaded}
use Rattle.runs.specs.declared.reading.Run.{Run}
use Rattle.runs.specs.declared.reading.RunString.{RunString}
use Rattle.runs.specs.declared.reading.Runs.{Runs}

-- a run as it is handed out: its cells are told as 4,294,967,296 if there are more
abbrev pub handed : ℕ → ℕ × List ℕ → Run
handed V r = record { level = r.0; cells = min (suc (digits_value (base V) r.1)) 4_294_967_296; octets = suc (length r.1) }

-- the cells that a run string gives
abbrev pub cells_in : RunString → List ℕ
cells_in s = loaded s.v s.octets.now

-- the octets that are still to come
abbrev pub rest_of : Runs → List ℕ
rest_of w = drop w.place w.octets.now

-- the runs that are still to come
abbrev pub ahead : Runs → List (ℕ × List ℕ)
ahead w = runs w.v (rest_of w)

-- the same, as they are handed out
abbrev pub coming : Runs → List Run
coming w = map (handed w.v) (ahead w)

-- the cells that are still to come
abbrev pub cells_ahead : Runs → List ℕ
cells_ahead w = loaded w.v (rest_of w)

-- the first of the runs to come is handed out, and the others are left: the string goes on past the run's octets, and
-- the cells past those of the run, of which there may be more than are told
pub record HandsOut (w : Runs) (run : Run) (u : Runs) : Type 0 where
  pub v : u.v ≡ w.v
  pub within : run.octets ≤ length (rest_of w)
  pub rest : rest_of u ≡ drop run.octets (rest_of w)
  pub first : coming w ≡ run ∷ coming u
  pub cells : (n : ℕ) × (run.cells ≡ min (suc n) 4_294_967_296) × (cells_ahead w ≡ replicate (suc n) run.level ++ cells_ahead u)

-- no run is left, now or later
pub record IsOver (w u : Runs) : Type 0 where
  pub stays : u ≡ w
  pub rest : rest_of w ≡ []
  pub none : coming w ≡ []
  pub cells : cells_ahead w ≡ []

-- what a call of `next` gives
abbrev pub GivesRun : Runs → Option Run → Runs → Type 0
GivesRun w None u = IsOver w u
GivesRun w (Some run) u = HandsOut w run u
