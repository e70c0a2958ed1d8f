-- What the loop keeps that finds the canonical length of a string's cells.
use Rattle.std.proofs.Common.{◌≡◌, ℕ, zero, suc, ◌+◌, ◌-◌, ◌<◌, ◌≤◌, List, [], ◌∷◌, ◌++◌, length, replicate, sym, ap, ◌∙◌, append_assoc, append-nil, arith, length-append}
use lib.ListN.{length-replicate, replicate-append-replicate}
use Rattle.runs.specs.Runs.{base}
use Rattle.runs.specs.Canonical.{prepend, longest_runs, digits, runs_octets}
use Rattle.runs.specs.declared.reading.Run.{Run}
use Rattle.runs.specs.declared.reading.Runs.{Runs}
use Rattle.runs.specs.Handed.{cells_ahead, HandsOut, IsOver}
use Rattle.runs.proofs.LongestRuns.{longest_replicate, prepend_apart}
use Rattle.runs.proofs.Shortest.{cost, length_octets}

-- the octets of equal cells
pub length_alike : (V level n : ℕ) → length (runs_octets V (longest_runs (replicate (suc n) level))) ≡ suc (length (digits (base V) n))
unfolding prepend
length_alike V level n =
    let one = ap longest_runs (sym (append-nil (replicate (suc n) level))) ∙ longest_replicate level n [] in
    omega (arith, length_octets V (longest_runs (replicate (suc n) level)), ap (cost (base V)) one)

-- equal cells before those of a run of another level
length_apart : (V level alike o n : ℕ) (cs rest : List ℕ) → (o ≡ level → ⊥) → rest ≡ replicate (suc n) o ++ cs → length (runs_octets V (longest_runs (replicate alike level ++ rest))) ≡ length (runs_octets V (longest_runs (replicate alike level))) + length (runs_octets V (longest_runs rest))
length_apart V level zero o n cs rest ne e = omega arith
length_apart V level (suc m) o n cs rest ne e =
    let run = ap longest_runs e ∙ longest_replicate o n cs in
    let whole : longest_runs (replicate (suc m) level ++ rest) ≡ (level, m) ∷ longest_runs rest =
    longest_replicate level m rest ∙ ap (prepend level m) run ∙ prepend_apart level m o n (longest_runs cs) ne ∙ ap (λ rs. (level, m) ∷ rs) (sym run) in
    omega (arith, length_octets V (longest_runs (replicate (suc m) level ++ rest)), ap (cost (base V)) whole, length_octets V (longest_runs rest), length_alike V level m)

-- some runs are read, the last of which may go on: octets of the runs before that run, and that run's level and cells
pub record Counted (cells : List ℕ) (H : ℕ) (w : Runs) (done octets level alike : ℕ) : Type 0 where
  pub small : done ≤ 33_554_432
  pub few : octets + alike ≤ done
  pub left : done + length (cells_ahead w) ≡ length cells
  pub still : octets + length (runs_octets H (longest_runs (replicate alike level ++ cells_ahead w))) ≡ length (runs_octets H (longest_runs cells))

module _ {cells : List ℕ} {H : ℕ} {w : Runs} {done octets level alike : ℕ} (k : Counted cells H w done octets level alike) where
  module _ {u : Runs} {run : Run} (h : HandsOut w run u) where
    count : length (cells_ahead w) ≡ suc h.cells.0 + length (cells_ahead u)
    count = simp (length-append, length-replicate) at (ap length h.cells.2)

    -- the run has another level, and the run before it is over
    pub counted_other : (r : ℕ) → (run.level ≡ level → ⊥) → r ≡ length (runs_octets H (longest_runs (replicate alike level))) → r ≤ alike → Counted cells H w done (octets + r) run.level 0
    counted_other r ne e le =
        let apart = length_apart H level alike run.level h.cells.0 (cells_ahead u) (cells_ahead w) ne h.cells.2 in
        let few = k.few in
        let still : octets + r + length (runs_octets H (longest_runs (cells_ahead w))) ≡ length (runs_octets H (longest_runs cells)) = omega (arith, k.still) in
        record { small = k.small; few = omega arith; left = k.left; still = still }

    -- the run passes the most cells that are stored
    pub counted_past : 33_554_432 - done < run.cells → 33_554_432 < length cells
    counted_past past = omega (arith, k.left, count, h.cells.1)

    -- the run has the level of the run before it, or there is none
    pub counted_joined : run.level ≡ level → run.cells ≤ 33_554_432 - done → Counted cells H u (done + run.cells) octets level (alike + run.cells)
    counted_joined same fits =
        let few = k.few in
        let small = k.small in
        let whole : run.cells ≡ suc h.cells.0 = omega (arith, h.cells.1) in
        let joined : replicate (alike + run.cells) level ++ cells_ahead u ≡ replicate alike level ++ cells_ahead w =
        (λ i. replicate (alike + whole i) level ++ cells_ahead u)
        ∙ ap (λ l. l ++ cells_ahead u) (sym (replicate-append-replicate alike (suc h.cells.0) level))
        ∙ append_assoc (replicate alike level) (replicate (suc h.cells.0) level) (cells_ahead u)
        ∙ ap (λ l. replicate alike level ++ l) (ap (λ o. replicate (suc h.cells.0) o ++ cells_ahead u) (sym same) ∙ sym h.cells.2) in
        record {
          small = omega arith;
          few = omega arith;
          left = omega (arith, k.left, count);
          still = ap (λ cs. octets + length (runs_octets H (longest_runs cs))) joined ∙ k.still;
        }

  -- the string is over
  module _ {u : Runs} (h : IsOver w u) where
    pub counted_all : done ≡ length cells
    counted_all = omega (arith, k.left, ap length h.cells)

    pub counted_octets : (r : ℕ) → r ≡ length (runs_octets H (longest_runs (replicate alike level))) → octets + r ≡ length (runs_octets H (longest_runs cells))
    counted_octets r e =
        let last : replicate alike level ++ cells_ahead w ≡ replicate alike level = ap (λ l. replicate alike level ++ l) h.cells ∙ append-nil (replicate alike level) in
        omega (arith, k.still, e, ap (λ cells. length (runs_octets H (longest_runs cells))) last)
