-- Equal cells: laws, so that no long list is built.
use Rattle.std.proofs.Common.{◌≡◌, ℕ, suc, List, [], ◌∷◌, replicate, ℤ, pos, ◌-ℤ◌, nat_abs, sym, ap, ◌∙◌, append-nil, arith}
use Rattle.runs.specs.Runs.{highest}
use Rattle.runs.specs.Canonical.{prepend, longest_runs, runs_octets}
use Rattle.runs.proofs.LongestRuns.{longest_replicate}
use Rattle.runs.proofs.Levels.{highest_run}
use Rattle.sections.specs.declared.frame.Frame.{Frame}
use Rattle.sections.specs.Positions.{along, latitude_of}
use Rattle.worked.specs.Worked.{Packs}

reaches : (n v : ℕ) → highest (replicate (suc n) v) ≡ v
reaches n v = ap highest (sym (append-nil (replicate (suc n) v))) ∙ highest_run n v [] ∙ omega arith

pub alike : (n v : ℕ) (s : List ℕ) → runs_octets v ((v, n) ∷ []) ≡ s → Packs v (replicate (suc n) v) s
unfolding prepend
alike n v s e = record {
  reaches = reaches n v;
  string = (λ i. runs_octets (reaches n v i) ((ap longest_runs (sym (append-nil (replicate (suc n) v))) ∙ longest_replicate v n []) i)) ∙ e;
}

-- a row's latitude depends on three numbers of the frame
pub row_of : (f : Frame) (row n : ℕ) (first end : ℤ) → f.nj ≡ n → f.la1 ≡ first → f.la2 ≡ end → latitude_of f row ≡ first -ℤ pos (along (nat_abs (first -ℤ end)) n row)
row_of f row n first end p q r = λ i. q i -ℤ pos (along (nat_abs (q i -ℤ r i)) (p i) row)
