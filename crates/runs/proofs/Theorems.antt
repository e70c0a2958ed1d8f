-- The canonical string loads, is canonical, is the only one, and none is shorter.
use Rattle.std.proofs.Common.{◌≡◌, ℕ, ◌<◌, ◌≤◌, List, [], ◌∷◌, ◌++◌, map, length, sym, refl, ap, ◌∙◌, arith}
use Rattle.std.specs.List.{AllByRecursion}
use Rattle.std.proofs.ByRecursion.{All-weaker}
use Rattle.std.proofs.lemmas.Simd.{map-map}
use Rattle.runs.specs.Runs.{Begins, highest, base, leading_digits, runs, measured, cells_of}
use Rattle.runs.specs.Canonical.{canonical, Packable, Storable, StringOf, Tight, level, longest_runs, runs_octets}
use Rattle.runs.specs.Theorems.{CanonicalLoads, CanonicalIsCanonical, CanonicalIsOne, CanonicalIsShortest}
use Rattle.runs.proofs.Digits.{tight_digits_by}
use Rattle.runs.proofs.Strings.{octet, with_digits, runs_octets_lem, leading_level, measured-with_digits, small_octets, whole}
use Rattle.runs.proofs.LongestRuns.{cells_longest, apart_longest, longest_cells, levels_longest, below_highest, highest_least}
use Rattle.runs.proofs.Shortest.{cost, length_octets, cost_longest, spent}

begins_octets : (V : ℕ) (rs : List (ℕ × ℕ)) → 0 < length (cells_of rs) → AllByRecursion (λ r. r.0 ≤ V) rs → Begins V (runs_octets V rs)
begins_octets V [] some a = absurd (omega arith)
begins_octets V (r ∷ rs) some a = a.0

levels : (cells : List ℕ) → AllByRecursion (λ r. r.0 ≤ highest cells) (longest_runs cells)
levels cells = levels_longest (λ c. c ≤ highest cells) cells (below_highest cells)

pub canonical_loads : CanonicalLoads
canonical_loads cells ok =
    let V : ℕ = highest cells in
    let low : V ≤ 252 = highest_least 252 cells ok.low in
    record {
      octets = small_octets V (longest_runs cells) low (levels cells);
      begins = begins_octets V (longest_runs cells) (rw (cells_longest cells) ok.some) (levels cells);
      gives =
          ap (λ rs. cells_of (map (measured V) rs)) (runs_octets_lem V (longest_runs cells) (levels cells))
          ∙ ap cells_of (measured-with_digits V (longest_runs cells) low)
          ∙ cells_longest cells;
    }

tight_with_digits : (V : ℕ) (rs : List (ℕ × ℕ)) → V ≤ 252 → AllByRecursion (λ r. Tight r.1) (map (with_digits V) rs)
tight_with_digits V [] h = tt
tight_with_digits V (r ∷ rs) h = (tight_digits_by (base V) r.1 r.1 (omega arith) (omega arith), tight_with_digits V rs h)

pub canonical_is_canonical : CanonicalIsCanonical
canonical_is_canonical cells ok =
    let V : ℕ = highest cells in
    let low : V ≤ 252 = highest_least 252 cells ok.low in
    let read = runs_octets_lem V (longest_runs cells) (levels cells) in
    record {
      reached = refl;
      apart = rw (read, map-map level (with_digits V) (longest_runs cells)) (apart_longest cells);
      tight = rw read (tight_with_digits V (longest_runs cells) low);
    }

no_leading : (V : ℕ) (s : List ℕ) → Begins V s → leading_digits V s ≡ []
no_leading V [] b = absurd b
no_leading V (o ∷ s) b = leading_level V o s b

pub canonical_is_one : CanonicalIsOne
canonical_is_one V cells s ok loads is =
    let low : V ≤ 252 = omega (arith, is.reached, highest_least 252 cells ok.low) in
    let rs : List (ℕ × ℕ) = map (measured V) (runs V s) in
    let same : longest_runs cells ≡ rs = ap longest_runs (sym loads.gives) ∙ longest_cells rs (rw (map-map level (measured V) (runs V s)) is.apart) in
    whole V s low loads.octets is.tight
    ∙ ap (λ f. map (octet V) f ++ runs_octets V rs) (no_leading V s loads.begins)
    ∙ ap (runs_octets V) (sym same)
    ∙ ap (λ w. runs_octets w (longest_runs cells)) is.reached

pub canonical_is_shortest : CanonicalIsShortest
canonical_is_shortest V cells s le low loads =
    let H : ℕ = highest cells in
    let rs : List (ℕ × ℕ) = map (measured V) (runs V s) in
    let split : cost (base H) (longest_runs cells) ≤ cost (base H) rs = rw loads.gives at (cost_longest (base H) rs (omega arith)) in
    omega (arith, length_octets H (longest_runs cells), split, spent (base H) V s (omega arith) (omega arith) loads.octets)

pub string_of : (cells : List ℕ) → Storable cells → 0 < length cells → StringOf cells (canonical cells)
string_of cells ok some =
    let low : highest cells ≤ 252 = ok.low in
    let packable : Packable cells =
    record { some = some; low = All-weaker (λ c. c ≤ highest cells) (λ c. c ≤ 252) (λ c h. omega arith) cells (below_highest cells) } in
    record {
      loads = canonical_loads cells packable;
      is = canonical_is_canonical cells packable;
      only = λ V t loads is. canonical_is_one V cells t packable loads is;
      shortest = λ V t le most loads. canonical_is_shortest V cells t le most loads;
    }
