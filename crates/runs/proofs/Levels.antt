-- The highest level of a string's cells.
use Rattle.std.proofs.Common.{◌≡◌, ℕ, zero, suc, ◌≤◌, max, List, [], ◌∷◌, ◌++◌, get_or, replicate, map, nat_le, if◌then◌else◌, unwrap_or, fold, sym, refl, ◌∙◌, arith}
use Rattle.std.specs.List.{reduce}
use Rattle.std.proofs.lemmas.List.{get_or_past}
use Rattle.std.proofs.lemmas.List.Recursion.{max_bounds}
use Rattle.std.proofs.lemmas.Bool.{cases_lt}
use Rattle.std.proofs.lemmas.Bool.Decides.{nat_tests}
use Rattle.runs.specs.Runs.{runs, loaded, highest}
use Rattle.runs.proofs.Strings.{runs_level, runs_digit}

pub highest_run : (n v : ℕ) (cs : List ℕ) → highest (replicate (suc n) v ++ cs) ≡ max v (highest cs)
highest_run zero v cs = refl
highest_run (suc n) v cs = omega (arith, highest_run n v cs)

-- no cell is above V
pub loaded_most : (V : ℕ) (s : List ℕ) → highest (loaded V s) ≤ V
unfolding runs
loaded_most V [] = omega arith
loaded_most V (o ∷ s) =
    grind (arith, runs_level V o s, runs_digit V o s, cases_lt V o, highest_run, loaded_most V s)

pub get_or-highest : (cells : List ℕ) (k : ℕ) → get_or cells k 0 ≤ highest cells
get_or-highest cells k =
    let most = max_bounds highest (λ c. c) refl (λ c cs. refl) cells k 0 in
    grind (arith, most, get_or_past cells k 0)

pub loaded_low : (V : ℕ) (s : List ℕ) (k : ℕ) → get_or (loaded V s) k 0 ≤ V
loaded_low V s k = omega (arith, get_or-highest (loaded V s) k, loaded_most V s)

-- the highest of the octets, where a digit counts as 0
highest_map : (V : ℕ) (s : List ℕ) → highest (loaded V s) ≡ highest (map (λ o. if nat_le o V then o else 0) s)
unfolding runs
highest_map V [] = refl
highest_map V (o ∷ s) =
    grind (arith, nat_tests, runs_level V o s, runs_digit V o s, cases_lt V o, highest_run, highest_map V s)

fold_max : (c : ℕ) (cs : List ℕ) → fold max c cs ≡ highest (c ∷ cs)
fold_max c [] = omega arith
fold_max c (d ∷ cs) = omega (arith, fold_max (max c d) cs)

reduce_max : (cs : List ℕ) → unwrap_or (reduce max cs) 0 ≡ highest cs
reduce_max [] = refl
reduce_max (c ∷ cs) = fold_max c cs

pub highest_levels : (V : ℕ) (s : List ℕ) → highest (loaded V s) ≡ unwrap_or (reduce max (map (λ o. if nat_le o V then o else 0) s)) 0
highest_levels V s = highest_map V s ∙ sym (reduce_max (map (λ o. if nat_le o V then o else 0) s))
