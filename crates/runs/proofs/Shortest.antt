-- No string of the cells is shorter than the canonical one.
use Rattle.std.proofs.Common.{◌≡◌, ℕ, suc, ◌+◌, ◌*◌, ◌^◌, ◌<◌, ◌≤◌, List, [], ◌∷◌, map, length, refl, subst, mul-le-mul_left, pow-suc, arith, length-append}
use native.Mathlib.Nat.{pow-le-pow_left, pow-le-pow_right}
use lib.ListN.{length-map}
use Rattle.std.specs.List.{AllByRecursion}
use Rattle.std.proofs.lemmas.Bool.{cases_eq, cases_lt}
use Rattle.runs.specs.Runs.{base, leading_digits, runs, digits_value, measured, cells_of}
use Rattle.runs.specs.Canonical.{prepend, longest_runs, digits, runs_octets}
use Rattle.runs.proofs.Digits.{value_digits_by, under_digits_by, value_lt, length-digits_by}
use Rattle.runs.proofs.Strings.{leading_level, leading_digit, runs_level, runs_digit, under_leading}
use Rattle.runs.proofs.LongestRuns.{prepend_same, prepend_other, longest_replicate}

-- how many octets runs_octets runs, with digits of base L
abbrev pub cost : ℕ → List (ℕ × ℕ) → ℕ
cost L [] = 0
cost L (r ∷ rs) = suc (length (digits L r.1) + cost L rs)

pub length_octets : (V : ℕ) (rs : List (ℕ × ℕ)) → length (runs_octets V rs) ≡ cost (base V) rs
length_octets V [] = refl
length_octets V (r ∷ rs) = simp (length-append, length-map) (grind (arith, length_octets V rs))

below_power : (L n : ℕ) → 2 ≤ L → n < L ^ length (digits L n)
below_power L n two =
    subst (λ k. k < L ^ length (digits L n)) (value_digits_by L n n two (omega arith)) (value_lt L (digits L n) (under_digits_by L n n (omega arith)))

-- one run costs no more than two that it is cut into
joined_digits : (L n m : ℕ) → 2 ≤ L → length (digits L (suc n + m)) ≤ suc (length (digits L n) + length (digits L m))
joined_digits L n m two =
    let a : ℕ = length (digits L n) in
    let b : ℕ = length (digits L m) in
    let double : L ^ (a + b) * 2 ≤ L ^ (a + b) * L = mul-le-mul_left (L ^ (a + b)) two in
    length-digits_by L (suc (a + b)) (suc n + m) (suc n + m) two
    (grind (arith, below_power L n two, below_power L m two, pow-suc L (a + b), pow-le-pow_right, double))

cost-prepend : (L v n : ℕ) (rs : List (ℕ × ℕ)) → 2 ≤ L → cost L (prepend v n rs) ≤ suc (length (digits L n) + cost L rs)
unfolding prepend
cost-prepend L v n [] two = omega arith
cost-prepend L v n (r ∷ rs) two =
    grind (arith, prepend_same v n r rs, prepend_other v n r rs, cases_eq v r.0, joined_digits L n r.1 two)

pub cost_longest : (L : ℕ) (rs : List (ℕ × ℕ)) → 2 ≤ L → cost L (longest_runs (cells_of rs)) ≤ cost L rs
cost_longest L [] two = omega arith
cost_longest L (r ∷ rs) two =
    rw (longest_replicate r.0 r.1 (cells_of rs))
    (omega (arith, cost-prepend L r.0 r.1 (longest_runs (cells_of rs)) two, cost_longest L rs two))

-- digits of a smaller base are no fewer
fewer : (L L' : ℕ) (ds : List ℕ) → 2 ≤ L → L' ≤ L → AllByRecursion (λ d. d < L') ds → length (digits L (digits_value L' ds)) ≤ length ds
fewer L L' ds two le u =
    let n : ℕ = digits_value L' ds in
    length-digits_by L (length ds) n n two (omega (arith, value_lt L' ds u, pow-le-pow_left le (length ds)))

pub spent : (L V : ℕ) (s : List ℕ) → 2 ≤ L → base V ≤ L → AllByRecursion (λ o. o < 256) s → length (leading_digits V s) + cost L (map (measured V) (runs V s)) ≤ length s
unfolding leading_digits runs
spent L V [] two le h = omega arith
spent L V (o ∷ s) two le h =
    let ih = spent L V s two le h.1 in
    grind (arith, leading_level V o s, leading_digit V o s, runs_level V o s, runs_digit V o s, cases_lt V o, ih, fewer L (base V) (leading_digits V s) two le (under_leading V s h.1))
