-- Strings, their runs and the octets of runs.
use Rattle.std.proofs.Common.{◌≡◌, ℕ, suc, ◌+◌, ◌-◌, ◌<◌, ◌≤◌, List, [], ◌∷◌, ◌++◌, map, sym, refl, ap, ◌∙◌, ⊎_elim, append-nil, add-sub_of_le, arith}
use Rattle.std.specs.List.{AllByRecursion}
use Rattle.std.proofs.ByRecursion.{All-append, All-map, All-weaker}
use Rattle.std.proofs.lemmas.Bool.{le-leb, lt-leb, cond-true, cond-false, cases_lt}
use Rattle.runs.specs.Runs.{base, leading_digits, runs, measured}
use Rattle.runs.specs.Canonical.{digits, runs_octets, Tight}
use Rattle.runs.proofs.Digits.{value_digits_by, under_digits_by, digits_value_lem}

module _ (V o : ℕ) (s : List ℕ) where
  pub leading_level : o ≤ V → leading_digits V (o ∷ s) ≡ []
  unfolding leading_digits
  leading_level h = cond-true _ _ _ (le-leb o V h)

  pub leading_digit : V < o → leading_digits V (o ∷ s) ≡ (o - suc V) ∷ leading_digits V s
  unfolding leading_digits
  leading_digit h = cond-false _ _ _ (lt-leb o V h)

  pub runs_level : o ≤ V → runs V (o ∷ s) ≡ (o, leading_digits V s) ∷ runs V s
  unfolding runs
  runs_level h = cond-true _ _ _ (le-leb o V h)

  pub runs_digit : V < o → runs V (o ∷ s) ≡ runs V s
  unfolding runs
  runs_digit h = cond-false _ _ _ (lt-leb o V h)

abbrev pub octet : ℕ → ℕ → ℕ
octet V d = suc V + d

leading_digits_lem : (V : ℕ) (ds s : List ℕ) → leading_digits V (map (octet V) ds ++ s) ≡ ds ++ leading_digits V s
leading_digits_lem V [] s = refl
leading_digits_lem V (d ∷ ds) s =
    grind (arith, leading_digit, leading_digits_lem V ds s)

runs_digits : (V : ℕ) (ds s : List ℕ) → runs V (map (octet V) ds ++ s) ≡ runs V s
runs_digits V [] s = refl
runs_digits V (d ∷ ds) s = grind (arith, runs_digit, runs_digits V ds s)

-- a run with its digits
abbrev pub with_digits : ℕ → ℕ × ℕ → ℕ × List ℕ
with_digits V r = (r.0, digits (base V) r.1)

pub leading_octets : (V : ℕ) (rs : List (ℕ × ℕ)) → AllByRecursion (λ r. r.0 ≤ V) rs → leading_digits V (runs_octets V rs) ≡ []
unfolding leading_digits
leading_octets V [] h = refl
leading_octets V (r ∷ rs) h = leading_level V r.0 _ h.0

pub runs_octets_lem : (V : ℕ) (rs : List (ℕ × ℕ)) → AllByRecursion (λ r. r.0 ≤ V) rs → runs V (runs_octets V rs) ≡ map (with_digits V) rs
unfolding runs
runs_octets_lem V [] h = refl
runs_octets_lem V (r ∷ rs) h =
    let ds : List ℕ = digits (base V) r.1 in
    let tail : leading_digits V (map (octet V) ds ++ runs_octets V rs) ≡ ds = leading_digits_lem V ds (runs_octets V rs) ∙ ap (λ l. ds ++ l) (leading_octets V rs h.1) ∙ append-nil ds in
    runs_level V r.0 _ h.0 ∙ (λ i. (r.0, tail i) ∷ (runs_digits V ds (runs_octets V rs) ∙ runs_octets_lem V rs h.1) i)

pub measured-with_digits : (V : ℕ) (rs : List (ℕ × ℕ)) → V ≤ 252 → map (measured V) (map (with_digits V) rs) ≡ rs
measured-with_digits V [] h = refl
measured-with_digits V (r ∷ rs) h =
    λ i. (r.0, value_digits_by (base V) r.1 r.1 (omega arith) (omega arith) i) ∷ measured-with_digits V rs h i

pub small_octets : (V : ℕ) (rs : List (ℕ × ℕ)) → V ≤ 252 → AllByRecursion (λ r. r.0 ≤ V) rs → AllByRecursion (λ o. o < 256) (runs_octets V rs)
small_octets V [] h l = tt
small_octets V (r ∷ rs) h l =
    let small : AllByRecursion (λ d. d < base V) (digits (base V) r.1) = under_digits_by (base V) r.1 r.1 (omega arith) in (
      omega (arith, l.0),
      All-append (λ o. o < 256) _ _
          (All-map (λ o. o < 256) (octet V) _ (All-weaker (λ d. d < base V) (λ d. octet V d < 256) (λ d k. omega arith) _ small))
          (small_octets V rs h l.1),
    )

pub under_leading : (V : ℕ) (s : List ℕ) → AllByRecursion (λ o. o < 256) s → AllByRecursion (λ d. d < base V) (leading_digits V s)
unfolding leading_digits
under_leading V [] h = tt
under_leading V (o ∷ s) h =
    let ih = under_leading V s h.1 in
    let first = h.0 in
    grind (arith, leading_level V o s, leading_digit V o s, cases_lt V o)

-- a string whose runs are tight is its leading digits and its runs, with_digits
pub whole : (V : ℕ) (s : List ℕ) → V ≤ 252 → AllByRecursion (λ o. o < 256) s → AllByRecursion (λ r. Tight r.1) (runs V s) → s ≡ map (octet V) (leading_digits V s) ++ runs_octets V (map (measured V) (runs V s))
unfolding leading_digits runs
whole V [] v h t = refl
whole V (o ∷ s) v h t =
    ⊎_elim
    (λ k.
    rw (leading_digit V o s k, runs_digit V o s k)
    (λ i. sym (add-sub_of_le k) i ∷ whole V s v h.1 (rw (runs_digit V o s k) at t) i))
    (λ k.
    let t' = rw (runs_level V o s k) at t in
    rw (leading_level V o s k, runs_level V o s k, digits_value_lem (base V) (leading_digits V s) (omega arith) (under_leading V s h.1) t'.0)
    (ap (λ l. o ∷ l) (whole V s v h.1 t'.1)))
    (cases_lt V o)
