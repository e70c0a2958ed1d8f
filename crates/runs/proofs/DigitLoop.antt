-- The digits at a place of octets, and what the loop over them keeps.
use Rattle.std.proofs.Common.{◌≡◌, ℕ, zero, suc, ◌+◌, ◌-◌, ◌*◌, ◌<◌, ◌≤◌, min, List, [], ◌∷◌, ◌++◌, map, length, get_or, drop, replicate, sym, refl, ap, ◌∙◌, mul_assoc, mul_comm, mul-zero, mul-add, arith, drop-drop}
use Rattle.std.proofs.lemmas.List.{at_drop_all, at_drop_more, drop_all}
use Rattle.std.proofs.lemmas.Bool.{cases_lt}
use Rattle.runs.specs.Runs.{base, leading_digits, runs, digits_value, measured, cells_of, loaded}
use Rattle.runs.proofs.Strings.{leading_level, leading_digit, runs_level, runs_digit}

module _ (V : ℕ) (s : List ℕ) (p : ℕ) where
  pub leading_stops : p < length s → get_or s p 0 ≤ V → leading_digits V (drop p s) ≡ []
  leading_stops h low = at_drop_more (leading_digits V) s p 0 h ∙ leading_level V (get_or s p 0) (drop (p + 1) s) low

  pub leading_ends : length s ≤ p → leading_digits V (drop p s) ≡ []
  unfolding leading_digits
  leading_ends h = at_drop_all (leading_digits V) s p h

  pub leading_goes : p < length s → V < get_or s p 0 → leading_digits V (drop p s) ≡ (get_or s p 0 - suc V) ∷ leading_digits V (drop (p + 1) s)
  leading_goes h high = at_drop_more (leading_digits V) s p 0 h ∙ leading_digit V (get_or s p 0) (drop (p + 1) s) high

-- sums and weights that stop at a cap lose nothing that a sum that stops there has
capped : (cap x w N : ℕ) → min (min x cap + min w cap * N) cap ≡ min (x + w * N) cap
capped cap x w zero = grind arith
capped cap x w (suc n) = grind arith

pub record Reading (cap V : ℕ) (s : List ℕ) (at cells weight place : ℕ) : Type 0 where
  pub small : cells ≤ cap
  pub light : weight ≤ cap
  pub rest : min (cells + weight * digits_value (base V) (leading_digits V (drop place s))) cap ≡ min (suc (digits_value (base V) (leading_digits V (drop at s)))) cap
  pub passed : place + length (leading_digits V (drop place s)) ≡ at + length (leading_digits V (drop at s))

module _ {cap V : ℕ} {s : List ℕ} {at cells weight place : ℕ} (k : Reading cap V s at cells weight place) where
  pub done : leading_digits V (drop place s) ≡ [] → (cells ≡ min (suc (digits_value (base V) (leading_digits V (drop at s)))) cap) × (place ≡ at + length (leading_digits V (drop at s)))
  done e =
      let r = rw e at k.rest in
      let q = rw e at k.passed in
      (omega (arith, k.small, mul-zero weight, r), omega (arith, q))

  pub one_more : place < length s → V < get_or s place 0 → Reading cap V s at (min (cells + (get_or s place 0 - suc V) * weight) cap) (min (weight * base V) cap) (place + 1)
  one_more h high =
      let d : ℕ = get_or s place 0 - suc V in
      let e = leading_goes V s place h high in
      let N : ℕ = digits_value (base V) (leading_digits V (drop (place + 1) s)) in
      let turned : cells + d * weight + weight * base V * N ≡ cells + weight * (d + base V * N) = omega (arith, mul-add weight d (base V * N), mul_comm d weight, mul_assoc weight (base V) N) in
      record {
        small = omega arith;
        light = omega arith;
        rest = capped cap (cells + d * weight) (weight * base V) N ∙ ap (λ x. min x cap) turned ∙ (rw e at k.rest);
        passed = omega (arith, rw e at k.passed);
      }

-- past its digits a string has the same runs
pub runs_skip : (V : ℕ) (s : List ℕ) → runs V (drop (length (leading_digits V s)) s) ≡ runs V s
unfolding leading_digits
runs_skip V [] = refl
runs_skip V (o ∷ s) =
    grind (arith, leading_level V o s, leading_digit V o s, runs_digit V o s, cases_lt V o, runs_skip V s)

-- past its digits a string begins with a level, or is over
pub leading_skip : (V : ℕ) (s : List ℕ) → leading_digits V (drop (length (leading_digits V s)) s) ≡ []
unfolding leading_digits
leading_skip V [] = refl
leading_skip V (o ∷ s) =
    grind (arith, leading_level V o s, leading_digit V o s, cases_lt V o, leading_skip V s)

-- the same of the digits at a place
pub leading_next : (V : ℕ) (s : List ℕ) (p : ℕ) → leading_digits V (drop (p + length (leading_digits V (drop p s))) s) ≡ []
leading_next V s p = ap (leading_digits V) (sym (drop-drop (length (leading_digits V (drop p s))) p s)) ∙ leading_skip V (drop p s)

pub leading_few : (V : ℕ) (s : List ℕ) → length (leading_digits V s) ≤ length s
unfolding leading_digits
leading_few V [] = omega arith
leading_few V (o ∷ s) =
    grind (arith, leading_level V o s, leading_digit V o s, cases_lt V o, leading_few V s)

-- where no digit is first, a level is
pub first_level : (V o : ℕ) (s : List ℕ) → leading_digits V (o ∷ s) ≡ [] → o ≤ V
first_level V o s e =
    grind (arith, leading_digit V o s, cases_lt V o, ap length e)

pub level_next : (V : ℕ) (s : List ℕ) (p : ℕ) → p < length s → leading_digits V (drop p s) ≡ [] → get_or s p 0 ≤ V
level_next V s p h e = first_level V (get_or s p 0) (drop (p + 1) s) (sym (at_drop_more (leading_digits V) s p 0 h) ∙ e)

-- the runs from a level octet on: its run, and the runs from the place after its last digit on
pub runs_from : (V : ℕ) (s : List ℕ) (p : ℕ) → p < length s → get_or s p 0 ≤ V → runs V (drop p s) ≡ (get_or s p 0, leading_digits V (drop (p + 1) s)) ∷ runs V (drop (p + 1 + length (leading_digits V (drop (p + 1) s))) s)
runs_from V s p h low =
    at_drop_more (runs V) s p 0 h
    ∙ runs_level V (get_or s p 0) (drop (p + 1) s) low
    ∙ ap (λ rs. (get_or s p 0, leading_digits V (drop (p + 1) s)) ∷ rs)
    (sym (runs_skip V (drop (p + 1) s)) ∙ ap (runs V) (drop-drop (length (leading_digits V (drop (p + 1) s))) (p + 1) s))

pub loaded_over : (V : ℕ) (s : List ℕ) (p : ℕ) → length s ≤ p → loaded V (drop p s) ≡ []
unfolding runs
loaded_over V s p h = ap (loaded V) (drop_all p s h)

-- the cells from a run on: its own, then those from the place after its last digit on
pub loaded_from : (V : ℕ) (s : List ℕ) (p : ℕ) → p < length s → leading_digits V (drop p s) ≡ [] → loaded V (drop p s) ≡ replicate (suc (digits_value (base V) (leading_digits V (drop (p + 1) s)))) (get_or s p 0) ++ loaded V (drop (p + 1 + length (leading_digits V (drop (p + 1) s))) s)
loaded_from V s p h led = ap (λ rs. cells_of (map (measured V) rs)) (runs_from V s p h (level_next V s p h led))
