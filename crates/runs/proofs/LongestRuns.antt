-- The longest runs of equal cells.
use Rattle.std.proofs.Common.{◌≡◌, ℕ, zero, suc, ◌+◌, ◌≤◌, List, [], ◌∷◌, ◌++◌, map, replicate, sym, refl, ap, ◌∙◌, subst, ⊎_elim, append_assoc, arith}
use lib.ListN.{replicate-append-replicate}
use Rattle.std.specs.List.{AllByRecursion}
use Rattle.std.proofs.lemmas.List.Elements.{All-from_recursion, recursion_from_All}
use Rattle.std.proofs.lemmas.List.Recursion.{max_bounds, max_least}
use Rattle.std.proofs.lemmas.Bool.{eq-eqb, ne_eqb, cond-true, cond-false, cases_eq}
use Rattle.runs.specs.Runs.{cells_of, highest}
use Rattle.runs.specs.Canonical.{Apart, level, prepend, longest_runs}

module _ (v n : ℕ) (r : ℕ × ℕ) (rs : List (ℕ × ℕ)) where
  pub prepend_same : v ≡ r.0 → prepend v n (r ∷ rs) ≡ (v, suc n + r.1) ∷ rs
  unfolding prepend
  prepend_same e = cond-true _ _ _ (eq-eqb v r.0 e)

  pub prepend_other : (v ≡ r.0 → ⊥) → prepend v n (r ∷ rs) ≡ (v, n) ∷ r ∷ rs
  unfolding prepend
  prepend_other e = cond-false _ _ _ (ne_eqb v r.0 e)

prepend_again : (v n : ℕ) (rs : List (ℕ × ℕ)) → prepend v 0 (prepend v n rs) ≡ prepend v (suc n) rs
unfolding prepend
prepend_again v n [] = grind (arith, prepend_same)
prepend_again v n (r ∷ rs) =
    grind (arith, prepend_same, prepend_other, cases_eq v r.0)

pub longest_replicate : (v n : ℕ) (cs : List ℕ) → longest_runs (replicate (suc n) v ++ cs) ≡ prepend v n (longest_runs cs)
longest_replicate v zero cs = refl
longest_replicate v (suc n) cs = ap (prepend v 0) (longest_replicate v n cs) ∙ prepend_again v n (longest_runs cs)

cells_prepend : (v n : ℕ) (rs : List (ℕ × ℕ)) → cells_of (prepend v n rs) ≡ replicate (suc n) v ++ cells_of rs
unfolding prepend
cells_prepend v n [] = refl
cells_prepend v n (r ∷ rs) =
    ⊎_elim
    (λ e.
    let sum : suc (suc n + r.1) ≡ suc n + suc r.1 = omega arith in
    rw (prepend_same v n r rs e)
    (ap (λ k. replicate k v ++ cells_of rs) sum
    ∙ ap (λ l. l ++ cells_of rs) (sym (replicate-append-replicate (suc n) (suc r.1) v))
    ∙ append_assoc (replicate (suc n) v) (replicate (suc r.1) v) (cells_of rs)
    ∙ ap (λ w. replicate (suc n) v ++ (replicate (suc r.1) w ++ cells_of rs)) e))
    (λ e. rw (prepend_other v n r rs e))
    (cases_eq v r.0)

pub cells_longest : (cells : List ℕ) → cells_of (longest_runs cells) ≡ cells
cells_longest [] = refl
cells_longest (c ∷ cs) = cells_prepend c 0 (longest_runs cs) ∙ ap (λ l. c ∷ l) (cells_longest cs)

apart_prepend : (v n : ℕ) (rs : List (ℕ × ℕ)) → Apart (map level rs) → Apart (map level (prepend v n rs))
unfolding prepend
apart_prepend v n [] a = tt
apart_prepend v n (r ∷ rs) a =
    ⊎_elim
    (λ e. rw (prepend_same v n r rs e) (subst (λ w. Apart (w ∷ map level rs)) (sym e) a))
    (λ e. rw (prepend_other v n r rs e) (e, a))
    (cases_eq v r.0)

pub apart_longest : (cells : List ℕ) → Apart (map level (longest_runs cells))
apart_longest [] = tt
apart_longest (c ∷ cs) = apart_prepend c 0 (longest_runs cs) (apart_longest cs)

pub longest_cells : (rs : List (ℕ × ℕ)) → Apart (map level rs) → longest_runs (cells_of rs) ≡ rs
unfolding prepend
longest_cells [] a = refl
longest_cells (r ∷ []) a = longest_replicate r.0 r.1 []
longest_cells (r ∷ q ∷ rs) a =
    longest_replicate r.0 r.1 (cells_of (q ∷ rs))
    ∙ ap (prepend r.0 r.1) (longest_cells (q ∷ rs) a.1)
    ∙ prepend_other r.0 r.1 q rs a.0

levels_prepend : (P : ℕ → Type 0) (v n : ℕ) (rs : List (ℕ × ℕ)) → P v → AllByRecursion (λ r. P r.0) rs → AllByRecursion (λ r. P r.0) (prepend v n rs)
unfolding prepend
levels_prepend P v n [] p a = (p, tt)
levels_prepend P v n (r ∷ rs) p a = grind (arith, prepend_same v n r rs, prepend_other v n r rs, cases_eq v r.0)

pub levels_longest : (P : ℕ → Type 0) (cells : List ℕ) → AllByRecursion P cells → AllByRecursion (λ r. P r.0) (longest_runs cells)
levels_longest P [] a = tt
levels_longest P (c ∷ cs) a = levels_prepend P c 0 (longest_runs cs) a.0 (levels_longest P cs a.1)

pub below_highest : (cells : List ℕ) → AllByRecursion (λ c. c ≤ highest cells) cells
below_highest cells = recursion_from_All (λ c. c ≤ highest cells) cells (max_bounds highest (λ c. c) refl (λ c cs. refl) cells)

pub highest_least : (k : ℕ) (cells : List ℕ) → AllByRecursion (λ c. c ≤ k) cells → highest cells ≤ k
highest_least k cells a = max_least highest (λ c. c) refl (λ c cs. refl) cells 0 k (λ i h. All-from_recursion (λ c. c ≤ k) cells a i 0 h)

-- a run of another level stays apart from the runs of cells
pub prepend_apart : (v m c n : ℕ) (rs : List (ℕ × ℕ)) → (c ≡ v → ⊥) → prepend v m (prepend c n rs) ≡ (v, m) ∷ prepend c n rs
unfolding prepend
prepend_apart v m c n [] ne = prepend_other v m (c, n) [] (λ e. ne (sym e))
prepend_apart v m c n (r ∷ rs) ne =
    grind (arith, prepend_same, prepend_other, cases_eq c r.0)
