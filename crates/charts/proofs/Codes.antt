-- Tables of levels, and the runs of a recoded picture.
use Rattle.std.proofs.Common.{◌≡◌, ℕ, ◌+◌, ◌*◌, ◌<◌, ◌≤◌, List, get_or, ap, ◌∙◌, arith}
use Rattle.std.proofs.lemmas.List.{get_or-map}
use Rattle.charts.specs.Pictures.{Picture, Lawful, RunAt}
use Rattle.charts.specs.Recodings.{recoded}

pub run_recoded : (table : List ℕ) (p : Picture) (q v u n : ℕ) → Lawful p → RunAt p q v n → 1 ≤ n → u ≡ get_or table v 0 → RunAt (recoded table p) q u n
run_recoded table p q v u n law run some e =
    let lt : q < p.width * p.height = grind (arith, run.past) in
    let end = run.within lt in
    let full = law.full in
    rw e (record {
      some = run.some;
      within = run.within;
      same = λ k h. get_or-map (λ x. get_or table x 0) p.levels (q + k) 0 0 (omega arith) ∙ ap (λ x. get_or table x 0) (run.same k h);
      past = λ out. absurd (omega arith);
    })
