-- Stretches of cells, and the runs of a buffer of them.
use Rattle.std.proofs.Common.{◌≡◌, ◌≢◌, ℕ, ◌+◌, ◌-◌, ◌*◌, ◌<◌, ◌≤◌, Bool, List, map, length, get_or, take, drop, eqb, sym, ap, ◌∙◌, subst, arith}
use Rattle.std.specs.List.{prefix_len}
use Rattle.std.proofs.lemmas.Bool.{eqb-true, eqb-false}
use Rattle.std.proofs.lemmas.List.{get_or-map, length-map, take-map, drop-map}
use Rattle.std.proofs.lemmas.List.Edits.{length-between, get_or-between}
use Rattle.std.proofs.lemmas.List.Folds.{length-prefix_len}
use Rattle.std.proofs.lemmas.List.Sums.{prefix_len-le-length, prefix_len_passes, prefix_len_stops}
use Rattle.charts.specs.Pictures.{pictured, RunAt}
use Rattle.charts.specs.Cells.{Stretch, padded}
use Rattle.charts.specs.Lawfulness.{padded_at}

-- the cells from the first on that tell what it tells
pub stretched : {X : Type 0} (f : X → ℕ) (xs : List X) (x : X) (level n : ℕ) → 0 < length xs → x ≡ get_or xs 0 x → level ≡ f x → n ≡ length (take (prefix_len (λ y. eqb (f y) level) xs) xs) → Stretch (map f xs) level n
stretched {X} f xs x level n some at tells count =
    let alike : X → Bool = λ y. eqb (f y) level in
    let is : n ≡ prefix_len alike xs = count ∙ length-prefix_len alike xs in
    let few = prefix_len-le-length alike xs in
    let told : (k : ℕ) → k < length xs → get_or (map f xs) k 0 ≡ f (get_or xs k x) = λ k lt. get_or-map f xs k x 0 lt in
    let first : level ≡ get_or (map f xs) 0 0 = tells ∙ ap f at ∙ sym (told 0 some) in
    let stops : n < length xs → get_or (map f xs) n 0 ≢ level = λ lt e. eqb-false (f (get_or xs n x)) level (rw is (prefix_len_stops alike xs x (omega arith))) (sym (told n lt) ∙ e) in
    record {
      first = first;
      some = λ _. grind (arith, stops, first);
      within = omega (arith, length-map xs f);
      same = λ k lt. told k (omega arith) ∙ eqb-true (f (get_or xs k x)) level (prefix_len_passes alike xs k x (omega arith));
      ends = λ lt. stops (omega (arith, length-map xs f));
    }

-- a stretch of a part of the buffer is a run
pub run_told : {X : Type 0} (f : X → ℕ) (xs : List X) (w h q end v n : ℕ) → length xs ≤ w * h → q < end → end ≤ length xs → Stretch (map f (take (end - q) (drop q xs))) v n → RunAt (pictured w h (padded (w * h) (map f xs))) q v n
run_told f xs w h q end v n held lt le found =
    let part : List ℕ = take (end - q) (drop q (map f xs)) in
    let is : map f (take (end - q) (drop q xs)) ≡ part = sym (ap (take (end - q)) (drop-map f q xs) ∙ take-map f (end - q) (drop q xs)) in
    let here : Stretch part v n = subst (λ (l : List ℕ). Stretch l v n) is found in
    let count : length part ≡ end - q = length-between (map f xs) q end (omega (arith, length-map xs f)) in
    let few = here.within in
    let one = here.some (omega arith) in
    record {
      some = λ _. one;
      within = λ _. omega arith;
      same = λ k below.
          padded_at (map f xs) (w * h - length (map f xs)) (q + k)
          ∙ sym (get_or-between (map f xs) q end k 0 (omega arith))
          ∙ here.same k below;
      past = λ out. absurd (omega arith);
    }
