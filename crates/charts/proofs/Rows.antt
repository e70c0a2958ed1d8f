-- Runs within a row.
use Rattle.std.proofs.Common.{◌≡◌, ℕ, ◌+◌, ◌-◌, ◌*◌, ◌/◌, ◌%◌, ◌<◌, ◌≤◌, min, sym, ap, ◌∙◌, ap₂, add_assoc, arith}
use Rattle.std.proofs.lemmas.Nat.{div-add-mod', div-mul-add, mod-mul-add, mul-add-lt, div_below, mod_below}
use Rattle.std.proofs.lemmas.List.FromFn.{get_or-map-range_with_len}
use Rattle.std.proofs.lemmas.Bool.Decides.{nat_tests}
use Rattle.std.proofs.lemmas.Bool.{lt-ltb}
use Rattle.charts.specs.declared.overlay.Rule.{Rule}
use Rattle.charts.specs.Pictures.{Picture, RunAt, RowRun, level_at, drawn}
use Rattle.charts.specs.Windows.{windowed}
use Rattle.charts.specs.Overlays.{merged, overlaid}

-- k cells on in the same row
walk_row : (w q k : ℕ) → q % w + k < w → (q + k) / w ≡ q / w
walk_row w q k h =
    let e : q + k ≡ q / w * w + (q % w + k) = omega (arith, div-add-mod' q w) in
    rw e (div-mul-add (q / w) w (q % w + k) h)

walk_column : (w q k : ℕ) → q % w + k < w → (q + k) % w ≡ q % w + k
walk_column w q k h =
    let e : q + k ≡ q / w * w + (q % w + k) = omega (arith, div-add-mod' q w) in
    ap (λ x. x % w) e ∙ mod-mul-add (q / w) w (q % w + k) h

-- what is left of the row lies in the picture
pub row_within : (w h q n : ℕ) → 0 < w → q < w * h → q % w + n ≤ w → q + n ≤ w * h
row_within w h q n pos lt le =
    let row : q / w < h = div_below q w h pos (omega arith) in
    omega (arith, div-add-mod' q w, mul-add-lt (q / w) w (w - 1) h row (omega arith))

-- a run of a picture that is drawn by row and column
pub run_drawn : (w h : ℕ) (f : ℕ → ℕ → ℕ) (q v n : ℕ) → 0 < w → q < w * h → 1 ≤ n → q % w + n ≤ w → ((k : ℕ) → k < n → f (q / w) (q % w + k) ≡ v) → RunAt (drawn w h f) q v n
run_drawn w h f q v n pos lt some le same =
    let end = row_within w h q n pos lt le in
    record {
      some = λ _. some;
      within = λ _. end;
      same = λ k below.
          get_or-map-range_with_len (λ x. f (x / w) (x % w)) 0 (w * h) (q + k) (q + k) 0 (omega arith) (omega arith)
          ∙ rw (walk_row w q k (omega arith), walk_column w q k (omega arith)) (same k below);
      past = λ out. absurd (omega arith);
    }

level_outside : (p : Picture) (row column : ℕ) → p.width ≤ column → level_at p row column ≡ 0
level_outside p row column wide = grind (arith, nat_tests)

-- a run that was asked for at a row and a column, where the width was asked for first
module _ (p : Picture) (row column v m width : ℕ) (wide : width ≡ p.width) (low : row < p.height) (answer : RunAt p (row * width + column) v m) where
  run : RunAt p (row * p.width + column) v m
  run = rw wide at answer

  level_run : (k : ℕ) → k < m → column + k < p.width → level_at p row (column + k) ≡ v
  level_run k below lt =
      rw (lt-ltb row p.height low, lt-ltb (column + k) p.width lt, ← add_assoc (row * p.width) column k) (run.same k below)

  -- a run of level 0 to the end of the row goes on outside
  pub row_zero : (most : ℕ) → v ≡ 0 → p.width - column ≤ m → RowRun p row column most 0 most
  row_zero most zero reach = record {
    some = λ h. h;
    within = omega arith;
    same = λ k h.
        grind (arith, level_run k, level_outside p row (column + k));
  }

  pub row_part : (most n : ℕ) → column < p.width → n ≡ min (min m (p.width - column)) most → RowRun p row column most v n
  row_part most n narrow is =
      let one : 1 ≤ m = run.some (mul-add-lt row p.width column p.height low narrow) in
      record {
        some = λ h. omega arith;
        within = omega arith;
        same = λ k h. level_run k (omega arith) (omega arith);
      }

-- the runs of a window, and of an overlay
pub run_windowed : (w h column row : ℕ) (p : Picture) (q v n : ℕ) → 0 < w → q < w * h → RowRun p (row + q / w) (column + q % w) (w - q % w) v n → RunAt (windowed w h column row p) q v n
run_windowed w h column row p q v n pos lt run =
    let rem : q % w < w = mod_below q w pos in
    run_drawn w h (λ i j. level_at p (row + i) (column + j)) q v n pos lt (run.some (omega arith)) (omega (arith, run.within))
    (λ k below. ap (level_at p (row + q / w)) (sym (add_assoc column (q % w) k)) ∙ run.same k below)

pub run_overlaid : (rule : Rule) (p s : Picture) (q a m most b n : ℕ) → 0 < p.width → q < p.width * p.height → RunAt p q a m → most ≡ min m (p.width - q % p.width) → RowRun s (q / p.width) (q % p.width) most b n → RunAt (overlaid rule p s) q (merged rule a b) n
run_overlaid rule p s q a m most b n pos lt first is second =
    let w : ℕ = p.width in
    let rem : q % w < w = mod_below q w pos in
    let one : 1 ≤ m = first.some lt in
    let low : q / w < p.height = div_below q w p.height pos (omega arith) in
    let at : (k : ℕ) → q / w * w + (q % w + k) ≡ q + k = λ k. omega (arith, div-add-mod' q w) in
    run_drawn w p.height (λ i j. merged rule (level_at p i j) (level_at s i j)) q (merged rule a b) n pos lt (second.some (omega arith)) (omega (arith, second.within))
    (λ k below.
    let narrow : q % w + k < w = omega (arith, second.within) in
    let own : level_at p (q / w) (q % w + k) ≡ a = rw (lt-ltb (q / w) p.height low, lt-ltb (q % w + k) w narrow, at k) (first.same k (omega (arith, second.within))) in
    ap₂ (merged rule) own (second.same k below))
