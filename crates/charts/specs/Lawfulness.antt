-- Each kind of chart has a lawful picture, if those below have. These proofs stand here, not in proofs/, since an impl's
-- `ghost use` may name only what is in its own crate's specs/.
use Rattle.std.specs.Prelude.{◌≡◌, ℕ, zero, suc, ◌+◌, ◌-◌, ◌*◌, ◌/◌, ◌%◌, ◌≤◌, List, [], ◌∷◌, ◌++◌, map, length, replicate, ◌==◌, nat_lt, slice_index, slice_index_or, refl}
use Rattle.std.proofs.Common.{◌∙◌, arith}
use Rattle.std.specs.List.{range_with_len}
use Rattle.std.proofs.lemmas.Bool.{cond_both}
use Rattle.std.proofs.lemmas.List.{length-append, length-replicate, length-map}
use Rattle.std.proofs.lemmas.List.FromFn.{length-map-range_with_len}
use Rattle.format.specs.Limits.{Sized}
use Rattle.charts.specs.declared.cells.Cells.{Cells}
use Rattle.charts.specs.declared.overlay.Rule.{Rule}
use Rattle.charts.specs.declared.overlay.Rule.TheVariants.{Higher, Fill}
use Rattle.charts.specs.Pictures.{Picture, Lawful, level_at, drawn}
use Rattle.charts.specs.Cells.{octet_level, marked_level, cells_picture}
use Rattle.charts.specs.Recodings.{recoded}
use Rattle.charts.specs.Windows.{windowed}
use Rattle.charts.specs.Overlays.{merged, overlaid}

pub octet_low : (c : ℕ) → octet_level c ≤ 255
octet_low c = omega arith

pub marked_low : (rain cause : ℕ) → marked_level rain cause ≤ 255
marked_low rain cause = cond_both (cause == 1) (octet_level rain) 0 (λ x. x ≤ 255) (λ _. octet_low rain) (λ _. omega arith)

map_low : {X : Type 0} (f : X → ℕ) (xs : List X) → ((x : X) → f x ≤ 255) → (i : ℕ) → slice_index (map f xs) i ≤ 255
map_low f [] h i = omega arith
map_low f (x ∷ xs) h zero = h x
map_low f (x ∷ xs) h (suc i) = map_low f xs h i

-- what a list of zeros has at any index
pub zeros : (m i : ℕ) → slice_index_or {A = ℕ} (replicate m 0) i 0 ≡ 0
zeros (suc m) (suc i) = zeros m i
zeros m i = refl

-- zeros behind a list are what it has past its end
pub padded_at : (xs : List ℕ) (m i : ℕ) → slice_index (xs ++ replicate m 0) i ≡ slice_index xs i
padded_at [] m i = zeros m i
padded_at (x ∷ xs) m zero = refl
padded_at (x ∷ xs) m (suc i) = padded_at xs m i

pub lawful_cells : {C : Type 0} (tells : C → ℕ) → ((c : C) → tells c ≤ 255) → (c : Cells C) → Lawful (cells_picture tells c)
lawful_cells tells low c =
    let n : ℕ = c.size.width * c.size.height in
    let held : length c.cells.now ≤ n = c.held in
    record {
      sized = c.size.sized;
      full = simp (length-append, length-replicate, length-map) (omega arith);
      octets = λ k. rw (padded_at (map tells c.cells.now) (n - length (map tells c.cells.now)) k) (map_low tells c.cells.now low k);
    }

pub lawful_recoded : (table : List ℕ) (p : Picture) → Lawful p → ((k : ℕ) → slice_index table k ≤ 255) → Lawful (recoded table p)
lawful_recoded table p law low = record {
  sized = law.sized;
  full = length-map p.levels (λ v. slice_index table v) ∙ law.full;
  octets = map_low (λ v. slice_index table v) p.levels low;
}

level_low : (p : Picture) → Lawful p → (row column : ℕ) → level_at p row column ≤ 255
level_low p law row column =
    let low : (x : ℕ) → Type 0 = λ x. x ≤ 255 in
    cond_both (nat_lt row p.height) _ 0 low (λ _. cond_both (nat_lt column p.width) _ 0 low (λ _. law.octets (row * p.width + column)) (λ _. omega arith)) (λ _. omega arith)

lawful_drawn : (w h : ℕ) (f : ℕ → ℕ → ℕ) → Sized w h → ((i j : ℕ) → f i j ≤ 255) → Lawful (drawn w h f)
lawful_drawn w h f sized low = record {
  sized = sized;
  full = length-map-range_with_len (λ q. f (q / w) (q % w)) 0 (w * h);
  octets = map_low (λ q. f (q / w) (q % w)) (range_with_len 0 (w * h)) (λ q. low (q / w) (q % w));
}

pub lawful_windowed : (w h column row : ℕ) (p : Picture) → Sized w h → Lawful p → Lawful (windowed w h column row p)
lawful_windowed w h column row p sized law =
    lawful_drawn w h (λ i j. level_at p (row + i) (column + j)) sized (λ i j. level_low p law (row + i) (column + j))

merged_low : (rule : Rule) (a b : ℕ) → a ≤ 255 → b ≤ 255 → merged rule a b ≤ 255
merged_low Higher a b p q = omega arith
merged_low Fill a b p q = cond_both (a == 0) b a (λ x. x ≤ 255) (λ _. q) (λ _. p)

pub lawful_overlaid : (rule : Rule) (p s : Picture) → Lawful p → Lawful s → Lawful (overlaid rule p s)
lawful_overlaid rule p s law under =
    lawful_drawn p.width p.height (λ i j. merged rule (level_at p i j) (level_at s i j)) law.sized
    (λ i j. merged_low rule _ _ (level_low p law i j) (level_low s under i j))
