-- A buffer that is filled run by run.
use Rattle.std.proofs.Common.{◌≡◌, ℕ, ◌+◌, ◌-◌, ◌<◌, ◌≤◌, List, ◌++◌, length, get_or, take, drop, replicate, sym, ap, ◌∙◌, ap₂, arith, length-drop, length-take, get_or-drop, take-add}
use borrow.Rule.Slice.PartMut.{put_mid}
use Rattle.std.proofs.lemmas.List.{ext_get_or, get_or-take, get_or-replicate, length-replicate}
use Rattle.std.proofs.lemmas.Slice.{take-put_mid}

pub one_more : (buffer part levels : List ℕ) (q n v : ℕ) → take q buffer ≡ take q levels → q + n ≤ length buffer → q + n ≤ length levels → part ≡ replicate (length (take (q + n - q) (drop q buffer))) v → ((k : ℕ) → k < n → get_or levels (q + k) 0 ≡ v) → take (q + n) (put_mid q (q + n - q) buffer part) ≡ take (q + n) levels
one_more buffer part levels q n v before room full is same =
    let whole : length (take (q + n - q) (drop q buffer)) ≡ n = simp (length-take, length-drop) (omega arith) in
    let filled : part ≡ replicate n v = is ∙ ap (λ m. replicate m v) whole in
    let count : length part ≡ n = ap length filled ∙ length-replicate n v in
    let run : take n (drop q levels) ≡ replicate n v = ext_get_or 0 _ _ (simp (length-take, length-drop, length-replicate) (omega arith)) (λ k h.
    let b : k < n = omega (arith, length-take n (drop q levels)) in
    get_or-take n (drop q levels) k 0 b ∙ get_or-drop q levels k 0 ∙ same k b ∙ sym (get_or-replicate n k v 0 b)) in
    take-put_mid q (q + n - q) buffer part (q + n) (omega arith) (omega arith)
    ∙ ap₂ ◌++◌ before (filled ∙ sym run)
    ∙ sym (take-add q n levels)
