-- A part of a list that is cut to what there is.
use Rattle.std.proofs.Common.{◌≡◌, ℕ, ◌-◌, ◌^◌, ◌<◌, ◌≤◌, min, List, ◌++◌, length, take, drop, sym, ap, ◌∙◌, arith, length-drop, length-take}
use native.Mathlib.Nat.{pow-le-pow_right}
use borrow.Rule.Slice.PartMut.{put_mid}
use Rattle.std.proofs.lemmas.List.{drop_min, drop-drop, take_min}
use Rattle.format.specs.Written.{written}

pub part : (xs : List ℕ) (i k : ℕ) → take (min k (length xs - min i (length xs))) (drop (min i (length xs)) xs) ≡ take k (drop i xs)
part xs i k =
    let f : ℕ = min i (length xs) in
    let left : length xs - f ≡ length (drop f xs) = sym (length-drop f xs) in
    ap (λ n. take (min k n) (drop f xs)) left ∙ take_min k (drop f xs) ∙ ap (take k) (drop_min i xs)

pub part_bound : (xs : List ℕ) (k r : ℕ) → r < 256 ^ length (take k xs) → r < 256 ^ k
part_bound xs k r h =
    let short : length (take k xs) ≤ k = omega (arith, length-take k xs) in
    let more : 256 ^ length (take k xs) ≤ 256 ^ k = pow-le-pow_right (omega arith) short in
    omega arith

-- a part of a buffer that was replaced
pub put_written : (place k : ℕ) (buffer new octets : List ℕ) → new ≡ octets → length octets ≡ k → put_mid place k buffer new ≡ written buffer place octets
unfolding written
put_written place k buffer new octets same count =
    rw (sym count) (λ i. take place buffer ++ (same i ++ drop-drop (length octets) place buffer i))
