use Rattle.std.proofs.Common.{◌≡◌, ℕ, ◌+◌, ◌-◌, ◌^◌, ◌<◌, min, List, length, take, drop, ap, ◌∙◌, subst, arith}
use Rattle.format.specs.Numbers.{number}
use Rattle.format.proofs.Parts.{part, part_bound}
use Rattle.format.proofs.numbers.field.Goals as goal

pub returns : goal.returns
returns c =
    let s = c.args.octets.now in
    let f = c.min-first.result in
    let k : ℕ = min c.args.width 8 in
    let i : ℕ = c.args.octet - 1 in
    let first : f ≡ min i (length s) = omega arith in
    let count : f + c.min-count.result - f ≡ min k (length s - min i (length s)) = omega arith in
    let same : take (f + c.min-count.result - f) (drop f s) ≡ take k (drop i s) = (λ j. take (count j) (drop (first j) s)) ∙ part s i k in
    record {
      value = c.number.ensures.value ∙ ap number same;
      bound = part_bound (drop i s) k _ (subst (λ (l : List ℕ). c.number.result < 256 ^ length l) same c.number.ensures.bound);
    }
