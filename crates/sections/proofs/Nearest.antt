-- Quotients to the nearest whole number.
use Rattle.std.proofs.Common.{ℕ, suc, ◌*◌, ◌<◌, ◌≤◌, mod-lt, mul_comm, mul-le-mul_left, mul-suc, arith}
use native.Mathlib.Nat.{mod-add-div}
use Rattle.std.proofs.lemmas.Bool.{cases_lt}
use Rattle.std.proofs.lemmas.Bool.Decides.{nat_tests}
use Rattle.sections.specs.Positions.{nearest, NearestHalvesUp}

pub halves_up : NearestHalvesUp
halves_up a n h = grind (arith, nat_tests, mod-add-div a n, mod-lt a h)

-- a share k / n of d, with k at most n, is at most d
pub share_most : (d k n : ℕ) → 0 < n → k ≤ n → nearest (d * k) n ≤ d
share_most d k n some below =
    let near = (halves_up (d * k) n some).0 in
    grind (arith, near, cases_lt d (nearest (d * k) n), mul-le-mul_left d below, mul-le-mul_left {m = suc d} {n = nearest (d * k) n} n, mul-suc n d, mul_comm n d)
