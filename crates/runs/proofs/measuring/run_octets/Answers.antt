use Rattle.std.proofs.Common.{rules, ◌≡◌, ℕ, suc, ◌+◌, ◌-◌, ◌*◌, ◌^◌, ◌<◌, ◌≤◌, ◌↔◌, Option, None, Some, MatchOption, IfSome, length, replicate, ap, arith}
use Rattle.std.specs.Option.{IsSome}
use Rattle.runs.specs.Runs.{base}
use Rattle.runs.specs.Canonical.{digits, longest_runs, runs_octets}
use Rattle.runs.proofs.Digits.{digits_zero, length-digits, digits_few}
use Rattle.runs.proofs.LengthLoop.{length_alike}
use Rattle.runs.proofs.measuring.run_octets.Goals as goal

-- there are as many digits as one more than the logarithm says, and none of 0
counted : (L n d : ℕ) (power : Option ℕ) → 2 ≤ L → IsSome power ↔ ((0 < n) × (2 ≤ L)) → IfSome power (λ k. L ^ k ≤ n) → IfSome power (λ k. n < L * L ^ k) → MatchOption power (d ≡ 0) (λ k. d ≡ k + 1) → d ≡ length (digits L n)
counted L n d None two some low high e =
    let none : n ≡ 0 = search (arith, some.1) in
    omega (arith, e, ap (λ m. length (digits L m)) none, ap length (digits_zero L))
counted L n d (Some k) two some low high e = omega (arith, e, length-digits L k n two low high)

pub returns : goal.returns
returns c =
    let V = c.args.v in
    let n = c.args.cells - 1 in
    let p = c.checked_ilog.ensures in
    let e : MatchOption c.checked_ilog.result (c.map_or-digits.result ≡ 0) (λ k. c.map_or-digits.result ≡ k + 1) = search rules in
    let d = counted (255 - c.from-values.result) n c.map_or-digits.result c.checked_ilog.result (omega arith) p.variant p.power_le p.next_power_gt e in
    let same : base V ≡ 255 - c.from-values.result = omega arith in
    let values = ap (λ b. length (digits b n)) same in
    let some : c.args.cells ≡ suc n = omega arith in
    record {
      octets = λ level. omega (arith, d, values, length_alike V level n, ap (λ m. length (runs_octets V (longest_runs (replicate m level)))) some);
      few = omega (arith, d, digits_few (255 - c.from-values.result) n n);
    }
