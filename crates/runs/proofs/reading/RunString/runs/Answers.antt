use Rattle.std.proofs.Common.{◌≡◌, map, length, drop, refl, ap, ◌∙◌, arith}
use Rattle.runs.specs.Runs.{leading_digits, runs, measured, cells_of}
use Rattle.runs.specs.Handed.{handed}
use Rattle.runs.proofs.DigitLoop.{runs_skip, leading_next}
use Rattle.runs.proofs.reading.RunString.runs.Goals as goal

pub invariant_of-result : goal.invariant_of-result
invariant_of-result c =
    let string = c.args.self.now in
    record { begins = ap (λ p. leading_digits string.v (drop p string.octets.now)) c.read_run.ensures.next ∙ leading_next string.v string.octets.now 0 }

pub returns : goal.returns
returns c =
    let string = c.args.self.now in
    let next : c.read_run.result.next ≡ length (leading_digits string.v string.octets.now) = omega (arith, c.read_run.ensures.next) in
    let rest = ap (λ p. drop p string.octets.now) next in
    let same = ap (runs string.v) rest ∙ runs_skip string.v string.octets.now in
    record { v = refl; rest = rest; coming = ap (map (handed string.v)) same; cells = ap (λ rs. cells_of (map (measured string.v) rs)) same }
