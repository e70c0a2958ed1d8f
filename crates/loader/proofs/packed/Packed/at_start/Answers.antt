use Rattle.std.proofs.Common.{◌≡◌, map, length, drop, ap, ◌∙◌, arith}
use Rattle.runs.specs.Runs.{leading_digits, runs, loaded, measured, cells_of}
use Rattle.runs.proofs.DigitLoop.{runs_skip, leading_next}
use Rattle.runs.proofs.Levels.{loaded_low}
use Rattle.loader.proofs.Steps.{stands_none}
use Rattle.loader.proofs.packed.Packed.at_start.Goals as goal

pub invariant_of-result : goal.invariant_of-result
invariant_of-result c =
    let V = c.args.string.v in
    let s = c.args.string.octets.now in
    let next : c.read_run.result.next ≡ length (leading_digits V s) = omega (arith, c.read_run.ensures.next) in
    let all = ap (λ rs. cells_of (map (measured V) rs)) (ap (λ p. runs V (drop p s)) next ∙ runs_skip V s) in
    let k = stands_none (loaded V s) _ _ all c.requires in
    record { full = c.requires; octets = λ j. omega (arith, loaded_low V s j); led = ap (λ p. leading_digits V (drop p s)) c.read_run.ensures.next ∙ leading_next V s 0; left = k.left; rest = k.rest; hand = k.hand }
