use Rattle.std.proofs.Common.{◌≡◌, suc, ◌+◌, ◌-◌, ◌*◌, ◌<◌, min, [], length, get_or, drop, sym, ap, ◌∙◌, arith, length-drop}
use mathlib.Core.Path.{subst₂}
use Rattle.runs.specs.Runs.{base, leading_digits}
use Rattle.runs.proofs.DigitLoop.{Reading, leading_stops, leading_ends, done, one_more, leading_few}
use Rattle.runs.proofs.reading.read_run.Goals as goal
use Rattle.runs.proofs.reading.read_run.Goals.{then-place-string-via-then-place-string, then-place-string-via-else-place-string+then-string-place}

pub loop-place-preserved : goal.loop-place-preserved
loop-place-preserved c =
    let l = c.loop-place in
    let s = c.args.string.now in
    let here : l.place < length s = omega arith in
    let digit : get_or s l.place 0 - suc c.args.v ≡ c.from-digit.result = omega arith in
    let values : base c.args.v ≡ 255 - c.from-values.result = omega arith in
    let cells = ap (λ d. min (l.cells + d * l.weight) 4_294_967_296) digit ∙ sym c.min-cells.ensures in
    let weight = ap (λ b. min (l.weight * b) 4_294_967_296) values ∙ sym c.min-weight.ensures in
    subst₂ (λ n w. Reading 4_294_967_296 c.args.v s c.args.at n w (l.place + 1)) cells weight (one_more l.invariant here c.if-string-place.false)

pub returns : goal.returns
returns c =
    let s = c.args.string.now in
    let p = c.loop-place.place in
    let over : leading_digits c.args.v (drop p s) ≡ [] =
    elim c.then-place-string.branch [
      | then-place-string-via-then-place-string w ↦ leading_ends _ _ _ w.if-place-string.true
      | then-place-string-via-else-place-string+then-string-place w ↦
          let here : p < length s = omega arith in leading_stops _ _ _ here w.if-string-place.true
    ] in
    let r = done c.loop-place.invariant over in
    record { cells = r.0; next = r.1; within = λ h. omega (arith, r.1, leading_few c.args.v (drop c.args.at s), length-drop c.args.at s) }
