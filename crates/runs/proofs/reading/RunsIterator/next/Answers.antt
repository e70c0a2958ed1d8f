use Rattle.std.proofs.Common.{◌≡◌, ℕ, suc, ◌+◌, ◌-◌, ◌<◌, List, ◌∷◌, length, get_or, drop, sym, refl, ap, ◌∙◌, arith, rules, drop-drop}
use Rattle.std.proofs.lemmas.List.{drop_all, at_drop_more}
use Rattle.runs.specs.Runs.{leading_digits}
use Rattle.runs.specs.Handed.{rest_of}
use Rattle.runs.proofs.DigitLoop.{leading_next}
use Rattle.runs.proofs.Handing.{is_over, hands_out}
use Rattle.runs.proofs.reading.RunsIterator.next.Goals as goal

pub returns-then-first-self-clause-steps : goal.returns-then-first-self-clause-steps
returns-then-first-self-clause-steps c =
    let w = c.args.self.now in
    is_over w (drop_all w.place w.octets.now (omega arith))

pub invariant_of-self : goal.invariant_of-self
invariant_of-self c =
    let w = c.args.self.now in
    record { begins = ap (λ p. leading_digits w.v (drop p w.octets.now)) c.read_run-end.ensures.next ∙ leading_next w.v w.octets.now (w.place + 1) }

pub returns : goal.returns
returns c =
    let w = c.args.self.now in
    let s = drop (w.place + 1) w.octets.now in
    let here : w.place < length w.octets.now = omega arith in
    let e : rest_of w ≡ get_or w.octets.now w.place 0 ∷ s = at_drop_more (λ (x : List ℕ). x) w.octets.now w.place 0 here in
    let r = c.read_run-end.ensures in
    let octets : c.read_run-end.result.next - w.place ≡ suc (length (leading_digits w.v s)) = omega (arith, r.next) in
    let rest = ap (λ p. drop p w.octets.now) r.next ∙ sym (drop-drop (length (leading_digits w.v s)) (w.place + 1) w.octets.now) in
    let h = hands_out w e _ refl rest _ (λ i. record { level = get_or w.octets.now w.place 0; cells = r.cells i; octets = octets i }) in
    let shorter = ap length h.first in
    record { steps = h; goes = search rules }
