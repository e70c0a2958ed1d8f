use Rattle.std.proofs.Common.{ℕ, suc, ◌+◌, ◌*◌, ◌<◌, ◌≤◌, length, ◌++◌, drop, get_or, replicate, ap, ◌∙◌, ⊎_elim, sym, arith}
use Rattle.std.proofs.lemmas.Bool.{cases_lt}
use Rattle.runs.specs.Runs.{base, leading_digits, digits_value, loaded}
use Rattle.runs.specs.Handed.{cells_in}
use Rattle.runs.proofs.DigitLoop.{leading_next, loaded_over, loaded_from}
use Rattle.loader.specs.Reading.{cells_from}
use Rattle.loader.specs.declared.packed.Packed.{Packed}
use Rattle.loader.proofs.Steps.{Stands, stands_more}
use Rattle.loader.proofs.packed.Packed.next_run.Goals as goal

stands : (p : Packed) → Stands (cells_in p.string) (cells_from p.string p.place) (p.size.width * p.size.height) p.first p.end p.level
stands p = record { left = p.left; rest = p.rest; hand = p.hand }

-- where cells are left, an octet is
inside : (p : Packed) → p.end < p.size.width * p.size.height → p.place < length p.string.octets.now
inside p more =
    ⊎_elim
    (λ (h : p.place < length p.string.octets.now). h)
    (λ (h : length p.string.octets.now ≤ p.place). absurd (omega (arith, ap length (loaded_over p.string.v p.string.octets.now p.place h), p.left)))
    (cases_lt p.place (length p.string.octets.now))

pub overflow_add-self : goal.overflow_add-self
overflow_add-self c = let here = inside c.args.self.now c.requires in omega arith

pub bounds-self-self : goal.bounds-self-self
bounds-self-self c = inside c.args.self.now c.requires

pub invariant_of-self : goal.invariant_of-self
invariant_of-self c =
    let self = c.args.self.now in
    let V = self.string.v in
    let s = self.string.octets.now in
    let r = c.read_run-run in
    let more : ℕ = digits_value (base V) (leading_digits V (drop (self.place + 1) s)) in
    let from = loaded_from V s self.place (inside self c.requires) self.led ∙ ap (λ xs. replicate (suc more) (get_or s self.place 0) ++ xs) (ap (λ p. loaded V (drop p s)) (sym r.ensures.next)) in
    let k = stands_more (loaded V (drop r.result.next s)) (stands self) more (get_or s self.place 0) from r.result.cells (omega (arith, self.size.sized)) r.ensures.cells in
    record { full = self.full; octets = self.octets; led = ap (λ p. leading_digits V (drop p s)) r.ensures.next ∙ leading_next V s (self.place + 1); left = k.left; rest = k.rest; hand = k.hand }
