use Rattle.std.proofs.Common.{◌≡◌, ◌-◌, ◌*◌, ◌≤◌, sym, ◌∙◌, arith}
use Rattle.std.proofs.lemmas.Bool.{ne_eqb, cond-false}
use Rattle.sections.specs.Positions.{nearest}
use Rattle.sections.proofs.Nearest.{share_most}
use Rattle.sections.proofs.frame.along.Goals as goal

-- what the call answers, in the parameters
share : (c : goal.After-nearest) → (c.nearest.result ≡ nearest (c.args.span * c.args.k) (c.args.count - 1)) × (c.nearest.result ≤ c.args.span)
share c =
    let e : c.nearest.result ≡ nearest (c.args.span * c.args.k) (c.args.count - 1) = c.nearest.ensures ∙ (λ i. nearest (c.from.ensures i * c.from-2.ensures i) (c.from-3.ensures i)) in
    (e, rw e (share_most c.args.span c.args.k (c.args.count - 1) (omega arith) (omega arith)))

pub returns : goal.returns
returns c = record {
  value = (share c).0 ∙ sym (cond-false _ _ _ (ne_eqb c.args.count 1 c.if-count-eq1.false));
  bound = (share c).1;
}
