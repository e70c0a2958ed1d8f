use Rattle.std.proofs.Common.{Err, sym, ap, ◌∙◌, subst, arith}
use Rattle.runs.specs.StringFaults.{judged}
use Rattle.runs.proofs.Faultless.{faultless_loads, faulty}
use Rattle.runs.proofs.CheckLoop.{Checked, checked_none, checked_past, checked_more, checked_early, checked_all}
use Rattle.runs.proofs.reading.RunString.check.Goals as goal

pub returns-then-begins_with_digit-clause-law : goal.returns-then-begins_with_digit-clause-law
returns-then-begins_with_digit-clause-law c = faultless_loads

pub loop-run-init : goal.loop-run-init
loop-run-init c =
    let string = c.args.self.now in
    let all = c.runs-run-items in
    subst (λ w. Checked string.v c.args.cells string.octets.now w 0 0) (sym c.into_iter-run-iterator.ensures.into_iter_gives)
    (checked_none _ _ _ all.result (sym c.if-begins_with_digit.ensures.digit) all.ensures.v all.ensures.rest)

pub returns-then-run-all : goal.returns-then-run-all
returns-then-run-all c =
    let e = checked_past c.loop-run.invariant c.in-Some.ensures.steps (omega arith) c.if-run-all.true in
    record { tells = ap Err c.in_string-then-run-all.ensures ∙ sym (ap (judged _ _) e); loads = faulty _ _ _ _ e; law = faultless_loads }

pub loop-run-preserved : goal.loop-run-preserved
loop-run-preserved c = checked_more c.loop-run.invariant c.in-Some.ensures.steps (omega arith) c.if-run-all.false

pub returns-then-done-all : goal.returns-then-done-all
returns-then-done-all c =
    let e = checked_early c.loop-run.invariant c.in-None.ensures.steps c.if-done-all.true in
    record { tells = ap Err c.in_string-then-done-all.ensures ∙ sym (ap (judged _ _) e); loads = faulty _ _ _ _ e; law = faultless_loads }

pub returns : goal.returns
returns c =
    let string = c.args.self.now in
    let e = checked_all c.loop-run.invariant c.in-None.ensures.steps c.if-done-all.false in
    record {
      tells = sym (ap (judged _ _) e);
      loads = λ some. (faultless_loads string.v c.args.cells string.octets.now some c.begins_with_digit.ensures.octets).loads e;
      law = faultless_loads;
    }
