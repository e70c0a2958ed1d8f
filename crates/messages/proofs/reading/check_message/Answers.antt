use Rattle.std.proofs.Common.{arith}
use Rattle.std.proofs.lemmas.Slice.{between_to_end}
use Rattle.std.proofs.lemmas.Bool.Decides.{not_from_Decides}
use Rattle.std.proofs.lemmas.Grind.{common_steps}
use Rattle.std.proofs.lemmas.Result.{err_from_is_err_and}
use Rattle.messages.proofs.Composed.{message_laws}
use Rattle.messages.proofs.Counting.{start, head_refuses, trails, ends, fails, shorter, goes, made_count}
use Rattle.messages.proofs.reading.check_message.Goals as goal
use Rattle.messages.proofs.reading.check_message.Goals.{then-is_some, else-is_some}

pub loop-last-init : goal.loop-last-init
loop-last-init c = start c.args.octets.now _ c.in_ok-check_head.ensures (between_to_end c.args.octets.now 16 _ (omega arith))

pub returns-in_err-check_head : goal.returns-in_err-check_head
returns-in_err-check_head c =
    let p = err_from_is_err_and c.from_residual.result c.from_residual.ensures.1 in
    record { counts = rw (p.1, p.2) (head_refuses c.args.octets.now _ c.in_err-check_head.ensures); laws = message_laws }

pub returns-then-rest-gt4 : goal.returns-then-rest-gt4
returns-then-rest-gt4 c = record { counts = trails c.loop-last.invariant (c.at_end.ensures.0 c.if-at_end.true) c.if-rest-gt4.true; laws = message_laws }

pub returns-then-at_end : goal.returns-then-at_end
returns-then-at_end c = record { counts = ends c.loop-last.invariant (c.at_end.ensures.0 c.if-at_end.true) c.if-rest-gt4.false; laws = message_laws }

pub returns-in_err-step : goal.returns-in_err-step
returns-in_err-step c =
    let p = err_from_is_err_and c.from_residual-in_err-step.result c.from_residual-in_err-step.ensures.1 in
    record { counts = rw (p.1, p.2) (fails c.loop-last.invariant _ (not_from_Decides _ c.at_end.ensures c.if-at_end.false) c.in_err-step.ensures); laws = message_laws }

pub loop-last-smaller : goal.loop-last-smaller
loop-last-smaller c = shorter c.loop-last.invariant _ (not_from_Decides _ c.at_end.ensures c.if-at_end.false) c.in_ok-step.ensures

pub loop-last-preserved : goal.loop-last-preserved
loop-last-preserved c =
    let made = c.in_ok-step.step.made in
    goes c.loop-last.invariant _ _ (not_from_Decides _ c.at_end.ensures c.if-at_end.false) c.in_ok-step.ensures (grind (arith, common_steps, made_count made))
    (grind (arith, common_steps, made_count made, c.if-is_some.branch))
