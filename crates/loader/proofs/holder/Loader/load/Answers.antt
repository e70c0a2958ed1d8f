use Rattle.std.proofs.Common.{refl}
use Rattle.std.proofs.lemmas.Result.{err_from_is_err_and}
use Rattle.messages.proofs.Composed.{message_laws}
use Rattle.loader.proofs.Starting.{loads, refused}
use Rattle.loader.proofs.holder.Loader.load.Goals as goal

pub returns-in_err-count : goal.returns-in_err-count
returns-in_err-count c =
    let p = err_from_is_err_and c.from_residual.result c.from_residual.ensures.1 in
    record { loads = rw (p.1, p.2) (refused c.args.octets.now _ c.in_err-count.ensures.counts, refl); laws = message_laws }

pub invariant_of-self : goal.invariant_of-self
invariant_of-self c = record { known = (loads c.args.octets.now _ c.in_ok-count.ensures.counts).0 }

pub returns : goal.returns
returns c = record { loads = (loads c.args.octets.now _ c.in_ok-count.ensures.counts).1; laws = message_laws }
