use Rattle.std.specs.Iterator.Adapters.{enumerate_source, enumerate_count}
use Rattle.loader.specs.Held.{ahead}
use Rattle.listing.proofs.Printing.{Printing}
use Rattle.listing.proofs.listing.write_fields.Given as goal

abbrev pub invariant-loop-number : goal.invariant-loop-number
invariant-loop-number g l =
    Printing g.W.Write.write_str_gives l.initial.f (ahead l.fields) (enumerate_count l.number-iterator) (ahead (enumerate_source l.number-iterator)) l.f
