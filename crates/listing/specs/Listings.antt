-- The text that a listing writes.
use Rattle.std.specs.Prelude.{ℕ, List, ◌++◌, length, Ok, Err, Result}
use Rattle.format.specs.declared.fault.Fault.{Fault}
use Rattle.format.specs.Refusals.{refusal}
use Rattle.format.specs.RefusalText.{refusal_lines}
use Rattle.loader.specs.declared.holder.Loader.{Loader}
use Rattle.loader.specs.Held.{held_fields}
use Rattle.listing.specs.declared.listing.Listing.{Listing}
use Rattle.listing.specs.Lines.{top_lines, fields_lines}

abbrev pub written_of : Result Loader Fault → ℕ → List ℕ
written_of (Ok l) octets = top_lines octets (length (held_fields l)) ++ fields_lines 0 (held_fields l)
written_of (Err e) octets = refusal_lines (refusal e)

abbrev pub text_of : Listing → List ℕ
text_of x = written_of x.loaded x.octets
