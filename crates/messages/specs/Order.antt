-- Which section may follow which.
use Rattle.std.specs.Prelude.{ℕ, if◌then◌else◌, List, Some, None, Option, ◌==◌}
use Rattle.std.specs.Borrow.{Bor}
use Rattle.sections.specs.Sections.{held_packing}
use Rattle.messages.specs.declared.field.Field.{Field}
use Rattle.messages.specs.declared.order.Last.{Last}
use Rattle.messages.specs.declared.order.Last.TheVariants as last
use Rattle.messages.specs.declared.order.Due.{Due}
use Rattle.messages.specs.declared.order.Due.TheVariants as due

-- which section a number announces after the section just read: 1 first, then 3, 4, 5, 6, 7, and after a 7 a 3 or a 4
abbrev pub follows : {P : Type 0} → Last P → ℕ → Option (Due P)
follows last.Head n = if n == 1 then Some due.Identification else None
follows last.Identification n = if n == 3 then Some due.Frame else None
follows (last.Frame g) n = if n == 4 then Some (due.Product g) else None
follows (last.Product g p) n = if n == 5 then Some (due.Packing g p) else None
follows (last.Packing g p k) n = if n == 6 then Some (due.Bitmap g p k) else None
follows (last.Bitmap g p k) n = if n == 7 then Some (due.Data g p k) else None
follows (last.Data g) n = if n == 3 then Some due.Frame else if n == 4 then Some (due.Product g) else None

-- what the code holds as parts of the octets, as the octets themselves
abbrev pub held_last : Last (Bor (List ℕ)) → Last (List ℕ)
held_last last.Head = last.Head
held_last last.Identification = last.Identification
held_last (last.Frame g) = last.Frame g
held_last (last.Product g p) = last.Product g p.now
held_last (last.Packing g p k) = last.Packing g p.now (held_packing k)
held_last (last.Bitmap g p k) = last.Bitmap g p.now (held_packing k)
held_last (last.Data g) = last.Data g

abbrev pub held_due : Due (Bor (List ℕ)) → Due (List ℕ)
held_due due.Identification = due.Identification
held_due due.Frame = due.Frame
held_due (due.Product g) = due.Product g
held_due (due.Packing g p) = due.Packing g p.now
held_due (due.Bitmap g p k) = due.Bitmap g p.now (held_packing k)
held_due (due.Data g p k) = due.Data g p.now (held_packing k)

abbrev pub held_field : Field (Bor (List ℕ)) → Field (List ℕ)
held_field f = record { frame = f.frame; product = f.product.now; packing = held_packing f.packing; string = f.string.now }
