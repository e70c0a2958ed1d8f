-- The figures of a lawful field.
use Rattle.std.proofs.Common.{◌≡◌, ℕ, List, length, Some, None, Option, unwrap_or, ap, sym, subst, ◌∙◌, arith, MatchOption}
use Rattle.runs.specs.Canonical.{Storable, canonical}
use Rattle.runs.proofs.Levels.{loaded_most}
use Rattle.messages.specs.declared.field.Field.{Field}
use Rattle.messages.specs.Lawful.{LawfulField, levels_of}

storable : (f : Field (List ℕ)) → LawfulField f → Storable (levels_of f)
storable f h = record { count = omega (arith, h.cells, h.sized.cells_limit); low = omega (arith, loaded_most f.packing.v f.string, h.provided, h.valued) }

-- the length that is measured of its canonical string
pub shortest : (f : Field (List ℕ)) (cells : List ℕ) (r : Option ℕ) (n : ℕ) → LawfulField f → cells ≡ levels_of f → MatchOption r (Storable cells → ⊥) (λ n. Storable cells × (n ≡ length (canonical cells))) → n ≡ unwrap_or r 0 → n ≡ length (canonical (levels_of f))
shortest f cells None n h same cases e = absurd (cases (subst Storable (sym same) (storable f h)))
shortest f cells (Some m) n h same cases e = e ∙ cases.1 ∙ ap (λ l. length (canonical l)) same
