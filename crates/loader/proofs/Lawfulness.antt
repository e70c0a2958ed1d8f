-- The fields that a loader holds are lawful.
use Rattle.std.proofs.Common.{◌≡◌, ℕ, zero, suc, List, [], ◌∷◌, Some, None, Ok, Option, refl, subst}
use Rattle.std.specs.List.{AllByRecursion}
use Rattle.std.specs.Option.{option_and_then}
use Rattle.messages.specs.declared.field.Field.{Field}
use Rattle.messages.specs.Lawful.{LawfulField}
use Rattle.messages.specs.Messages.{Message}
use Rattle.messages.specs.Meaning.{loaded_as, fields_in}
use Rattle.messages.proofs.LawfulReads.{means_lawful}
use Rattle.loader.specs.declared.holder.Held.{Held}
use Rattle.loader.specs.declared.holder.Loader.{Loader}
use Rattle.loader.specs.Held.{held_fields, asked, itself}
use Rattle.loader.proofs.Coming.{FieldList}
use Rattle.loader.proofs.Starting.{loads_as}

-- the fields that octets load as are lawful
pub octets_lawful : (s : List ℕ) → AllByRecursion LawfulField (fields_in (loaded_as s))
octets_lawful s = go (loaded_as s) refl
  where
    go : (o : Option Message) → loaded_as s ≡ o → AllByRecursion LawfulField (fields_in o)
    go None e = tt
    go (Some m) e = means_lawful (loads_as s m e) m refl

pub held_lawful : (l : Loader) → AllByRecursion LawfulField (held_fields l)
held_lawful l = go l.message
  where
    go : (o : Option Held) → AllByRecursion LawfulField (fields_in (option_and_then (λ h. loaded_as h.octets.now) o))
    go None = tt
    go (Some h) = octets_lawful h.octets.now

-- so is a field that is found among them
pub found_lawful : (l : Loader) (k : ℕ) (f : Field (List ℕ)) → Ok f ≡ asked itself (held_fields l) k → LawfulField f
found_lawful l k f e = go (held_fields l) k (held_lawful l) e
  where
    go : (fs : FieldList) (k : ℕ) → AllByRecursion LawfulField fs → Ok f ≡ asked itself fs k → LawfulField f
    go (x ∷ fs) zero a e = let q : x ≡ f = cc in subst LawfulField q a.0
    go (x ∷ fs) (suc k) a e = go fs k a.1 e
    go [] k a e = cc
