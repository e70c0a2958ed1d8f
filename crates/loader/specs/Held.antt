-- What a loader holds and answers.
use Rattle.std.specs.Prelude.{◌≡◌, ℕ, List, Some, None, Ok, Err, Option, Result}
use Rattle.std.specs.Borrow.{Bor}
use Rattle.std.specs.List.{slice_get}
use Rattle.std.specs.Option.{option_and_then}
use Rattle.std.specs.Result.{result_map_both}
use Rattle.format.specs.Refusals.{refusal, told}
use Rattle.format.specs.declared.fault.Fault.{Fault}
use Rattle.format.specs.declared.fault.Layer.TheVariants as layer
use Rattle.format.specs.declared.fault.Refusal.{Refusal}
use Rattle.messages.specs.declared.field.Field.{Field}
use Rattle.messages.specs.declared.order.Last.TheVariants as last
use Rattle.messages.specs.Order.{held_field}
use Rattle.messages.specs.Messages.{Message, Means}
use Rattle.messages.specs.Meaning.{loaded_as, fields_in, coming}
use Rattle.loader.specs.declared.holder.Loader.{Loader}
use Rattle.loader.specs.declared.fields.Fields.{Fields}

-- the message that a loader holds, if it holds one, and its fields
abbrev pub held : Loader → Option Message
held l = option_and_then (λ h. loaded_as h.octets.now) l.message

abbrev pub held_fields : Loader → List (Field (List ℕ))
held_fields l = fields_in (held l)

-- the fields that are still to come
abbrev pub ahead : Fields → List (Field (List ℕ))
ahead w = coming (last.Data w.grid) w.rest.now

-- octets load as the message that is held
abbrev pub LoadsAs : List ℕ → Option Message → Type 0
LoadsAs s (Some m) = Means s (Ok m)
LoadsAs s None = ⊥

-- a load of the octets s: the loader before and after, and the answer
abbrev pub Loaded : List ℕ → Loader → Loader → Result (Unit {0}) Fault → Type 0
Loaded s before after (Ok _) = LoadsAs s (held after)
Loaded s before after (Err e) = Means s (Err (refusal e)) × (after ≡ before)

-- what is asked of field k: refusal 13 if there is no such field
abbrev pub found : {X : Type 0} → (Field (List ℕ) → X) → Option (Field (List ℕ)) → Result X Refusal
found ask None = Err (told 13 layer.Charts 0 0 0)
found ask (Some f) = Ok (ask f)

abbrev pub asked : {X : Type 0} → (Field (List ℕ) → X) → List (Field (List ℕ)) → ℕ → Result X Refusal
asked ask fs k = found ask (slice_get fs k)

abbrev pub itself : Field (List ℕ) → Field (List ℕ)
itself f = f

-- an answer that holds parts of the octets, as the octets themselves
abbrev pub held_answer : Result (Field (Bor (List ℕ))) Fault → Result (Field (List ℕ)) Refusal
held_answer r = result_map_both held_field refusal r
