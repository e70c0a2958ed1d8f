-- The outcome of a message as a function of its octets, step by step: the rules give the same outcome, and no other.
use Rattle.std.specs.Prelude.{ℕ, zero, suc, ◌+◌, ◌-◌, Bool, false, if◌then◌else◌, List, [], ◌++◌, length, take, drop, Some, None, Ok, Err, Option, Result, ◌==◌, nat_lt, slice_index}
use Rattle.std.specs.Result.{result_and}
use Rattle.std.specs.Str.{bytes_eq}
use Rattle.format.specs.Sections.{number_of}
use Rattle.format.specs.declared.fault.Layer.TheVariants as layer
use Rattle.format.specs.declared.fault.Refusal.{Refusal}
use Rattle.runs.specs.StringFaults as string
use Rattle.sections.specs.Rules.{Flaw, judge, judged, checks_for}
use Rattle.messages.specs.declared.field.Field.{Field}
use Rattle.messages.specs.declared.order.Last.{Last}
use Rattle.messages.specs.declared.order.Last.TheVariants as last
use Rattle.messages.specs.declared.order.Due.{Due}
use Rattle.messages.specs.Order.{follows}
use Rattle.messages.specs.Messages.{Message, Outcome, Fields, head_checks, stated, mark, section_of, rules_of, string_fault, leaves, finishes, of_message, message_of}

-- what one section leaves: the section just read, the field that it finishes, and the octets after it
pub record Next : Type 0 where
  pub last : Last (List ℕ)
  pub made : List (Field (List ℕ))
  pub rest : List ℕ

-- the verdict on a section's rules, and then on its string
abbrev pub verdict : Due (List ℕ) → ℕ → ℕ → List ℕ → Result (Unit {0}) Refusal
verdict d p n s = result_and {T = Unit {0}} (judged (layer.Section (number_of (section_of d))) p n (judge (checks_for (rules_of d)) s) tt) (string.judged (p + 5) n (string_fault d s))

-- what a section leaves that keeps its rules
abbrev pub next_of : Due (List ℕ) → List ℕ → List ℕ → Next
next_of d s after = record { last = leaves d s; made = finishes d s; rest = after }

abbrev pub taken : Due (List ℕ) → ℕ → ℕ → List ℕ → List ℕ → Result Next Refusal
taken d p n s after = result_and (verdict d p n s) (Ok (next_of d s after))

abbrev pub chosen : Option (Due (List ℕ)) → ℕ → ℕ → List ℕ → Result Next Refusal
chosen None p n r = Err (of_message 4 (p + 4) n)
chosen (Some d) p n r = if nat_lt (length r) (stated r) then Err (of_message 1 p n) else taken d p n (take (stated r) r) (drop (stated r) r)

-- one section, where no end mark stands
abbrev pub advance : Last (List ℕ) → ℕ → ℕ → List ℕ → Result Next Refusal
advance l p n r = if nat_lt (length r) 5 then Err (of_message 1 p n) else chosen (follows l (slice_index r 4)) p n r

-- whether the end mark stands here
abbrev pub ended : Last (List ℕ) → List ℕ → Bool
ended last.Head r = false
ended last.Identification r = false
ended (last.Frame g) r = false
ended (last.Product g p) r = false
ended (last.Packing g p k) r = false
ended (last.Bitmap g p k) r = false
ended (last.Data g) r = bytes_eq (take 4 r) mark

abbrev pub onward : (Next → Fields) → Result Next Refusal → Fields
onward f (Ok n) = f n
onward f (Err e) = Err e

-- the sections from here on, at most as many as the first number says
abbrev pub read_by : ℕ → Last (List ℕ) → ℕ → List (Field (List ℕ)) → List ℕ → Fields
read_by zero l p fs r = Err (of_message 1 p (length fs))
read_by (suc k) l p fs r =
    let on = onward (λ n. read_by k n.last (p + (length r - length n.rest)) (fs ++ n.made) n.rest) (advance l p (length fs) r) in
    if ended l r then if length r == 4 then Ok fs else Err (of_message 5 (p + 4) (length fs)) else on

-- the verdict on section 0, and then the sections after it
abbrev pub opened : List ℕ → Option Flaw → Outcome
opened s None = message_of s (read_by (length s) last.Head 16 [] (drop 16 s))
opened s (Some f) = Err (of_message f.number (f.octet - 1) 0)

abbrev pub meaning : List ℕ → Outcome
meaning s = opened s (judge head_checks s)

-- the answer of a check that only counts the fields
abbrev pub counted : Outcome → Result ℕ Refusal
counted (Ok m) = Ok (length m.fields)
counted (Err e) = Err e

-- the fields of an outcome: none, if it is a refusal
abbrev pub fields_of : Fields → List (Field (List ℕ))
fields_of (Ok fs) = fs
fields_of (Err e) = []

abbrev pub message_in : Outcome → Option Message
message_in (Ok m) = Some m
message_in (Err e) = None

abbrev pub fields_in : Option Message → List (Field (List ℕ))
fields_in (Some m) = m.fields
fields_in None = []

-- the message that octets load as, if they do
unfoldable pub loaded_as : List ℕ → Option Message
loaded_as s = message_in (meaning s)

-- the fields that come from here on
unfoldable pub coming : Last (List ℕ) → List ℕ → List (Field (List ℕ))
coming l r = fields_of (read_by (suc (length r)) l 0 [] r)
