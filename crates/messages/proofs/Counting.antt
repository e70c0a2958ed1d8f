-- Counting the fields of a message that is read through.
use Rattle.std.proofs.Common.{◌≡◌, ℕ, ◌+◌, ◌-◌, ◌<◌, ◌≤◌, cond, List, [], ◌++◌, map, length, drop, is_some, Some, None, Ok, Err, Option, sym, refl, ap, ◌∙◌, length-append, Bor}
use Rattle.std.specs.Option.{option_to_list}
use Rattle.format.specs.declared.fault.Refusal.{Refusal}
use Rattle.sections.specs.Rules.{judge}
use Rattle.messages.specs.declared.field.Field.{Field}
use Rattle.messages.specs.declared.order.Last.{Last}
use Rattle.messages.specs.declared.order.Last.TheVariants as last
use Rattle.messages.specs.Order.{held_field}
use Rattle.messages.specs.Messages.{Ended, head_checks, of_message}
use Rattle.messages.specs.Meaning.{Next, advance, meaning, counted}
use Rattle.messages.proofs.Following as follow
use Rattle.messages.proofs.Following.{Sofar, headed_by}
use Rattle.messages.proofs.Agreeing.{means_is}

-- some list of so many fields was finished
pub record Counting (s : List ℕ) (l : Last (List ℕ)) (n : ℕ) (r : List ℕ) : Type 0 where
  pub fields : List (Field (List ℕ))
  pub is : n ≡ length fields
  pub sofar : Sofar s l fields r

pub made_count : (o : Option (Field (Bor (List ℕ)))) → length (map held_field (option_to_list o)) ≡ cond (is_some o) 1 0
made_count None = refl
made_count (Some f) = refl

pub start : (s r : List ℕ) → Ok tt ≡ headed_by s (judge head_checks s) → r ≡ drop 16 s → Counting s last.Head 0 r
start s r h is = record { fields = []; is = refl; sofar = follow.start s r h is }

pub head_refuses : (s : List ℕ) (e : Refusal) → Err e ≡ headed_by s (judge head_checks s) → Err e ≡ counted (meaning s)
head_refuses s e h = ap counted (sym (means_is (follow.head_refuses s e h)))

module _ {s : List ℕ} {l : Last (List ℕ)} {n : ℕ} {r : List ℕ} (h : Counting s l n r) where
  pub trails : Ended l r → 4 < length r → Err (of_message 5 (length s - length r + 4) n) ≡ counted (meaning s)
  trails e more = ap (λ k. Err (of_message 5 (length s - length r + 4) k)) h.is ∙ ap counted (sym (means_is (follow.trails h.sofar e more)))

  pub ends : Ended l r → length r ≤ 4 → Ok n ≡ counted (meaning s)
  ends e most = ap (λ k. Ok k) h.is ∙ ap counted (sym (means_is (follow.ends h.sofar e most)))

  pub fails : (e : Refusal) → (Ended l r → ⊥) → Err e ≡ advance l (length s - length r) n r → Err e ≡ counted (meaning s)
  fails e live is = ap counted (sym (means_is (follow.fails h.sofar e live (rw h.is at is))))

  pub shorter : (m : Next) → (Ended l r → ⊥) → Ok m ≡ advance l (length s - length r) n r → length m.rest < length r
  shorter m live is = follow.shorter h.sofar m live (rw h.is at is)

  pub goes : (m : Next) (k : ℕ) → (Ended l r → ⊥) → Ok m ≡ advance l (length s - length r) n r → length m.made ≤ 1 → k ≡ n + length m.made → Counting s m.last k m.rest
  goes m k live is one e = record {
    fields = h.fields ++ m.made;
    is = e ∙ ap (λ i. i + length m.made) h.is ∙ sym (length-append h.fields m.made);
    sofar = follow.goes h.sofar m live (rw h.is at is) one;
  }
