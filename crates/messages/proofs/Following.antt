-- A step of the code is a rule of the reading.
use Rattle.std.proofs.Common.{◌≡◌, ℕ, ◌+◌, ◌-◌, ◌<◌, ◌≤◌, Bool, true, false, cond, ltb, List, [], ◌++◌, length, get_or, take, drop, Some, None, Ok, Err, Option, Result, sym, refl, ap, ◌∙◌, subst, arith, length-append, length-drop, length-take}
use mathlib.Core.Path.{subst₃}
use Rattle.std.proofs.lemmas.Bool.{ltb-true, ltb-false, leb-true}
use Rattle.format.specs.Sections.{number_of}
use Rattle.format.specs.declared.fault.Layer.TheVariants as layer
use Rattle.format.specs.declared.fault.Refusal.{Refusal}
use Rattle.runs.specs.StringFaults as string
use Rattle.sections.specs.Rules.{Flaw, judge, judged, checks_for}
use Rattle.sections.proofs.Firsts.{all_pass}
use Rattle.messages.specs.declared.field.Field.{Field}
use Rattle.messages.specs.declared.order.Last.{Last}
use Rattle.messages.specs.declared.order.Last.TheVariants as last
use Rattle.messages.specs.declared.order.Due.{Due}
use Rattle.messages.specs.Order.{follows}
use Rattle.messages.specs.Messages.{Means, Reads, Fields, Ended, head_checks, stated, section_of, rules_of, string_fault, leaves, finishes, of_message, message_of}
use Rattle.messages.specs.Messages.Reads.{whole, trailing, short, disorder, overlong, flawed, faulty, sound}
use Rattle.messages.specs.Messages.Means.{headless, headed}
use Rattle.std.specs.Result.{result_and}
use Rattle.messages.specs.Meaning.{Next, advance, chosen, taken}
use Rattle.messages.proofs.Lengths.{five}

module _ (l : Last (List ℕ)) (p : ℕ) (fs : List (Field (List ℕ))) (r : List ℕ) where
  -- what a step answers, by the rules
  abbrev pub Says : Result Next Refusal → Type 0
  Says (Ok n) = ((o : Fields) → Reads n.last (p + (length r - length n.rest)) (fs ++ n.made) n.rest o → Reads l p fs r o) × (length n.rest < length r)
  Says (Err e) = Reads l p fs r (Err e)

  pub says : (Ended l r → ⊥) → Says (advance l p (length fs) r)
  says live = at_length (ltb (length r) 5) refl
    where
      at_string : (d : Due (List ℕ)) → 5 ≤ length r → follows l (get_or r 4 0) ≡ Some d → stated r ≤ length r → judge (checks_for (rules_of d)) (take (stated r) r) ≡ None
          → (v : Option string.Flaw) → string_fault d (take (stated r) r) ≡ v
          → Says (result_and (string.judged (p + 5) (length fs) v) (Ok (record { last = leaves d (take (stated r) r); made = finishes d (take (stated r) r); rest = drop (stated r) r })))
      at_string d long next fits ok None e =
          let most = five d (take (stated r) r) ok in
          let some : 5 ≤ stated r = omega (arith, length-take (stated r) r) in
          let left : length (drop (stated r) r) ≡ length r - stated r = length-drop (stated r) r in
          let on : p + (length r - length (drop (stated r) r)) ≡ p + stated r = omega arith in
          ((λ o h. sound live long next fits ok e (subst (λ q. Reads (leaves d (take (stated r) r)) q (fs ++ finishes d (take (stated r) r)) (drop (stated r) r) o) on h)), omega arith)
      at_string d long next fits ok (Some f) e = faulty live long next fits ok e

      at_flaw : (d : Due (List ℕ)) → 5 ≤ length r → follows l (get_or r 4 0) ≡ Some d → stated r ≤ length r → (v : Option Flaw) → judge (checks_for (rules_of d)) (take (stated r) r) ≡ v
          → Says (result_and (result_and {T = Unit {0}} (judged (layer.Section (number_of (section_of d))) p (length fs) v tt) (string.judged (p + 5) (length fs) (string_fault d (take (stated r) r)))) (Ok (record { last = leaves d (take (stated r) r); made = finishes d (take (stated r) r); rest = drop (stated r) r })))
      at_flaw d long next fits None e = at_string d long next fits e (string_fault d (take (stated r) r)) refl
      at_flaw d long next fits (Some f) e = flawed live long next fits e

      at_fits : (d : Due (List ℕ)) → 5 ≤ length r → follows l (get_or r 4 0) ≡ Some d → (b : Bool) → ltb (length r) (stated r) ≡ b
          → Says (cond b (Err (of_message 1 p (length fs))) (taken d p (length fs) (take (stated r) r) (drop (stated r) r)))
      at_fits d long next true e = overlong live long next (ltb-true _ _ e)
      at_fits d long next false e = at_flaw d long next (ltb-false _ _ e) (judge (checks_for (rules_of d)) (take (stated r) r)) refl

      at_number : 5 ≤ length r → (o : Option (Due (List ℕ))) → follows l (get_or r 4 0) ≡ o → Says (chosen o p (length fs) r)
      at_number long None e = disorder live long e
      at_number long (Some d) e = at_fits d long e (ltb (length r) (stated r)) refl

      at_length : (b : Bool) → ltb (length r) 5 ≡ b → Says (cond b (Err (of_message 1 p (length fs))) (chosen (follows l (get_or r 4 0)) p (length fs) r))
      at_length true e = short live (ltb-true _ _ e)
      at_length false e = at_number (ltb-false _ _ e) (follows l (get_or r 4 0)) refl

-- the loop's invariant: each outcome from here on is one of the whole message
pub record Sofar (s : List ℕ) (l : Last (List ℕ)) (fs : List (Field (List ℕ))) (r : List ℕ) : Type 0 where
  pub back : (o : Fields) → Reads l (length s - length r) fs r o → Means s (message_of s o)
  pub fits : length r ≤ length s
  pub few : length s ≤ 134217728
  pub many : length fs + length r ≤ length s

-- the verdict on section 0
abbrev pub headed_by : List ℕ → Option Flaw → Result (Unit {0}) Refusal
headed_by s v = judged layer.Message 0 0 v tt

pub head_refuses : (s : List ℕ) (e : Refusal) → Err e ≡ headed_by s (judge head_checks s) → Means s (Err e)
head_refuses s e h = go (judge head_checks s) refl h
  where
    go : (v : Option Flaw) → judge head_checks s ≡ v → Err e ≡ headed_by s v → Means s (Err e)
    go None q h = cc
    go (Some f) q h =
        let at : f.octet - 1 ≡ 0 + (f.octet - 1) = omega arith in
        let same : of_message f.number (0 + (f.octet - 1)) 0 ≡ e = cc in
        subst (λ x. Means s (Err x)) (ap (λ n. of_message f.number n 0) at ∙ same) (headless q)

head_passes : (s : List ℕ) → Ok tt ≡ headed_by s (judge head_checks s) → judge head_checks s ≡ None
head_passes s h = go (judge head_checks s) h
  where
    go : (v : Option Flaw) → Ok tt ≡ headed_by s v → v ≡ None
    go None h = refl
    go (Some f) h = cc

pub start : (s r : List ℕ) → Ok tt ≡ headed_by s (judge head_checks s) → r ≡ drop 16 s → Sofar s last.Head [] r
start s r h is =
    let e = head_passes s h in
    let passed = all_pass head_checks s e in
    let long : 16 ≤ length s = leb-true 16 (length s) passed.0 in
    let few : length s ≤ 134217728 = leb-true (length s) 134217728 passed.1.1.1.1.1.1.0 in
    let left : length r ≡ length s - 16 = ap length is ∙ length-drop 16 s in
    let at : length s - length r ≡ 16 = omega arith in
    record {
      back = λ o k. headed e (subst₃ (λ p f q. Reads last.Head p f q o) at refl is k);
      fits = omega arith;
      few = few;
      many = omega arith;
    }

pub ended_long : (l : Last (List ℕ)) (r : List ℕ) → Ended l r → 4 ≤ length r
ended_long (last.Data g) r e = omega (arith, ap length e, length-take 4 r)
ended_long l r e = absurd e

module _ {s : List ℕ} {l : Last (List ℕ)} {fs : List (Field (List ℕ))} {r : List ℕ} (h : Sofar s l fs r) where
  abbrev place : ℕ
  place = length s - length r

  pub trails : Ended l r → 4 < length r → Means s (Err (of_message 5 (place + 4) (length fs)))
  trails e more = h.back _ (trailing e more)

  pub ends : Ended l r → length r ≤ 4 → Means s (message_of s (Ok fs))
  ends e most = h.back _ (whole e (omega (arith, ended_long l r e)))

  pub fails : (e : Refusal) → (Ended l r → ⊥) → Err e ≡ advance l place (length fs) r → Means s (Err e)
  fails e live is = h.back _ (subst (Says l place fs r) (sym is) (says l place fs r live))

  pub shorter : (n : Next) → (Ended l r → ⊥) → Ok n ≡ advance l place (length fs) r → length n.rest < length r
  shorter n live is = (subst (Says l place fs r) (sym is) (says l place fs r live)).1

  pub goes : (n : Next) → (Ended l r → ⊥) → Ok n ≡ advance l place (length fs) r → length n.made ≤ 1 → Sofar s n.last (fs ++ n.made) n.rest
  goes n live is one =
      let step = subst (Says l place fs r) (sym is) (says l place fs r live) in
      let less : length n.rest < length r = step.1 in
      let at : length s - length n.rest ≡ place + (length r - length n.rest) = omega (arith, h.fits) in
      record {
        back = λ o k. h.back o (step.0 o (subst (λ p. Reads n.last p (fs ++ n.made) n.rest o) at k));
        fits = omega (arith, h.fits);
        few = h.few;
        many = omega (arith, h.many, length-append fs n.made);
      }
