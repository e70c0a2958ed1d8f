-- The rules and the function agree, so the rules give each message one outcome.
use Rattle.std.proofs.Common.{◌≡◌, ℕ, zero, suc, ◌+◌, ◌-◌, ◌<◌, ◌≤◌, Bool, true, false, cond, eqb, List, [], ◌++◌, length, get_or, take, drop, Some, None, Ok, Err, Decides, Option, Result, sym, refl, ap, ◌∙◌, arith, length-drop, length-take}
use Rattle.std.specs.Cmp.Lexicographic.{bytes_decides}
use Rattle.std.proofs.lemmas.Bool.{lt-ltb, le-ltb, cond-true, cond-false, eq-eqb, ne_eqb, eqb-true, eqb-false, leb-true, false_from_ne_true}
use Rattle.std.proofs.lemmas.Bool.Decides.{not_from_Decides}
use Rattle.format.specs.Sections.{number_of}
use Rattle.format.specs.declared.fault.Layer.TheVariants as layer
use Rattle.format.specs.declared.fault.Refusal.{Refusal}
use Rattle.runs.specs.StringFaults as string
use Rattle.sections.specs.Rules.{Flaw, judge, judged, checks_for}
use Rattle.sections.proofs.Firsts.{all_pass}
use Rattle.messages.specs.declared.field.Field.{Field}
use Rattle.messages.specs.declared.order.Last.{Last}
use Rattle.messages.specs.declared.order.Last.TheVariants as last
use Rattle.messages.specs.declared.order.Due.{Due}
use Rattle.messages.specs.Order.{follows}
use Rattle.messages.specs.Messages.{Means, Reads, Outcome, Fields, Ended, head_checks, stated, mark, section_of, rules_of, string_fault, leaves, finishes, of_message, message_of}
use Rattle.messages.specs.Messages.Reads.{whole, trailing, short, disorder, overlong, flawed, faulty, sound}
use Rattle.messages.specs.Messages.Means.{headless, headed}
use Rattle.std.specs.Result.{result_and}
use Rattle.messages.specs.Meaning.{Next, advance, chosen, ended, onward, read_by, opened, meaning}
use Rattle.messages.specs.Laws.{OneOutcome}
use Rattle.messages.proofs.Lengths.{five}
use Rattle.messages.proofs.Following.{Says, says, ended_long}
use Rattle.messages.proofs.Stepping.{step_is}

ended_decides : (l : Last (List ℕ)) (r : List ℕ) → Decides (ended l r) (Ended l r)
ended_decides (last.Data g) r = bytes_decides (take 4 r) mark
ended_decides l r = ((λ e. cc), λ e. absurd e)

-- every message has an outcome: that of the function
pub total : (k : ℕ) (l : Last (List ℕ)) (p : ℕ) (fs : List (Field (List ℕ))) (r : List ℕ) → length r < k → Reads l p fs r (read_by k l p fs r)
total zero l p fs r h = absurd (omega arith)
total (suc k) l p fs r h =
    at_end (λ n lt. total k n.last (p + (length r - length n.rest)) (fs ++ n.made) n.rest (omega arith)) (ended l r) refl
  where
    rest : Result Next Refusal → Fields
    rest x = onward (λ n. read_by k n.last (p + (length r - length n.rest)) (fs ++ n.made) n.rest) x

    goes : ((n : Next) → length n.rest < length r → Reads n.last (p + (length r - length n.rest)) (fs ++ n.made) n.rest (rest (Ok n)))
        → (x : Result Next Refusal) → Says l p fs r x → Reads l p fs r (rest x)
    goes ih (Ok n) h = h.0 _ (ih n h.1)
    goes ih (Err e) h = h

    at_four : Ended l r → (b : Bool) → eqb (length r) 4 ≡ b → Reads l p fs r (cond b (Ok fs) (Err (of_message 5 (p + 4) (length fs))))
    at_four e true q = whole e (eqb-true _ _ q)
    at_four e false q = trailing e (omega (arith, eqb-false (length r) 4 q, ended_long l r e))

    at_end : ((n : Next) → length n.rest < length r → Reads n.last (p + (length r - length n.rest)) (fs ++ n.made) n.rest (rest (Ok n)))
        → (b : Bool) → ended l r ≡ b → Reads l p fs r (cond b (cond (eqb (length r) 4) (Ok fs) (Err (of_message 5 (p + 4) (length fs)))) (rest (advance l p (length fs) r)))
    at_end ih true q = at_four ((ended_decides l r).0 q) (eqb (length r) 4) refl
    at_end ih false q = goes ih _ (says l p fs r (not_from_Decides _ (ended_decides l r) q))

-- the outcome by the rules is that of the function
module _ (l : Last (List ℕ)) (p : ℕ) (fs : List (Field (List ℕ))) (r : List ℕ) (k : ℕ) where
  abbrev rest' : Result Next Refusal → Fields
  rest' x = onward (λ n. read_by k n.last (p + (length r - length n.rest)) (fs ++ n.made) n.rest) x

  ending : (o : Fields) → Ended l r → cond (eqb (length r) 4) (Ok fs) (Err (of_message 5 (p + 4) (length fs))) ≡ o → read_by (suc k) l p fs r ≡ o
  ending o e q = cond-true _ _ _ ((ended_decides l r).1 e) ∙ q

  live_false : (Ended l r → ⊥) → ended l r ≡ false
  live_false live = false_from_ne_true _ (λ q. live ((ended_decides l r).0 q))

  going : (o : Fields) (x : Result Next Refusal) → (Ended l r → ⊥) → advance l p (length fs) r ≡ x → rest' x ≡ o → read_by (suc k) l p fs r ≡ o
  going o x live e q = cond-false _ _ _ (live_false live) ∙ ap rest' e ∙ q

  after : (x : Result Next Refusal) → 5 ≤ length r → chosen (follows l (get_or r 4 0)) p (length fs) r ≡ x → advance l p (length fs) r ≡ x
  after x long e = cond-false _ _ _ (le-ltb (length r) 5 long) ∙ e

  -- the step at a section, by the verdicts on its rules and on its string
  judging : (d : Due (List ℕ)) (v : Option Flaw) (w : Option string.Flaw) → 5 ≤ length r → follows l (get_or r 4 0) ≡ Some d → stated r ≤ length r
      → judge (checks_for (rules_of d)) (take (stated r) r) ≡ v → string_fault d (take (stated r) r) ≡ w
      → advance l p (length fs) r ≡ result_and (result_and {T = Unit {0}} (judged (layer.Section (number_of (section_of d))) p (length fs) v tt) (string.judged (p + 5) (length fs) w)) (Ok (record { last = leaves d (take (stated r) r); made = finishes d (take (stated r) r); rest = drop (stated r) r }))
  judging d v w long next fits rules text =
      sym (step_is l p (length fs) r d long (sym next) fits)
      ∙ (λ i. result_and (result_and {T = Unit {0}} (judged (layer.Section (number_of (section_of d))) p (length fs) (rules i) tt) (string.judged (p + 5) (length fs) (text i))) (Ok (record { last = leaves d (take (stated r) r); made = finishes d (take (stated r) r); rest = drop (stated r) r })))

pub agree : (k : ℕ) {l : Last (List ℕ)} {p : ℕ} {fs : List (Field (List ℕ))} {r : List ℕ} {o : Fields} → Reads l p fs r o → length r < k → read_by k l p fs r ≡ o
agree zero {l} {p} {fs} {r} h lt = absurd (omega arith)
agree (suc k) {l} {p} {fs} {r} (whole e n) lt = ending l p fs r k _ e (cond-true _ _ _ (eq-eqb (length r) 4 n))
agree (suc k) {l} {p} {fs} {r} (trailing e n) lt = ending l p fs r k _ e (cond-false _ _ _ (ne_eqb (length r) 4 (λ q. omega arith)))
agree (suc k) {l} {p} {fs} {r} (short live n) lt = going l p fs r k _ _ live (cond-true _ _ _ (lt-ltb (length r) 5 n)) refl
agree (suc k) {l} {p} {fs} {r} (disorder live long e) lt = going l p fs r k _ _ live (after l p fs r k _ long (ap (λ o. chosen o p (length fs) r) e)) refl
agree (suc k) {l} {p} {fs} {r} (overlong live long e n) lt =
    going l p fs r k _ _ live (after l p fs r k _ long (ap (λ o. chosen o p (length fs) r) e ∙ cond-true _ _ _ (lt-ltb (length r) (stated r) n))) refl
agree (suc k) {l} {p} {fs} {r} (flawed {d = d} {f = f} live long e n j) lt = going l p fs r k _ _ live (judging l p fs r k d (Some f) _ long e n j refl) refl
agree (suc k) {l} {p} {fs} {r} (faulty {d = d} {f = f} live long e n j t) lt = going l p fs r k _ _ live (judging l p fs r k d None (Some f) long e n j t) refl
agree (suc k) {l} {p} {fs} {r} (sound {d = d} live long e n j t on) lt =
    let most = five d (take (stated r) r) j in
    let some : 5 ≤ stated r = omega (arith, length-take (stated r) r) in
    let left : length (drop (stated r) r) ≡ length r - stated r = length-drop (stated r) r in
    let at : p + (length r - length (drop (stated r) r)) ≡ p + stated r = omega arith in
    going l p fs r k _ _ live (judging l p fs r k d None None long e n j t)
    (ap (λ q. read_by k (leaves d (take (stated r) r)) q (fs ++ finishes d (take (stated r) r)) (drop (stated r) r)) at ∙ agree k on (omega arith))

pub means_is : {s : List ℕ} {o : Outcome} → Means s o → meaning s ≡ o
means_is {s} (headless e) = ap (opened s) e
means_is {s} (headed e h) =
    let long : 16 ≤ length s = leb-true 16 (length s) (all_pass head_checks s e).0 in
    ap (opened s) e ∙ ap (message_of s) (agree (length s) h (omega (arith, length-drop 16 s)))

pub some_outcome : (s : List ℕ) → Means s (meaning s)
some_outcome s = go (judge head_checks s) refl
  where
    go : (v : Option Flaw) → judge head_checks s ≡ v → Means s (opened s v)
    go (Some f) e = headless e
    go None e =
        let long : 16 ≤ length s = leb-true 16 (length s) (all_pass head_checks s e).0 in
        headed e (total (length s) last.Head 16 [] (drop 16 s) (omega (arith, length-drop 16 s)))

pub one_outcome : OneOutcome
one_outcome s = (meaning s, some_outcome s, λ q h. sym (means_is h))
