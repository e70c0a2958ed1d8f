-- The verdict on a list of checks is that of the first that fails.
use Rattle.std.proofs.Common.{◌≡◌, ℕ, Bool, true, false, cond, List, [], ◌∷◌, ◌++◌, Some, None, sym, refl, ap, ◌∙◌}
use Rattle.std.specs.List.{AllByRecursion}
use Rattle.std.proofs.lemmas.Bool.{cond-true, cond-false}
use Rattle.std.proofs.lemmas.Option.{none-some}
use Rattle.sections.specs.Rules.{Check, Flaw, judge, FirstFails, FirstDecides}

finds_first : (cs : List Check) (s : List ℕ) (t : Flaw) → judge cs s ≡ Some t → FirstFails cs s t
finds_first [] s t e = absurd (none-some t e)
finds_first (c ∷ cs) s t e = go (λ h. finds_first cs s t h) (c.passes s) refl e
  where
    go : (judge cs s ≡ Some t → FirstFails cs s t) → (b : Bool) → c.passes s ≡ b → cond b (judge cs s) (Some c.tells) ≡ Some t → FirstFails (c ∷ cs) s t
    go ih true p h =
        let f = ih h in
        record { before = c ∷ f.before; here = f.here; after = f.after; split = ap (λ l. c ∷ l) f.split; passed = (p, f.passed); failed = f.failed; tells = f.tells }
    go ih false p h = record { before = []; here = c; after = cs; split = refl; passed = tt; failed = p; tells = cc }

first_found : (before : List Check) (c : Check) (after : List Check) (s : List ℕ) → AllByRecursion (λ c. c.passes s ≡ true) before → c.passes s ≡ false → judge (before ++ (c ∷ after)) s ≡ Some c.tells
first_found [] c after s all fails = cond-false _ _ _ fails
first_found (b ∷ before) c after s all fails = cond-true _ _ _ all.0 ∙ first_found before c after s all.1 fails

is_first : (cs : List Check) (s : List ℕ) (t : Flaw) → FirstFails cs s t → judge cs s ≡ Some t
is_first cs s t f = ap (λ l. judge l s) f.split ∙ first_found f.before f.here f.after s f.passed f.failed ∙ ap Some (sym f.tells)

-- where no check fails, each passes
pub all_pass : (cs : List Check) (s : List ℕ) → judge cs s ≡ None → AllByRecursion (λ c. c.passes s ≡ true) cs
all_pass [] s e = tt
all_pass (c ∷ cs) s e = go (λ h. all_pass cs s h) (c.passes s) refl e
  where
    go : (judge cs s ≡ None → AllByRecursion (λ c. c.passes s ≡ true) cs) → (b : Bool) → c.passes s ≡ b → cond b (judge cs s) (Some c.tells) ≡ None → AllByRecursion (λ c. c.passes s ≡ true) (c ∷ cs)
    go ih true p h = (p, ih h)
    go ih false p h = absurd (none-some _ (sym h))

pub none_fails : (cs : List Check) (s : List ℕ) → AllByRecursion (λ c. c.passes s ≡ true) cs → judge cs s ≡ None
none_fails [] s h = refl
none_fails (c ∷ cs) s h = cond-true _ _ _ h.0 ∙ none_fails cs s h.1

pub first_decides : FirstDecides
first_decides = record {
  some = λ cs s t. (finds_first cs s t, is_first cs s t);
  none = λ cs s. (all_pass cs s, none_fails cs s);
}
