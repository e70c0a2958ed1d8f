use Rattle.std.proofs.Common.{◌≡◌, ℕ, ◌∙◌, List, None, Ok, Err, Result, sym, refl, ap, arith}
use Rattle.std.specs.Option.{option_map}
use Rattle.std.specs.Result.{result_ok}
use Rattle.std.proofs.lemmas.Bool.{ne_eqb, cond-false}
use Rattle.format.specs.Sections.{Names, number_of}
use Rattle.format.specs.declared.section.NoSection.{NoSection}
use Rattle.format.specs.declared.section.Section.{Section}
use Rattle.format.specs.declared.section.Section.TheVariants as section
use Rattle.messages.specs.declared.order.Last.{Last}
use Rattle.messages.specs.declared.order.Last.TheVariants as last
use Rattle.messages.specs.Order.{follows, held_last, held_due}
use Rattle.messages.proofs.order.announced.Goals as goal

-- a number that no section has announces nothing
none_announced : (l : Last (List ℕ)) (n : ℕ) (r : Result Section NoSection) → Names n r → result_ok r ≡ None → None ≡ follows l n
none_announced l n (Ok s) names e = let z : ◌≡◌ {A = ℕ} 0 1 = cc in absurd (omega arith)
none_announced l n (Err x) names e = go l
  where
    not : (s : Section) (m : ℕ) → number_of s ≡ m → n ≡ m → ⊥
    not s m is same = names.1 s (is ∙ sym same)

    go : (l : Last (List ℕ)) → None ≡ follows l n
    go last.Head = sym (cond-false _ _ _ (ne_eqb n 1 (not section.Identification 1 refl)))
    go last.Identification = sym (cond-false _ _ _ (ne_eqb n 3 (not section.Frame 3 refl)))
    go (last.Frame g) = sym (cond-false _ _ _ (ne_eqb n 4 (not section.Product 4 refl)))
    go (last.Product g p) = sym (cond-false _ _ _ (ne_eqb n 5 (not section.Packing 5 refl)))
    go (last.Packing g p k) = sym (cond-false _ _ _ (ne_eqb n 6 (not section.Bitmap 6 refl)))
    go (last.Bitmap g p k) = sym (cond-false _ _ _ (ne_eqb n 7 (not section.Data 7 refl)))
    go (last.Data g) = sym (cond-false _ _ _ (ne_eqb n 3 (not section.Frame 3 refl)) ∙ cond-false _ _ _ (ne_eqb n 4 (not section.Product 4 refl)))

pub returns-in_err-ok : goal.returns-in_err-ok
returns-in_err-ok c = ap (option_map held_due) c.from_residual.ensures ∙ none_announced (held_last c.args.last) c.args.number _ c.try_from.ensures (sym c.ok.ensures.value ∙ c.in_err-ok.was)
