-- One step of the reading.
use Rattle.std.proofs.Common.{◌≡◌, ℕ, ◌≤◌, List, length, get_or, take, drop, Some, sym, ap, ◌∙◌}
use Rattle.std.proofs.lemmas.Bool.{le-ltb, cond-false}
use Rattle.messages.specs.declared.order.Last.{Last}
use Rattle.messages.specs.declared.order.Due.{Due}
use Rattle.messages.specs.Order.{follows}
use Rattle.messages.specs.Messages.{stated}
use Rattle.messages.specs.Meaning.{advance, chosen, taken}

pub step_is : (l : Last (List ℕ)) (p n : ℕ) (r : List ℕ) (d : Due (List ℕ)) → 5 ≤ length r → Some d ≡ follows l (get_or r 4 0) → stated r ≤ length r
    → taken d p n (take (stated r) r) (drop (stated r) r) ≡ advance l p n r
step_is l p n r d long next fits =
    sym (cond-false _ _ _ (le-ltb (length r) 5 long) ∙ ap (λ o. chosen o p n r) (sym next) ∙ cond-false _ _ _ (le-ltb (length r) (stated r) fits))
