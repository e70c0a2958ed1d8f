-- How long sections are that keep their rules.
use Rattle.std.proofs.Common.{◌≡◌, ℕ, ◌≤◌, List, length, None, arith}
use Rattle.std.proofs.lemmas.Bool.{leb-true, eqb-true}
use Rattle.sections.specs.Rules.{judge, checks_for}
use Rattle.sections.specs.Sections.{identification_rules, frame_rules, product_rules, packing_rules, bitmap_rules, data_rules}
use Rattle.sections.proofs.Firsts.{all_pass}
use Rattle.messages.specs.declared.order.Due.{Due}
use Rattle.messages.specs.declared.order.Due.TheVariants as due
use Rattle.messages.specs.Messages.{rules_of}

pub identification_length : (s : List ℕ) → judge (checks_for identification_rules) s ≡ None → length s ≡ 21
unfolding identification_rules
identification_length s e = eqb-true (length s) 21 (all_pass (checks_for identification_rules) s e).0

pub frame_length : (s : List ℕ) → judge (checks_for frame_rules) s ≡ None → length s ≡ 72
unfolding frame_rules
frame_length s e = eqb-true (length s) 72 (all_pass (checks_for frame_rules) s e).0

-- a section without a flaw has its length and its number
pub five : (d : Due (List ℕ)) (s : List ℕ) → judge (checks_for (rules_of d)) s ≡ None → 5 ≤ length s
unfolding product_rules packing_rules bitmap_rules data_rules
five due.Identification s e = omega (arith, identification_length s e)
five due.Frame s e = omega (arith, frame_length s e)
five (due.Product g) s e = omega (arith, leb-true 9 (length s) (all_pass (checks_for product_rules) s e).0)
five (due.Packing g p) s e = omega (arith, leb-true 17 (length s) (all_pass (checks_for (packing_rules g.points)) s e).0)
five (due.Bitmap g p k) s e = omega (arith, eqb-true (length s) 6 (all_pass (checks_for bitmap_rules) s e).0)
five (due.Data g p k) s e = leb-true 5 (length s) (all_pass (checks_for data_rules) s e).0
