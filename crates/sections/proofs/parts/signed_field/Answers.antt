use Rattle.std.proofs.Common.{◌≡◌, ℕ, ◌*◌, ◌^◌, ◌<◌, ◌≤◌, ℤ, min, ap, ◌∙◌, arith}
use mir.Val.{SFits, to_z, of_z}
use mir.Syntax.{w32, w64}
use Rattle.std.proofs.lemmas.Int.{ints}
use Rattle.format.specs.Numbers.{signed}
use Rattle.sections.proofs.parts.signed_field.Goals as goal

below : (width n : ℕ) → width ≤ 4 → n < 256 ^ min width 8 → n < 256 ^ width
below width n h bound = grind arith

half : (top raw : ℕ) → top ≤ 2147483648 → raw < 2 * top → SFits w32 (signed top raw)
half top raw h bound = grind (arith, ints)

-- the signed number that they stand for fits 32 bits
small : (width top raw : ℕ) (z : ℤ) → width ≤ 4 → top ≤ 2147483648 → 256 ^ width ≤ 2 * top → raw < 256 ^ min width 8 → z ≡ signed top raw → SFits w32 z
small width top raw z h most least bound is = rw is (half top raw most (let b = below width raw h bound in omega arith))

pub overflow_cast-field : goal.overflow_cast-field
overflow_cast-field g c = let b = below g.row.WIDTH c.field.result c.requires.width c.field.ensures.bound in omega (arith, c.requires.most, c.requires.least)

pub overflow_cast-result : goal.overflow_cast-result
overflow_cast-result g c = let fits = small g.row.WIDTH _ _ _ c.requires.width c.requires.most c.requires.least c.field.ensures.bound c.signed.ensures in omega (arith, ints)

pub returns : goal.returns
returns g c =
    let fits = small g.row.WIDTH _ _ _ c.requires.width c.requires.most c.requires.least c.field.ensures.bound c.signed.ensures in
    let same : to_z w32 (of_z w32 (to_z w64 (of_z w64 c.signed.result))) ≡ c.signed.result = omega (arith, ints) in
    same ∙ c.signed.ensures ∙ ap (signed c.args.top) c.field.ensures.value
