use Rattle.std.proofs.Common.{◌≡◌, ℕ, ◌*◌, ◌^◌, ◌<◌, ◌≤◌, pos, ap, ◌∙◌, ap₂, arith, w32, w64, SFits, to_z, rules}
use native.Mathlib.Nat.{pow-le-pow_right}
use lib.Signed.{le_z}
use Rattle.std.proofs.lemmas.Nat.{mul-le}
use Rattle.std.proofs.lemmas.Int.{to_z-of_z, to_z_pos}
use Rattle.loader.proofs.lamps.reaches.Goals as goal

-- the least number of a value that reaches a bound
least : (bound unit scale : ℕ) → scale ≤ 6 → unit ≡ 10 ^ scale → bound < 2 ^ 32 → to_z w64 (bound * unit) ≡ pos (bound * 10 ^ scale)
least bound unit scale low is narrow =
    let power : 10 ^ scale ≤ 10 ^ 6 = pow-le-pow_right (omega arith) low in
    let most : bound * unit ≤ 4294967295 * 1000000 = mul-le bound unit 4294967295 1000000 (omega arith) (omega arith) in
    to_z_pos w64 (bound * unit) (omega arith) ∙ ap (λ n. pos (bound * n)) is

pub returns : goal.returns
returns c =
    let value = c.args.value in
    let fits : SFits w64 c.from-2.result = search rules in
    let narrow : SFits w32 value.number = search rules in
    ap₂ le_z (ap (λ n. to_z w64 (n * c.args.unit)) c.from.ensures ∙ least c.args.bound c.args.unit value.scale c.requires.scaled c.requires.unit c.ranges.bound.fits)
    (to_z-of_z w64 c.from-2.result fits ∙ c.from-2.ensures ∙ to_z-of_z w32 value.number narrow)
