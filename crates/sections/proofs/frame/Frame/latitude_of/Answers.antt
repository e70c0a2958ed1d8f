use Rattle.std.proofs.Common.{◌≡◌, pos, ◌-ℤ◌, nat_abs, ap, ◌∙◌, w32, w64, SFits, rules}
use Rattle.std.proofs.lemmas.Int.{to_z-of_z}
use Rattle.sections.specs.Positions.{along}
use Rattle.sections.proofs.frame.Frame.latitude_of.Goals as goal

pub returns : goal.returns
returns c =
    let f = c.args.self.now in
    let north : SFits w32 f.la1 = search rules in
    let last : SFits w32 f.la2 = search rules in
    let span : c.abs_diff.result ≡ nat_abs (f.la1 -ℤ f.la2) = simp to_z-of_z at c.abs_diff.ensures in
    let south : c.along-south.result ≡ along (nat_abs (f.la1 -ℤ f.la2)) f.nj c.args.row = c.along-south.ensures.value ∙ ap (λ d. along d f.nj c.args.row) span in
    let first : c.from.result ≡ f.la1 = simp to_z-of_z at c.from.ensures in
    let by : c.from-2.result ≡ pos c.along-south.result = c.from-2.ensures in
    let wide : SFits w64 (c.from.result -ℤ c.from-2.result) = search rules in
    let narrow : SFits w32 (c.from.result -ℤ c.from-2.result) = search rules in
    let from : SFits w64 c.from.result = search rules in
    let less : SFits w64 c.from-2.result = search rules in
    simp to_z-of_z ((λ i. first i -ℤ by i) ∙ ap (λ n. f.la1 -ℤ pos n) south)
