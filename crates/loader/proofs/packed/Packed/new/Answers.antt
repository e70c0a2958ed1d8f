use Rattle.std.proofs.Common.{◌*◌, [], ◌∷◌, sym, ◌∙◌, ap₂}
use Rattle.runs.specs.Runs.{leading_digits, runs}
use Rattle.charts.specs.Pictures.{pictured}
use Rattle.loader.proofs.packed.Packed.new.Goals as goal

pub at_start-requires : goal.at_start-requires
unfolding leading_digits runs
at_start-requires c = sym (ap₂ (λ w h. w * h) c.default.ensures.0 c.default.ensures.1)

pub returns : goal.returns
unfolding leading_digits runs
returns c = c.at_start.ensures.picture ∙ ap₂ (λ w h. pictured w h (0 ∷ [])) c.default.ensures.0 c.default.ensures.1
