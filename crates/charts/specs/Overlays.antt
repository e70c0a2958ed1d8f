-- One picture over another.
use Rattle.std.specs.Prelude.{ℕ, max, if◌then◌else◌, ◌==◌}
use Rattle.charts.specs.declared.overlay.Rule.{Rule}
use Rattle.charts.specs.declared.overlay.Rule.TheVariants.{Higher, Fill}
use Rattle.charts.specs.declared.overlay.Overlay.{Overlay}
use Rattle.charts.specs.Pictures.{Picture, level_at, drawn}

-- the greater level, or the first unless it is 0
abbrev pub merged : Rule → ℕ → ℕ → ℕ
merged Higher a b = max a b
merged Fill a b = if a == 0 then b else a

-- the rule of an overlay with no rule named
abbrev pub default_rule : Rule
default_rule = Higher

-- two pictures joined by column and row, of the first one's size; the second counts as 0 outside itself
abbrev pub overlaid : Rule → Picture → Picture → Picture
overlaid rule p s = drawn p.width p.height (λ i j. merged rule (level_at p i j) (level_at s i j))

abbrev pub overlay_picture : {A B : Type 0} → (A → Picture) → (B → Picture) → Overlay A B → Picture
overlay_picture first second c = overlaid c.rule (first c.first) (second c.second)
