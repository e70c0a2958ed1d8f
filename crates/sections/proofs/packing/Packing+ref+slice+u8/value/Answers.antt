use Rattle.std.proofs.Common.{◌-◌, ◌*◌, Some, ap, ◌∙◌, arith, w32, SFits, rules}
use Rattle.std.proofs.lemmas.Int.{to_z-of_z}
use Rattle.format.specs.Numbers.{field, signed}
use Rattle.sections.specs.Sections.{held_packing}
use Rattle.sections.proofs.Entries.{value_none, value_some}
use Rattle.sections.proofs.packing.Packing+ref+slice+u8.value.Goals as goal
use Rattle.sections.proofs.packing.Packing+ref+slice+u8.value.Goals.{then-level-eq0-via-then-level-eq0, then-level-eq0-via-else-level-eq0+then-last-self}

pub returns-then-level-eq0 : goal.returns-then-level-eq0
returns-then-level-eq0 c =
    value_none (held_packing c.args.self.now) c.args.level
    (λ some. elim c.then-level-eq0.branch [
      | then-level-eq0-via-then-level-eq0 w ↦ absurd (omega (arith, w.if-level-eq0))
      | then-level-eq0-via-else-level-eq0+then-last-self w ↦ omega (arith, w.if-last-self)
    ])

pub returns : goal.returns
returns c =
    let fits : SFits w32 c.signed_field.result = search rules in
    let number = to_z-of_z w32 c.signed_field.result fits ∙ c.signed_field.ensures ∙ ap (λ n. signed 32768 (field c.args.self.now.table.now (2 * n - 1) 2)) c.from-last.ensures in
    (λ i. Some (record { number = number i; scale = c.args.self.now.scale })) ∙ value_some (held_packing c.args.self.now) c.args.level (omega arith) (omega arith)
