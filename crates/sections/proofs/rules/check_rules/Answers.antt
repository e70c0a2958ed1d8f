use Rattle.std.proofs.Common.{◌+◌, ◌-◌, Err, sym, ap, ◌∙◌}
use Rattle.std.proofs.lemmas.List.{at_drop_more, at_drop_all}
use Rattle.std.proofs.lemmas.Bool.{cond-false}
use Rattle.format.specs.declared.fault.Layer.TheVariants as layer
use Rattle.format.specs.Refusals.{told}
use Rattle.sections.specs.declared.rules.Rule.{Rule}
use Rattle.sections.specs.declared.rules.Rule.TheVariants as rule
use Rattle.sections.specs.Rules.{judge, judged, checks_for}
use Rattle.sections.proofs.Firsts.{first_decides}
use Rattle.sections.proofs.rules.check_rules.Goals as goal

abbrev none : Rule
none = rule.Length 0

pub returns-then-not-keeps : goal.returns-then-not-keeps
returns-then-not-keeps c =
    let here = at_drop_more (λ rs. judge (checks_for rs) c.args.octets.now) c.args.rules.now c.loop-rule.rule-index none c.loop-rule-test.true in
    let fails = c.loop-rule.invariant ∙ here ∙ cond-false _ _ _ (sym c.keeps.ensures ∙ c.if-not-keeps.true) in
    let octet = c.saturating_sub.ensures ∙ ap (λ n. n - 1) c.octet.ensures in
    let layer = layer.Section c.args.number in
    record {
      first = (λ i. Err (told (c.fault.ensures i) layer (c.args.start.place + octet i) c.args.start.fields 0)) ∙ sym (ap (λ v. judged layer c.args.start.place c.args.start.fields v tt) fails);
      law = first_decides;
    }

pub returns : goal.returns
returns c = record {
  first = sym (ap (λ v. judged (layer.Section c.args.number) c.args.start.place c.args.start.fields v tt) (c.loop-rule.invariant ∙ at_drop_all (λ r. judge (checks_for r) c.args.octets.now) _ _ c.loop-rule-test.false));
  law = first_decides;
}
