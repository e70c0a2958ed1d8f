use Rattle.std.proofs.Common.{◌≡◌, drop}
use Rattle.sections.specs.Rules.{judge, checks_for}
use Rattle.sections.proofs.rules.check_rules.Given as goal

-- the rules before the index are kept, so that the verdict is that of the rules from the index on
abbrev pub invariant-loop-rule : goal.invariant-loop-rule
invariant-loop-rule l = judge (checks_for l.rules) l.octets ≡ judge (checks_for (drop l.rule-index l.rules)) l.octets
