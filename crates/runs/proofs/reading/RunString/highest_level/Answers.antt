use Rattle.std.proofs.Common.{rules, nat_le, if◌then◌else◌, ap, sym, ◌∙◌, unwrap_or}
use borrow.Author.Tests.{tests}
use Rattle.std.proofs.lemmas.Iterator.{YieldsList-from_slice, YieldsList-from_map}
use Rattle.std.proofs.lemmas.Iterator.Adapters.{option_map_id}
use Rattle.std.proofs.lemmas.Iterator.Consumers.{max_from_yields_List}
use Rattle.runs.proofs.Levels.{highest_levels}
use Rattle.runs.proofs.reading.RunString.highest_level.Goals as goal

pub returns : goal.returns
returns c =
    let V = c.args.self.now.v in
    let s = c.args.self.now.octets.now in
    c.unwrap_or.ensures
    ∙ ap (λ o. unwrap_or o 0)
    (sym (option_map_id _)
    ∙ max_from_yields_List c.map.result _ c.max.ensures.ran
    (YieldsList-from_map _ (λ o. if nat_le o V then o else 0) (YieldsList-from_slice s cc) c.map.ensures.closure (λ x r q k. search (rules, tests))))
    ∙ sym (highest_levels V s)
