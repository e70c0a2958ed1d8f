use Rattle.std.proofs.Common.{◌≡◌, ℕ, ◌∙◌, set, length-set, arith}
use Rattle.std.proofs.lemmas.List.FromFn.{fill_by_all}
use Rattle.std.proofs.lemmas.List.Edits.{fill_by_more}
use Rattle.sections.specs.Sections.{held_packing}
use Rattle.sections.specs.Values.{value_of}
use Rattle.loader.specs.Lamps.{lamp, lamps_of}
use Rattle.loader.proofs.lamps.lamps_of.Goals as goal

pub returns : goal.returns
unfolding lamps_of
returns c =
    let f : ℕ → ℕ = λ k. lamp c.args.bounds.now (value_of (held_packing c.args.packing) k) in
    fill_by_all f c.loop-code.map.table 256 0 c.loop-code.invariant.0 (λ k h. c.loop-code.invariant.1 k (omega arith))

-- after the last code
pub returns-2 : goal.returns-2
unfolding lamps_of
returns-2 c =
    let f : ℕ → ℕ = λ k. lamp c.args.bounds.now (value_of (held_packing c.args.packing) k) in
    let table = c.loop-code.map.table in
    let i = c.loop-code.code in
    let e : c.set.new.self.table ≡ set table i (f i) = cc in
    e ∙ fill_by_all f (set table i (f i)) 256 0 (simp length-set c.loop-code.invariant.0) (λ k h. fill_by_more f table i 0 (omega (arith, c.loop-code.invariant.0)) c.loop-code.invariant.1 k (omega arith))
