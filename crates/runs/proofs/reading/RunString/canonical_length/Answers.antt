use Rattle.std.proofs.Common.{◌≡◌, length, sym, ap, ◌∙◌, arith}
use mathlib.Core.Path.{subst₃}
use Rattle.runs.specs.Runs.{loaded}
use Rattle.runs.specs.Canonical.{longest_runs, runs_octets, Storable}
use Rattle.runs.proofs.Theorems.{string_of}
use Rattle.runs.proofs.Faultless.{canonical_laws}
use Rattle.runs.proofs.LengthLoop.{Counted, counted_other, counted_past, counted_joined, counted_all, counted_octets}
use Rattle.runs.proofs.reading.RunString.canonical_length.Goals as goal
use Rattle.runs.proofs.reading.RunString.canonical_length.Goals.{then-apart, else-apart}

pub returns-then-highest-gt-HIGHEST-clause-laws : goal.returns-then-highest-gt-HIGHEST-clause-laws
returns-then-highest-gt-HIGHEST-clause-laws c = canonical_laws

pub returns-then-run-done : goal.returns-then-run-done
returns-then-run-done c =
    let past = counted_past c.loop-run.invariant c.in-Some.ensures.steps c.if-run-done.true in
    record { length = λ ok. omega (arith, ok.count); string = tt; laws = canonical_laws }

pub loop-run-preserved : goal.loop-run-preserved
loop-run-preserved c =
    let l = c.loop-run in
    let m = c.if-apart in
    let run = c.in-Some.run' in
    let h = c.in-Some.ensures.steps in
    let cells = loaded c.args.self.now.v c.args.self.now.octets.now in
    let k : Counted cells c.highest_level-highest.result l.run-iterator l.done m.octets m.level m.alike × (run.level ≡ m.level) =
    elim m.branch [
      | then-apart w ↦
          let o = w.run_octets-octets in (
            subst₃ (Counted cells _ _ l.done) (sym w.octets-is) (sym w.level-is) (sym w.alike-is) (counted_other l.invariant h o.result w.if-apart.true (o.ensures.octets _) o.ensures.few),
            sym w.level-is,
          )
      | else-apart w ↦
          (subst₃ (Counted cells _ _ l.done) (sym w.octets-is) (sym w.level-is) (sym w.alike-is) l.invariant, w.if-apart.false ∙ sym w.level-is)
    ] in
    counted_joined k.0 h k.1 c.if-run-done.false

pub returns : goal.returns
returns c =
    let cells = loaded c.args.self.now.v c.args.self.now.octets.now in
    let k = c.loop-run.invariant in
    let h = c.in-None.ensures.steps in
    let all = counted_all k h in
    let octets = counted_octets k h c.run_octets.result (c.run_octets.ensures.octets _) in
    let ok : Storable cells = record { count = omega (arith, k.small); low = omega (arith, c.highest_level-highest.ensures) } in
    record { length = (ok, octets ∙ ap (λ H. length (runs_octets H (longest_runs cells))) c.highest_level-highest.ensures); string = string_of cells ok; laws = canonical_laws }
