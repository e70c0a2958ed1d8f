use Rattle.std.proofs.Common.{◌≡◌, true, false, ltb, leb, Some, sym, refl, ◌∙◌, arith, w32, SFits, rules}
use lib.Signed.{le_z}
use Rattle.std.proofs.lemmas.Int.{to_z-of_z, ints}
use Rattle.std.proofs.lemmas.Bool.{and_left, and_right, cond-true, cond-false, le-leb, lt-leb, lt-ltb, le-ltb}
use Rattle.sections.specs.Positions.{covers}
use Rattle.sections.proofs.Nearest.{halves_up}
use Rattle.sections.proofs.frame.Frame.position.Goals as goal
use Rattle.sections.proofs.frame.Frame.position.Goals.{then-column-self-via-then-column-self, then-column-self-via-else-column-self+then-row-self, then-column-self-via-else-column-self+else-row-self+then-self, then-column-self-via-else-column-self+else-row-self+else-self+then-self-2}

pub returns-then-column-self : goal.returns-then-column-self
returns-then-column-self c =
    let f = c.args.self.now in
    let row = ltb c.args.row f.nj in
    let south = le_z f.la2 f.la1 in
    let east = leb f.lo1 f.lo2 in
    let out : covers f c.args.column c.args.row ≡ false =
    elim c.then-column-self.branch [
      | then-column-self-via-then-column-self w ↦ and_left _ _ (le-ltb _ _ w.if-column-self.true)
      | then-column-self-via-else-column-self+then-row-self w ↦ and_right _ _ (and_left _ _ (le-ltb _ _ w.if-row-self.true))
      | then-column-self-via-else-column-self+else-row-self+then-self w ↦ let north : south ≡ false = grind (arith, ints, w.if-self.true) in and_right _ _ (and_right row _ (and_left _ east north))
      | then-column-self-via-else-column-self+else-row-self+else-self+then-self-2 w ↦ and_right _ _ (and_right row _ (and_right south _ (lt-leb _ _ w.if-self-2.true)))
    ] in
    record { position = sym (cond-false _ _ _ out); rounds = halves_up }

pub returns : goal.returns
returns c =
    let f = c.args.self.now in
    let fits : SFits w32 c.latitude_of.result = search rules in
    let level : le_z f.la2 f.la1 ≡ true = grind (arith, ints, c.if-self.false) in
    let inside : covers f c.args.column c.args.row ≡ true =
    rw (lt-ltb c.args.column f.ni c.if-column-self.false, lt-ltb c.args.row f.nj c.if-row-self.false, le-leb f.lo1 f.lo2 c.if-self-2.false, level) refl in
    record {
      position = (λ i. Some (record { latitude = (to_z-of_z w32 c.latitude_of.result fits ∙ c.latitude_of.ensures) i; longitude = c.longitude_of.ensures i })) ∙ sym (cond-true _ _ _ inside);
      rounds = halves_up;
    }
