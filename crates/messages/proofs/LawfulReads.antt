-- What holds of the fields that the rules of reading give.
use Rattle.std.proofs.Common.{◌≡◌, ℕ, ◌+◌, ◌*◌, ◌≤◌, Bool, true, false, cond, ◌&&◌, eqb, ltb, leb, List, length, drop, ℤ, IfOk, Some, None, Ok, Err, sym, refl, ◌∙◌, subst, arith, length-drop}
use lib.Signed.{le_z, lt_z}
use Rattle.std.specs.List.{AllByRecursion}
use Rattle.std.specs.Ordering.{int_eq}
use Rattle.std.proofs.ByRecursion.{All-append}
use Rattle.std.proofs.lemmas.Int.{ints}
use Rattle.std.proofs.lemmas.Bool.Decides.{nat_tests}
use Rattle.std.proofs.lemmas.Option.{cond_some, same_Some}
use Rattle.std.proofs.lemmas.Bool.{leb-true, eqb-true, lt-ltb, and_from}
use Rattle.format.specs.Limits.{Sized}
use Rattle.format.specs.Numbers.{field}
use Rattle.runs.proofs.Faultless.{faultless_length}
use Rattle.sections.specs.declared.packing.Packing.{Packing}
use Rattle.sections.specs.Rules.{judge, checks_for, latitude_at}
use Rattle.sections.specs.Sections.{frame_rules, packing_rules, packing_of}
use Rattle.sections.specs.Values.{values}
use Rattle.sections.proofs.Firsts.{all_pass}
use Rattle.sections.proofs.Entries.{length-values}
use Rattle.messages.specs.declared.field.Field.{Field}
use Rattle.messages.specs.declared.field.Grid.{Grid}
use Rattle.messages.specs.declared.order.Last.{Last}
use Rattle.messages.specs.declared.order.Last.TheVariants as last
use Rattle.messages.specs.declared.order.Due.{Due}
use Rattle.messages.specs.declared.order.Due.TheVariants as due
use Rattle.messages.specs.Order.{follows}
use Rattle.messages.specs.Messages.{Message, Means, Reads, Outcome, Fields, grid_of, rules_of, string_fault, leaves, finishes, message_of}
use Rattle.messages.specs.Messages.Reads.{whole, sound}
use Rattle.messages.specs.Messages.Means.{headless, headed}
use Rattle.messages.specs.Lawful.{LawfulField, LawfulFields}

-- what a section 3 and a section 5 without a flaw say
record LawfulGrid (g : Grid) : Type 0 where
  sized : Sized g.frame.ni g.frame.nj
  pointed : g.points ≡ g.frame.ni * g.frame.nj
  south : le_z g.frame.la2 g.frame.la1 ≡ true
  east : leb g.frame.lo1 g.frame.lo2 ≡ true

record LawfulPacking (k : Packing (List ℕ)) : Type 0 where
  provided : k.v ≤ length (values k.table)
  valued : length (values k.table) ≤ 252
  scaled : k.scale ≤ 6

-- what holds of the frame and the packing at hand, after the section just read and before the one that is due
abbrev LastLawful : Last (List ℕ) → Type 0
LastLawful last.Head = Unit {0}
LastLawful last.Identification = Unit {0}
LastLawful (last.Frame g) = LawfulGrid g
LastLawful (last.Product g p) = LawfulGrid g
LastLawful (last.Packing g p k) = LawfulGrid g × LawfulPacking k
LastLawful (last.Bitmap g p k) = LawfulGrid g × LawfulPacking k
LastLawful (last.Data g) = LawfulGrid g

abbrev DueLawful : Due (List ℕ) → Type 0
DueLawful due.Identification = Unit {0}
DueLawful due.Frame = Unit {0}
DueLawful (due.Product g) = LawfulGrid g
DueLawful (due.Packing g p) = LawfulGrid g
DueLawful (due.Bitmap g p k) = LawfulGrid g × LawfulPacking k
DueLawful (due.Data g p k) = LawfulGrid g × LawfulPacking k

due_lawful : (l : Last (List ℕ)) (n : ℕ) (d : Due (List ℕ)) → follows l n ≡ Some d → LastLawful l → DueLawful d
due_lawful (last.Data g) n d e h = go (eqb n 3) e
  where
    go : (b : Bool) → cond b (Some due.Frame) (follows (last.Frame g) n) ≡ Some d → DueLawful d
    go true e = subst DueLawful (same_Some _ _ e) tt
    go false e = subst DueLawful (cond_some _ _ d e).1 h
due_lawful l n d e h = subst DueLawful (cond_some _ _ d e).1 h

-- the last row is the first or south of it, and the last column the first or east of it
south_le : (one : Bool) (a b : ℤ) → cond one (int_eq a b) (lt_z a b) ≡ true → le_z a b ≡ true
south_le one a b e = grind (arith, ints, nat_tests)

east_le : (one : Bool) (a b : ℕ) → cond one (eqb b a) (ltb a b) ≡ true → leb a b ≡ true
east_le one a b e = grind (arith, nat_tests)

within : (low high n : ℕ) → (leb low n && leb n high) ≡ true → (low ≤ n) × (n ≤ high)
within low high n e = grind (arith, nat_tests)

frame_lawful : (s : List ℕ) → judge (checks_for frame_rules) s ≡ None → LawfulGrid (grid_of s)
unfolding frame_rules
frame_lawful s e =
    let p = all_pass (checks_for frame_rules) s e in
    let sizes = p.1.1.1.1.1.1.1.1.1.1.1.1.1 in
    let ends = sizes.1.1.1.1.1.1.1.1.1 in
    let points = within 1 33554432 (field s 7 4) p.1.1.0 in
    let width = within 1 16384 (field s 31 4) sizes.0 in
    let height = within 1 16384 (field s 35 4) sizes.1.0 in
    let cells = eqb-true (field s 31 4 * field s 35 4) (field s 7 4) sizes.1.1.0 in
    record {
      sized = record { wide = width.0; width_limit = width.1; high = height.0; height_limit = height.1; cells_limit = omega arith };
      pointed = sym cells;
      south = south_le (eqb (field s 35 4) 1) (latitude_at s 56) (latitude_at s 47) ends.0;
      east = east_le (eqb (field s 31 4) 1) (field s 51 4) (field s 60 4) ends.1.1.0;
    }

packing_lawful : (n : ℕ) (s : List ℕ) → judge (checks_for (packing_rules n)) s ≡ None → LawfulPacking (packing_of s)
unfolding packing_rules
packing_lawful n s e =
    let p = (all_pass (checks_for (packing_rules n)) s e).1.1.1.1 in
    let highest = leb-true (field s 13 2) (field s 15 2) p.0 in
    let long = eqb-true (length s) (17 + 2 * field s 15 2) p.1.1.1.0 in
    let count : length (values (drop 17 s)) ≡ field s 15 2 = omega (arith, length-values (drop 17 s), length-drop 17 s) in
    record {
      provided = omega arith;
      valued = omega (arith, (within 1 252 (field s 15 2) p.1.0).1);
      scaled = (within 0 6 (field s 17 1) p.1.1.0).1;
    }

last_lawful : (d : Due (List ℕ)) (s : List ℕ) → judge (checks_for (rules_of d)) s ≡ None → DueLawful d → LastLawful (leaves d s)
last_lawful due.Frame s e h = frame_lawful s e
last_lawful (due.Packing g p) s e h = (h, packing_lawful g.points s e)
last_lawful (due.Data g p k) s e h = h.0
last_lawful d s e h = h

made_lawful : (d : Due (List ℕ)) (s : List ℕ) → string_fault d s ≡ None → DueLawful d → AllByRecursion LawfulField (finishes d s)
made_lawful (due.Data g p k) s e (grid, packing) = (
  record {
    sized = grid.sized;
    cells = faultless_length k.v g.points _ e ∙ grid.pointed;
    placed = λ column row a b. and_from _ _ (lt-ltb _ _ a) (and_from _ _ (lt-ltb _ _ b) (and_from _ _ grid.south grid.east));
    provided = packing.provided;
    valued = packing.valued;
    scaled = packing.scaled;
  },
  tt,
)
made_lawful d s e h = tt

reads_lawful : {l : Last (List ℕ)} {p : ℕ} {fs : List (Field (List ℕ))} {r : List ℕ} {o : Fields} → Reads l p fs r o
    → LastLawful l → AllByRecursion LawfulField fs → IfOk o (AllByRecursion LawfulField)
reads_lawful (whole e n) h all = all
reads_lawful {l} {fs = fs} (sound {d = d} live long next fits ok text on) h all =
    let due = due_lawful l _ d next h in
    reads_lawful on (last_lawful d _ ok due) (All-append LawfulField fs _ all (made_lawful d _ text due))
reads_lawful h g all = tt

outcome_lawful : {s : List ℕ} {o : Outcome} → Means s o → IfOk o (λ m. AllByRecursion LawfulField m.fields)
outcome_lawful (headless e) = tt
outcome_lawful {s} (headed {o = o} e on) = go o (reads_lawful on tt tt)
  where
    go : (o : Fields) → IfOk o (AllByRecursion LawfulField) → IfOk (message_of s o) (λ m. AllByRecursion LawfulField m.fields)
    go (Ok fs) all = all
    go (Err e) all = tt

pub means_lawful : {s : List ℕ} {o : Outcome} → Means s o → (m : Message) → o ≡ Ok m → AllByRecursion LawfulField m.fields
means_lawful h m e = subst (λ o. IfOk o (λ m. AllByRecursion LawfulField m.fields)) e (outcome_lawful h)

pub lawful_fields : LawfulFields
lawful_fields s m h = means_lawful h m refl
