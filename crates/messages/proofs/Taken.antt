-- Octets that are read through are made of sections, by induction over the rules.
use Rattle.std.proofs.Common.{◌≡◌, ℕ, ◌<◌, ◌≤◌, Bool, true, false, cond, eqb, leb, List, [], ◌∷◌, ◌++◌, length, get_or, take, drop, Some, None, Ok, Option, sym, refl, ap, ◌∙◌, subst, append_assoc, append-nil, arith}
use Rattle.std.specs.List.{AllByRecursion}
use Rattle.std.proofs.ByRecursion.{All-take, All-drop}
use Rattle.std.proofs.lemmas.List.{length-take-le, take_all, take-take, take-append-drop, get_or-take}
use Rattle.std.proofs.lemmas.Bool.{eqb-true, leb-true, and_parts}
use Rattle.format.specs.Numbers.{number, field}
use Rattle.runs.specs.StringFaults as string
use Rattle.runs.proofs.Faultless.{faultless_loads}
use Rattle.sections.specs.declared.packing.Packing.{Packing}
use Rattle.sections.specs.declared.rules.Rule.{Rule}
use Rattle.sections.specs.Rules.{judge, checks_for}
use Rattle.sections.specs.Sections.{identification_rules, frame_rules, product_rules, packing_rules, packing_of, bitmap_rules, data_rules, content}
use Rattle.sections.proofs.Firsts.{all_pass}
use Rattle.messages.specs.declared.field.Field.{Field}
use Rattle.messages.specs.declared.field.Grid.{Grid}
use Rattle.messages.specs.declared.order.Last.{Last}
use Rattle.messages.specs.declared.order.Last.TheVariants as last
use Rattle.messages.specs.declared.order.Due.{Due}
use Rattle.messages.specs.Order.{follows}
use Rattle.messages.specs.Messages.{Reads, Fields, Ended, stated, mark, grid_of, rules_of, string_fault, leaves, finishes}
use Rattle.messages.specs.Messages.Reads.{whole, sound}
use Rattle.messages.specs.Composition.{IsSection, IsField, AreFields}
use Rattle.messages.specs.Composition.AreFields.{none, own, under}
use Rattle.messages.proofs.Lengths.{five}

-- a section, and what is known of it and of the octets after it
pub record Led (n : ℕ) (rules : List Rule) (next : List ℕ → List ℕ → Type 0) (r : List ℕ) : Type 0 where
  pub front : List ℕ
  pub rest : List ℕ
  pub section : IsSection n rules front
  pub octets : r ≡ front ++ rest
  pub after : next front rest

-- fields, and the end mark
pub record Closed (g : Option Grid) (fs : List (Field (List ℕ))) (r : List ℕ) : Type 0 where
  pub body : List ℕ
  pub octets : r ≡ body ++ mark
  pub are : AreFields g body fs

-- what comes after sections 7, 6, 5, 4, 3 and 1; the string and the fields are known if the frame has points
abbrev pub AfterData : Grid → List (Field (List ℕ)) → List ℕ → Type 0
AfterData g fs r = 0 < g.points → Closed (Some g) fs r

pub record Finished (g : Grid) (p : List ℕ) (k : Packing (List ℕ)) (fs : List (Field (List ℕ))) (s r : List ℕ) : Type 0 where
  pub later : List (Field (List ℕ))
  pub is : fs ≡ record { frame = g.frame; product = p; packing = k; string = content s } ∷ later
  pub loads : 0 < g.points → string.Loads k.v g.points (content s)
  pub after : AfterData g later r

abbrev pub AfterBitmap : Grid → List ℕ → Packing (List ℕ) → List (Field (List ℕ)) → List ℕ → Type 0
AfterBitmap g p k fs r = Led 7 data_rules (Finished g p k fs) r

abbrev pub AfterPacking : Grid → List ℕ → Packing (List ℕ) → List (Field (List ℕ)) → List ℕ → Type 0
AfterPacking g p k fs r = Led 6 bitmap_rules (λ s. AfterBitmap g p k fs) r

abbrev pub AfterProduct : Grid → List ℕ → List (Field (List ℕ)) → List ℕ → Type 0
AfterProduct g p fs r = Led 5 (packing_rules g.points) (λ s. AfterPacking g p (packing_of s) fs) r

abbrev pub AfterFrame : Grid → List (Field (List ℕ)) → List ℕ → Type 0
AfterFrame g fs r = Led 4 product_rules (λ s. AfterProduct g (content s) fs) r

abbrev pub AfterIdentification : List (Field (List ℕ)) → List ℕ → Type 0
AfterIdentification fs r = Led 3 frame_rules (λ s. AfterFrame (grid_of s) fs) r

abbrev pub After : Last (List ℕ) → List (Field (List ℕ)) → List ℕ → Type 0
After last.Head fs r = Led 1 identification_rules (λ s. AfterIdentification fs) r
After last.Identification fs r = AfterIdentification fs r
After (last.Frame g) fs r = AfterFrame g fs r
After (last.Product g p) fs r = AfterProduct g p fs r
After (last.Packing g p k) fs r = AfterPacking g p k fs r
After (last.Bitmap g p k) fs r = AfterBitmap g p k fs r
After (last.Data g) fs r = AfterData g fs r

-- a frame section's points
pub points : (s : List ℕ) → AllByRecursion (λ c. c.passes s ≡ true) (checks_for frame_rules) → 0 < (grid_of s).points
unfolding frame_rules
points s h = leb-true 1 (field s 7 4) (and_parts (leb 1 (field s 7 4)) (leb (field s 7 4) 33554432) h.1.1.0).0

-- one field under a frame, and what comes after it
record Fielded (g : Grid) (fs : List (Field (List ℕ))) (r : List ℕ) : Type 0 where
  body : List ℕ
  rest : List ℕ
  f : Field (List ℕ)
  later : List (Field (List ℕ))
  field : IsField g body f
  are : AreFields (Some g) rest later
  octets : r ≡ body ++ (rest ++ mark)
  is : fs ≡ f ∷ later

fielded : (g : Grid) (fs : List (Field (List ℕ))) (r : List ℕ) → 0 < g.points → AfterFrame g fs r → Fielded g fs r
fielded g fs r some a =
    let b = a.after in
    let c = b.after in
    let d = c.after in
    let e = d.after in
    let z = e.after some in
    record {
      body = a.front ++ (b.front ++ (c.front ++ d.front));
      rest = z.body;
      f = record { frame = g.frame; product = content a.front; packing = packing_of b.front; string = content d.front };
      later = e.later;
      field = record {
        product = a.front;
        packing = b.front;
        bitmap = c.front;
        levels = d.front;
        octets = refl;
        four = a.section;
        five = b.section;
        six = c.section;
        seven = d.section;
        loads = e.loads some;
        means = refl;
      };
      are = z.are;
      octets = simp append_assoc (cc (a.octets, b.octets, c.octets, d.octets, z.octets));
      is = e.is;
    }

-- a field with a frame of its own, and the fields after it
pub own_closed : (g : Option Grid) (fs : List (Field (List ℕ))) (r : List ℕ) → AfterIdentification fs r → Closed g fs r × (0 < length fs)
own_closed g fs r h =
    let k = fielded (grid_of h.front) fs h.rest (points h.front h.section.keeps) h.after in (
      record {
        body = h.front ++ (k.body ++ k.rest);
        octets = simp append_assoc (cc (h.octets, k.octets));
        are = own h.section k.field k.are refl k.is;
      },
      omega (arith, ap length k.is),
    )

-- a section read in front of the others
module _ (s rest : List ℕ) (n : ℕ) (more : List (Field (List ℕ))) (long : 5 ≤ length s) (states : stated s ≡ length s) (here : get_or s 4 0 ≡ n) (octets : AllByRecursion (λ o. o < 256) s) where
  led : (k : ℕ) (rules : List Rule) (next : List ℕ → List ℕ → Type 0) → eqb n k ≡ true → judge (checks_for rules) s ≡ None → next s rest → Led k rules next (s ++ rest)
  led k rules next e ok h = record {
    front = s;
    rest = rest;
    octets = refl;
    after = h;
    section = record { long = long; states = states; numbered = here ∙ eqb-true n k e; keeps = all_pass (checks_for rules) s ok };
  }

  abbrev Adds : Last (List ℕ) → Due (List ℕ) → Type 0
  Adds l d = judge (checks_for (rules_of d)) s ≡ None → string_fault d s ≡ None → After (leaves d s) more rest → After l (finishes d s ++ more) (s ++ rest)

  pick : (b : Bool) (x d : Due (List ℕ)) (o : Option (Due (List ℕ))) (l : Last (List ℕ)) → cond b (Some x) o ≡ Some d → (b ≡ true → Adds l x) → (o ≡ Some d → Adds l d) → Adds l d
  pick true x d o l e h k = let q : x ≡ d = cc in subst (Adds l) q (h refl)
  pick false x d o l e h k = k e

  only : (k : ℕ) (x d : Due (List ℕ)) (l : Last (List ℕ)) → cond (eqb n k) (Some x) None ≡ Some d → (eqb n k ≡ true → Adds l x) → Adds l d
  only k x d l e h = pick (eqb n k) x d None l e h (λ e. cc)

  adds : (l : Last (List ℕ)) (d : Due (List ℕ)) → follows l n ≡ Some d → Adds l d
  adds last.Head d e = only 1 _ d last.Head e (λ t ok fine h. led 1 _ _ t ok h)
  adds last.Identification d e = only 3 _ d last.Identification e (λ t ok fine h. led 3 _ _ t ok h)
  adds (last.Frame g) d e = only 4 _ d (last.Frame g) e (λ t ok fine h. led 4 _ _ t ok h)
  adds (last.Product g p) d e = only 5 _ d (last.Product g p) e (λ t ok fine h. led 5 _ _ t ok h)
  adds (last.Packing g p k) d e = only 6 _ d (last.Packing g p k) e (λ t ok fine h. led 6 _ _ t ok h)
  adds (last.Bitmap g p k) d e =
      only 7 _ d (last.Bitmap g p k) e
      (λ t ok fine h. led 7 _ _ t ok (record {
        later = more;
        is = refl;
        after = h;
        loads = λ some. (faultless_loads k.v g.points (content s) some (All-drop (λ o. o < 256) 5 s octets)).loads fine;
      }))
  adds (last.Data g) d e =
      pick (eqb n 3) _ d _ (last.Data g) e
      (λ t ok fine h some. (own_closed (Some g) more (s ++ rest) (led 3 _ _ t ok h)).0)
      (λ e. only 4 _ d (last.Data g) e (λ t ok fine h some.
      let k = fielded g more (s ++ rest) some (led 4 _ _ t ok h) in
      record {
        body = k.body ++ k.rest;
        octets = k.octets ∙ sym (append_assoc k.body k.rest mark);
        are = under refl k.field k.are refl k.is;
      }))

at_end : (l : Last (List ℕ)) (r : List ℕ) → Ended l r → length r ≡ 4 → After l [] r
at_end (last.Data g) r e n = λ some. record { body = []; octets = sym (take_all 4 r (omega arith)) ∙ e; are = none refl refl }
at_end l r e n = absurd e

-- what is read through adds fields, and is made of sections
pub record Taken (l : Last (List ℕ)) (r : List ℕ) (fs gs : List (Field (List ℕ))) : Type 0 where
  pub more : List (Field (List ℕ))
  pub is : gs ≡ fs ++ more
  pub after : After l more r

pub take_through : {l : Last (List ℕ)} {p : ℕ} {fs : List (Field (List ℕ))} {r : List ℕ} {o : Fields} → Reads l p fs r o
    → AllByRecursion (λ o. o < 256) r → (gs : List (Field (List ℕ))) → o ≡ Ok gs → Taken l r fs gs
take_through {l} {fs = fs} {r = r} (whole e n) octets gs q =
    let z : fs ≡ gs = cc in
    record { more = []; is = sym z ∙ sym (append-nil fs); after = at_end l r e n }
take_through {l} {fs = fs} {r = r} (sound {d = d} live long next fits ok fine on) octets gs q =
    let s : List ℕ = take (stated r) r in
    let h = take_through on (All-drop (λ o. o < 256) (stated r) r octets) gs q in
    let size : length s ≡ stated r = length-take-le (stated r) r fits in
    let most : 5 ≤ length s = five d s ok in
    let states : stated s ≡ length s = ap number (take-take 4 (stated r) r (omega arith)) ∙ sym size in
    let here : get_or s 4 0 ≡ get_or r 4 0 = get_or-take (stated r) r 4 0 (omega arith) in
    record {
      more = finishes d s ++ h.more;
      is = h.is ∙ append_assoc fs (finishes d s) h.more;
      after = subst (After l (finishes d s ++ h.more)) (take-append-drop (stated r) r)
          (adds s (drop (stated r) r) (get_or r 4 0) h.more most states here (All-take (λ o. o < 256) (stated r) r octets) l d next ok fine h.after);
    }
take_through h octets gs q = cc
