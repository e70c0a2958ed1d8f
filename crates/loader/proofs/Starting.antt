-- A message that loads: it has a field, and its fields come after section 1.
use Rattle.std.proofs.Common.{◌≡◌, ℕ, ◌+◌, ◌-◌, ◌<◌, ◌≤◌, Bool, true, false, cond, eqb, List, [], length, get_or, take, drop, Some, None, Ok, Err, Option, sym, refl, ap, ◌∙◌, subst, arith, length-append, length-drop, length-take, drop-drop}
use Rattle.std.specs.Option.{option_map}
use Rattle.std.proofs.lemmas.Bool.{leb-true}
use Rattle.format.specs.Numbers.{number}
use Rattle.format.specs.declared.fault.Refusal.{Refusal}
use Rattle.sections.specs.Sections.{identification_of}
use Rattle.sections.proofs.Firsts.{all_pass}
use Rattle.messages.specs.declared.field.Grid.{Grid}
use Rattle.messages.specs.declared.order.Last.{Last}
use Rattle.messages.specs.declared.order.Last.TheVariants as last
use Rattle.messages.specs.declared.order.Due.{Due}
use Rattle.messages.specs.declared.order.Due.TheVariants as due
use Rattle.messages.specs.Messages.{Message, Means, Reads, Outcome, Fields, Ended, head_checks, stated, mark, leaves, finishes, message_of}
use Rattle.messages.specs.Messages.Reads.{whole, sound}
use Rattle.messages.specs.Messages.Means.{headless, headed}
use Rattle.messages.specs.Meaning.{meaning, counted, message_in, fields_in, loaded_as, coming}
use Rattle.messages.proofs.Agreeing.{some_outcome}
use Rattle.messages.proofs.Lengths.{identification_length, frame_length}
use Rattle.loader.specs.Held.{LoadsAs}
use Rattle.loader.proofs.Coming.{FieldList, Comes, opens, again, at_identification, at_first, comes_is, shift}

-- a field is begun and not finished, unless section 7 was read last
abbrev begun : Last (List ℕ) → ℕ
begun (last.Data g) = 0
begun l = 1

begun_one : (l : Last (List ℕ)) → begun l ≤ 1
begun_one (last.Data g) = omega arith
begun_one l = omega arith

finished : (d : Due (List ℕ)) (s : List ℕ) → begun (leaves d s) + length (finishes d s) ≡ 1
finished (due.Data g p k) s = refl
finished d s = refl

ended_none : (l : Last (List ℕ)) (r : List ℕ) → Ended l r → begun l ≡ 0
ended_none (last.Data g) r e = refl
ended_none l r e = absurd e

grows : {l : Last (List ℕ)} {p : ℕ} {fs : FieldList} {r : List ℕ} {o : Fields} → Reads l p fs r o → (gs : FieldList) → o ≡ Ok gs → begun l + length fs ≤ length gs
grows {l} {fs = fs} {r = r} (whole e n) gs q = let z : fs ≡ gs = cc in omega (arith, ended_none l r e, ap length z)
grows {l} {fs = fs} {r = r} (sound {d = d} live long next fits ok text rest) gs q =
    omega (arith, grows rest gs q, begun_one l, finished d (take (stated r) r), length-append fs (finishes d (take (stated r) r)))
grows h gs q = cc

-- the parts of a message that loads
pub record Starts (s : List ℕ) (m : Message) : Type 0 where
  pub long : 37 ≤ length s
  pub some : 0 < length m.fields
  pub says : m.identification ≡ identification_of (take 21 (drop 16 s))
  pub comes : (g : Grid) → m.fields ≡ coming (last.Data g) (drop 37 s)

-- the first field, whose frame nothing stands before
at_start : (g : Grid) (r : List ℕ) → 0 < length (coming last.Identification r) → coming last.Identification r ≡ coming (last.Data g) r
at_start g r some = let h = opens last.Identification r some in again last.Identification (last.Data g) r h live (go h.due (eqb (get_or r 4 0) 3) h.next)
  where
    go : (e : Due (List ℕ)) (b : Bool) → cond b (Some due.Frame) None ≡ Some e → cond b (Some due.Frame) (cond (eqb (get_or r 4 0) 4) (Some (due.Product g)) None) ≡ Some e
    go e true q = q
    go e false q = cc

    live : take 4 r ≡ mark → ⊥
    live e =
        let big : stated r ≡ 926365495 = ap number e in
        let k = at_first r some in
        omega (arith, length-take (stated r) r, k.fits, frame_length (take (stated r) r) k.ok)

pub starts : {s : List ℕ} {o : Outcome} → Means s o → (m : Message) → o ≡ Ok m → Starts s m
starts (headless e) m q = cc
starts {s} (headed {o = o} e rest) m q = go o rest q
  where
    go : (o : Fields) → Reads last.Head 16 [] (drop 16 s) o → message_of s o ≡ Ok m → Starts s m
    go (Err x) h q = cc
    go (Ok fs) h q =
        let is : record { identification = identification_of (take 21 (drop 16 s)); fields = fs } ≡ m = cc in
        let r : List ℕ = drop 16 s in
        let head : 16 ≤ length s = leb-true 16 (length s) (all_pass head_checks s e).0 in
        let some : 0 < length fs = omega (arith, grows h fs refl) in
        let parts = shift h fs refl in
        let all : coming last.Head r ≡ fs = comes_is last.Head r fs (subst (Comes last.Head r) (sym parts.is) parts.comes) in
        let k = at_identification r (omega (arith, some, ap length all)) in
        let n : length (take (stated r) r) ≡ 21 = identification_length (take (stated r) r) k.ok in
        let size : stated r ≡ 21 = omega (arith, length-take (stated r) r, k.fits) in
        let left : length r ≡ length s - 16 = length-drop 16 s in
        let after : drop (stated r) r ≡ drop 37 s = ap (λ i. drop i r) size ∙ drop-drop 21 16 s in
        let on : coming last.Head r ≡ coming last.Identification (drop 37 s) = k.on ∙ ap (coming last.Identification) after in
        let count : 0 < length (coming last.Identification (drop 37 s)) = omega (arith, some, ap length all, ap length on) in
        subst (Starts s) is (record {
          long = omega (arith, k.fits);
          some = some;
          says = refl;
          comes = λ g. sym all ∙ on ∙ at_start g (drop 37 s) count;
        })

-- what octets load as, if they do
pub loads_as : (s : List ℕ) (m : Message) → loaded_as s ≡ Some m → Means s (Ok m)
unfolding loaded_as
loads_as s m e = go (meaning s) (some_outcome s) e
  where
    go : (o : Outcome) → Means s o → message_in o ≡ Some m → Means s (Ok m)
    go (Ok n) h q = let z : n ≡ m = cc in subst (λ x. Means s (Ok x)) z h
    go (Err x) h q = cc

-- a message that was counted, and one that was refused
pub loads : (s : List ℕ) (n : ℕ) → Ok n ≡ counted (meaning s) → (option_map (λ m. length m.fields) (loaded_as s) ≡ Some n) × LoadsAs s (loaded_as s)
unfolding loaded_as
loads s n e = go (meaning s) (some_outcome s) e
  where
    go : (o : Outcome) → Means s o → Ok n ≡ counted o → (option_map (λ m. length m.fields) (message_in o) ≡ Some n) × LoadsAs s (message_in o)
    go (Ok m) h q = (cc, h)
    go (Err x) h q = cc

pub refused : (s : List ℕ) (e : Refusal) → Err e ≡ counted (meaning s) → Means s (Err e)
refused s e h = go (meaning s) (some_outcome s) h
  where
    go : (o : Outcome) → Means s o → Err e ≡ counted o → Means s (Err e)
    go (Ok m) h q = cc
    go (Err x) h q = let y : x ≡ e = cc in subst (λ z. Means s (Err z)) y h

-- octets that load as a message of n fields
pub record Counted (s : List ℕ) (n : ℕ) : Type 0 where
  pub message : Message
  pub is : loaded_as s ≡ Some message
  pub count : n ≡ length message.fields
  pub starts : Starts s message

pub counted_as : (s : List ℕ) (n : ℕ) → option_map (λ m. length m.fields) (loaded_as s) ≡ Some n → Counted s n
counted_as s n e = go (loaded_as s) refl e
  where
    go : (o : Option Message) → loaded_as s ≡ o → option_map (λ m. length m.fields) o ≡ Some n → Counted s n
    go None q e = cc
    go (Some m) q e = record { message = m; is = q; count = cc; starts = starts (loads_as s m q) m refl }

pub none_coming : (g : Grid) → coming (last.Data g) [] ≡ []
unfolding coming
none_coming g = refl

-- the fields of octets that load come from place 37 on, whichever grid stands before them
pub fields_from : (s : List ℕ) (n : ℕ) (g : Grid) (rest : List ℕ) → option_map (λ m. length m.fields) (loaded_as s) ≡ Some n → rest ≡ drop 37 s → fields_in (loaded_as s) ≡ coming (last.Data g) rest
fields_from s n g rest known is = let h = counted_as s n known in ap fields_in h.is ∙ h.starts.comes g ∙ ap (coming (last.Data g)) (sym is)
