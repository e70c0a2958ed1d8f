-- The fields that come from a section on, in a message that loads.
use Rattle.std.proofs.Common.{◌≡◌, ℕ, suc, ◌+◌, ◌<◌, ◌≤◌, Bool, true, cond, List, [], ◌++◌, length, get_or, take, drop, Some, None, Ok, Err, sym, refl, ap, ◌∙◌, subst, ap₂, append_assoc, append-nil, arith}
use Rattle.std.proofs.lemmas.Option.{cond_some}
use Rattle.std.proofs.lemmas.Bool.{ne_eqb, eq-eqb, cond-false, cond-true}
use Rattle.sections.specs.Rules.{judge, checks_for}
use Rattle.sections.specs.Sections.{packing_of}
use Rattle.sections.specs.declared.packing.Packing.{Packing}
use Rattle.messages.specs.declared.field.Field.{Field}
use Rattle.messages.specs.declared.field.Grid.{Grid}
use Rattle.messages.specs.declared.order.Last.{Last}
use Rattle.messages.specs.declared.order.Last.TheVariants as last
use Rattle.messages.specs.declared.order.Due.{Due}
use Rattle.messages.specs.declared.order.Due.TheVariants as due
use Rattle.messages.specs.Order.{follows}
use Rattle.messages.specs.Messages.{Reads, Fields, Ended, stated, rules_of, string_fault, leaves, finishes}
use Rattle.messages.specs.Messages.Reads.{whole, sound}
use Rattle.messages.specs.Meaning.{read_by, fields_of, coming}
use Rattle.messages.proofs.Agreeing.{total, agree}

abbrev pub FieldList : Type 0
FieldList = List (Field (List ℕ))

-- the message loads from here on, and the fields ms come, whatever stood before
abbrev pub Comes : Last (List ℕ) → List ℕ → FieldList → Type 0
Comes l r ms = (q : ℕ) (es : FieldList) → Reads l q es r (Ok (es ++ ms))

pub record Shift (l : Last (List ℕ)) (r : List ℕ) (fs gs : FieldList) : Type 0 where
  pub more : FieldList
  pub is : gs ≡ fs ++ more
  pub comes : Comes l r more

pub shift : {l : Last (List ℕ)} {p : ℕ} {fs : FieldList} {r : List ℕ} {o : Fields} → Reads l p fs r o → (gs : FieldList) → o ≡ Ok gs → Shift l r fs gs
shift {l} {fs = fs} {r = r} (whole e n) gs q =
    let z : fs ≡ gs = cc in
    record { more = []; is = sym z ∙ sym (append-nil fs); comes = λ p es. subst (λ x. Reads l p es r (Ok x)) (sym (append-nil es)) (whole e n) }
shift {fs = fs} {r = r} (sound {d = d} live long next fits ok text rest) gs q =
    let h = shift rest gs q in
    let made = finishes d (take (stated r) r) in
    record {
      more = made ++ h.more;
      is = h.is ∙ append_assoc fs made h.more;
      comes = λ p es. sound live long next fits ok text (subst (λ x. Reads (leaves d (take (stated r) r)) (p + stated r) (es ++ made) (drop (stated r) r) (Ok x)) (append_assoc es made h.more) (h.comes (p + stated r) (es ++ made)));
    }
shift h gs q = cc

pub comes_is : (l : Last (List ℕ)) (r : List ℕ) (ms : FieldList) → Comes l r ms → coming l r ≡ ms
unfolding coming
comes_is l r ms h = ap fields_of (agree (suc (length r)) (h 0 []) (omega arith))

is_comes : (l : Last (List ℕ)) (r : List ℕ) → 0 < length (coming l r) → Comes l r (coming l r)
unfolding coming
is_comes l r some = go (read_by (suc (length r)) l 0 [] r) (total (suc (length r)) l 0 [] r (omega arith)) some
  where
    go : (o : Fields) → Reads l 0 [] r o → 0 < length (fields_of o) → Comes l r (fields_of o)
    go (Ok fs) h some = let k = shift h fs refl in subst (Comes l r) (sym k.is) k.comes
    go (Err e) h some = absurd (omega arith)

-- the next section of a message that loads, where fields are still to come
pub record Opens (l : Last (List ℕ)) (r : List ℕ) : Type 0 where
  pub due : Due (List ℕ)
  pub long : 5 ≤ length r
  pub next : follows l (get_or r 4 0) ≡ Some due
  pub fits : stated r ≤ length r
  pub ok : judge (checks_for (rules_of due)) (take (stated r) r) ≡ None
  pub text : string_fault due (take (stated r) r) ≡ None
  pub more : FieldList
  pub is : coming l r ≡ finishes due (take (stated r) r) ++ more
  pub comes : Comes (leaves due (take (stated r) r)) (drop (stated r) r) more

pub opens : (l : Last (List ℕ)) (r : List ℕ) → 0 < length (coming l r) → Opens l r
opens l r some = go (is_comes l r some 0 []) refl refl
  where
    go : {p : ℕ} {fs : FieldList} {o : Fields} → Reads l p fs r o → fs ≡ [] → o ≡ Ok (coming l r) → Opens l r
    go {fs = fs} (whole e n) none q = let z : fs ≡ coming l r = cc in absurd (omega (arith, some, ap length z, ap length none))
    go (sound {d = d} live long next fits ok text rest) none q =
        let k = shift rest (coming l r) q in
        record { due = d; long = long; next = next; fits = fits; ok = ok; text = text; more = k.more; is = k.is ∙ ap (λ (x : FieldList). (x ++ finishes d (take (stated r) r)) ++ k.more) none; comes = k.comes }
    go h none q = cc

-- what is known of the next section by its kind: it has no flaw, and the fields come from what it leaves on
pub record Known (l : Last (List ℕ)) (r : List ℕ) (d : Due (List ℕ)) : Type 0 where
  pub long : 5 ≤ length r
  pub fits : stated r ≤ length r
  pub ok : judge (checks_for (rules_of d)) (take (stated r) r) ≡ None
  pub on : coming l r ≡ finishes d (take (stated r) r) ++ coming (leaves d (take (stated r) r)) (drop (stated r) r)

-- where only one section may follow
pub known : (l : Last (List ℕ)) (r : List ℕ) (d : Due (List ℕ)) (b : Bool) → follows l (get_or r 4 0) ≡ cond b (Some d) None → 0 < length (coming l r) → Known l r d
known l r d b one some =
    let h = opens l r some in
    subst (Known l r) (sym (cond_some b d h.due (sym one ∙ h.next)).1)
    (record { long = h.long; fits = h.fits; ok = h.ok; on = h.is ∙ ap (λ (x : FieldList). finishes h.due (take (stated r) r) ++ x) (sym (comes_is _ _ _ h.comes)) })

pub at_identification : (r : List ℕ) → 0 < length (coming last.Head r) → Known last.Head r due.Identification
at_identification r some = known last.Head r _ _ refl some

pub at_first : (r : List ℕ) → 0 < length (coming last.Identification r) → Known last.Identification r due.Frame
at_first r some = known last.Identification r _ _ refl some

module _ (g : Grid) (r : List ℕ) where
  pub at_product : 0 < length (coming (last.Frame g) r) → Known (last.Frame g) r (due.Product g)
  at_product some = known (last.Frame g) r _ _ refl some

  pub at_packing : (p : List ℕ) → 0 < length (coming (last.Product g p) r) → Known (last.Product g p) r (due.Packing g p)
  at_packing p some = known (last.Product g p) r _ _ refl some

  pub at_bitmap : (p : List ℕ) (k : Packing (List ℕ)) → 0 < length (coming (last.Packing g p k) r) → Known (last.Packing g p k) r (due.Bitmap g p k)
  at_bitmap p k some = known (last.Packing g p k) r _ _ refl some

  pub at_data : (p : List ℕ) (k : Packing (List ℕ)) → 0 < length (coming (last.Bitmap g p k) r) → Known (last.Bitmap g p k) r (due.Data g p k)
  at_data p k some = known (last.Bitmap g p k) r _ _ refl some

  -- after section 5 the fields come from section 6 on, where the code has the section and the octets after it
  pub past_packing : (p s after : List ℕ) → 0 < length (coming (last.Product g p) r) → s ≡ take (stated r) r → after ≡ drop (stated r) r → coming (last.Product g p) r ≡ coming (last.Packing g p (packing_of s)) after
  past_packing p s after some front back = (at_packing p some).on ∙ ap₂ (λ a b. coming (last.Packing g p (packing_of a)) b) (sym front) (sym back)

  -- a field with a frame section of its own
  pub at_frame : 0 < length (coming (last.Data g) r) → get_or r 4 0 ≡ 3 → Known (last.Data g) r due.Frame
  at_frame some three = known (last.Data g) r _ true (cond-true _ _ _ (eq-eqb (get_or r 4 0) 3 three)) some

-- a section may be read from another state that it may follow too
pub again : (l k : Last (List ℕ)) (r : List ℕ) (h : Opens l r) → (Ended k r → ⊥) → follows k (get_or r 4 0) ≡ Some h.due → coming l r ≡ coming k r
again l k r h live next = h.is ∙ sym (comes_is k r _ (λ p es.
    let made = finishes h.due (take (stated r) r) in
    sound live h.long next h.fits h.ok h.text (subst (λ x. Reads (leaves h.due (take (stated r) r)) (p + stated r) (es ++ made) (drop (stated r) r) (Ok x)) (append_assoc es made h.more) (h.comes (p + stated r) (es ++ made)))))

-- a field under the frame of the one before it
pub at_same : (g : Grid) (r : List ℕ) → 0 < length (coming (last.Data g) r) → (get_or r 4 0 ≡ 3 → ⊥) → coming (last.Data g) r ≡ coming (last.Frame g) r
at_same g r some other =
    let h = opens (last.Data g) r some in
    again (last.Data g) (last.Frame g) r h (λ e. e) (sym (cond-false _ _ _ (ne_eqb (get_or r 4 0) 3 other)) ∙ h.next)
