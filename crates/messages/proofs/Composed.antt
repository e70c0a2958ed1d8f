-- Octets load as a message exactly if they are one.
use Rattle.std.proofs.Common.{◌≡◌, ℕ, ◌+◌, ◌<◌, ◌≤◌, List, [], ◌∷◌, ◌++◌, length, get_or, take, drop, Some, None, Ok, Err, Option, sym, refl, ap, ◌∙◌, subst, subst₂, append_assoc, append-nil, arith}
use mathlib.Core.Path.{subst₃}
use Rattle.std.specs.List.{AllByRecursion}
use Rattle.std.proofs.ByRecursion.{All-drop}
use Rattle.std.proofs.lemmas.List.{length-append, length-drop, length-take-le, take_at, take-append-le, take-append-drop, drop_at, get_or_append_left}
use Rattle.std.proofs.lemmas.Bool.{leb-true}
use Rattle.format.specs.Numbers.{number}
use Rattle.runs.proofs.Faultless.{faultless_loads}
use Rattle.sections.specs.Rules.{judge, checks_for}
use Rattle.sections.specs.Sections.{identification_rules, identification_of, frame_rules}
use Rattle.sections.proofs.Firsts.{all_pass, none_fails}
use Rattle.messages.specs.declared.field.Field.{Field}
use Rattle.messages.specs.declared.field.Grid.{Grid}
use Rattle.messages.specs.declared.order.Last.{Last}
use Rattle.messages.specs.declared.order.Last.TheVariants as last
use Rattle.messages.specs.declared.order.Due.{Due}
use Rattle.messages.specs.declared.order.Due.TheVariants as due
use Rattle.messages.specs.Order.{follows}
use Rattle.format.specs.Sections.{number_of}
use Rattle.messages.specs.Messages.{Message, Means, Reads, Outcome, Ended, head_checks, stated, mark, grid_of, section_of, rules_of, string_fault, leaves, finishes}
use Rattle.messages.specs.Messages.Reads.{whole, sound}
use Rattle.messages.specs.Messages.Means.{headless, headed}
use Rattle.messages.specs.Content.{ContentLaw}
use Rattle.messages.specs.Laws.{MessageLaws}
use Rattle.messages.specs.Composition.{IsSection, IsField, AreFields, IsMessage, Composition}
use Rattle.messages.specs.Composition.AreFields.{none, own, under}
use Rattle.messages.proofs.Agreeing.{one_outcome}
use Rattle.messages.proofs.LawfulReads.{lawful_fields}
use Rattle.messages.proofs.Lengths.{identification_length}
use Rattle.messages.proofs.Taken.{points, own_closed, take_through}

-- section 1 has 21 octets
said : (r s rest : List ℕ) → IsSection 1 identification_rules s → r ≡ s ++ rest → identification_of (take 21 r) ≡ identification_of s
said r s rest one is =
    ap (λ a. identification_of (take 21 a)) is
    ∙ ap identification_of (take_at s rest 21 (identification_length s (none_fails (checks_for identification_rules) s one.keeps)))

-- what loads is a message
is_message : {s : List ℕ} {o : Outcome} → Means s o → AllByRecursion (λ o. o < 256) s → (m : Message) → o ≡ Ok m → IsMessage s m
is_message (headless e) octets m q = cc
is_message {s} (headed {o = Err x} e on) octets m q = cc
is_message {s} (headed {o = Ok fs} e on) octets m q =
    let h = take_through on (All-drop (λ o. o < 256) 16 s octets) fs refl in
    let a = h.after in
    let b = own_closed None h.more a.rest a.after in
    let z = b.0 in
    let made : record { identification = identification_of (take 21 (drop 16 s)); fields = fs } ≡ m = cc in
    subst (IsMessage s) made (record {
      identification = a.front;
      fields = z.body;
      octets = sym (take-append-drop 16 s) ∙ ap (λ r. take 16 s ++ r) (a.octets ∙ ap (λ r. a.front ++ r) z.octets);
      zero = all_pass head_checks s e;
      one = a.section;
      are = subst (AreFields None z.body) (sym h.is) z.are;
      some = omega (arith, b.1, ap length h.is);
      says = said _ _ _ a.section a.octets;
    })

-- the octets, of which there are few enough, are read through and add the fields
abbrev Comes : Last (List ℕ) → List ℕ → List (Field (List ℕ)) → Type 0
Comes l r ms = length r ≤ 134217728 → (p : ℕ) (fs : List (Field (List ℕ))) → Reads l p fs r (Ok (fs ++ ms))

ended_mark : (l : Last (List ℕ)) (r : List ℕ) → Ended l r → take 4 r ≡ mark
ended_mark (last.Data g) r e = e
ended_mark l r e = absurd e

-- a section is read: the end mark, as a length, is more than the octets
section_comes : (l : Last (List ℕ)) (d : Due (List ℕ)) (s rest : List ℕ) (ms : List (Field (List ℕ))) → follows l (number_of (section_of d)) ≡ Some d
    → IsSection (number_of (section_of d)) (rules_of d) s → string_fault d s ≡ None → Comes (leaves d s) rest ms → Comes l (s ++ rest) (finishes d s ++ ms)
section_comes l d s rest ms next is fine h few p fs =
    let long : 5 ≤ length s = is.long in
    let both : length (s ++ rest) ≡ length s + length rest = length-append s rest in
    let size : stated (s ++ rest) ≡ length s = ap number (take-append-le 4 s rest (omega arith)) ∙ is.states in
    let front : take (stated (s ++ rest)) (s ++ rest) ≡ s = take_at s rest (stated (s ++ rest)) (sym size) in
    let back : drop (stated (s ++ rest)) (s ++ rest) ≡ rest = drop_at s rest (stated (s ++ rest)) (sym size) in
    let here : get_or (s ++ rest) 4 0 ≡ number_of (section_of d) = get_or_append_left s rest 0 4 (omega arith) ∙ is.numbered in
    sound
    (λ e. let big : stated (s ++ rest) ≡ 926365495 = ap number (ended_mark l (s ++ rest) e) in omega arith)
    (omega arith) (ap (follows l) here ∙ next) (omega arith)
    (subst (λ a. judge (checks_for (rules_of d)) a ≡ None) (sym front) (none_fails (checks_for (rules_of d)) s is.keeps))
    (subst (λ a. string_fault d a ≡ None) (sym front) fine)
    (subst₃ (λ a q b. Reads (leaves d a) (p + q) (fs ++ finishes d a) b (Ok (fs ++ (finishes d s ++ ms)))) (sym front) (sym size) (sym back)
    (subst (λ x. Reads (leaves d s) (p + length s) (fs ++ finishes d s) rest (Ok x)) (append_assoc fs (finishes d s) ms) (h (omega arith) (p + length s) (fs ++ finishes d s))))

field_comes : (l : Last (List ℕ)) (g : Grid) (body rest : List ℕ) (f : Field (List ℕ)) (ms : List (Field (List ℕ))) → follows l 4 ≡ Some (due.Product g)
    → 0 < g.points → IsField g body f → Comes (last.Data g) rest ms → Comes l (body ++ rest) (f ∷ ms)
field_comes l g body rest f ms next some h on =
    let at : h.product ++ (h.packing ++ (h.bitmap ++ (h.levels ++ rest))) ≡ body ++ rest = rw h.octets (simp append_assoc) in
    let exact = faultless_loads _ _ _ some h.loads.loadable.octets in
    subst₂ (λ r x. Comes l r (x ∷ ms)) at (sym h.means)
    (section_comes l (due.Product g) h.product _ _ next h.four refl
    (section_comes _ (due.Packing g _) h.packing _ _ refl h.five refl
    (section_comes _ (due.Bitmap g _ _) h.bitmap _ _ refl h.six refl
    (section_comes _ (due.Data g _ _) h.levels rest ms refl h.seven (exact.none h.loads) on))))

frame_comes : (l : Last (List ℕ)) (s frame body rest : List ℕ) (f : Field (List ℕ)) (ms fs : List (Field (List ℕ))) → follows l 3 ≡ Some due.Frame
    → IsSection 3 frame_rules frame → IsField (grid_of frame) body f → s ≡ frame ++ (body ++ rest) → fs ≡ f ∷ ms
    → Comes (last.Data (grid_of frame)) (rest ++ mark) ms → Comes l (s ++ mark) fs
frame_comes l s frame body rest f ms fs next three field is made on =
    let at : frame ++ (body ++ (rest ++ mark)) ≡ s ++ mark = rw is (simp append_assoc) in
    subst₂ (Comes l) at (sym made)
    (section_comes l due.Frame frame _ _ next three refl (field_comes _ (grid_of frame) body (rest ++ mark) f ms refl (points frame three.keeps) field on))

fields_come : {g : Option Grid} {s : List ℕ} {fs : List (Field (List ℕ))} → AreFields g s fs → (latest : Grid) → g ≡ Some latest → 0 < latest.points
    → Comes (last.Data latest) (s ++ mark) fs
fields_come (none is made) latest q some =
    subst₂ (λ r fs. Comes (last.Data latest) (r ++ mark) fs) (sym is) (sym made)
    (λ few p fs. subst (λ x. Reads (last.Data latest) p fs mark (Ok x)) (sym (append-nil fs)) (whole refl refl))
fields_come (own three field more is made) latest q some =
    frame_comes (last.Data latest) _ _ _ _ _ _ _ refl three field is made (fields_come more _ refl (points _ three.keeps))
fields_come {s = s} (under {latest = g} {body = body} {rest = rest} e field more is made) latest q some =
    let same : g ≡ latest = cc in
    let at : body ++ (rest ++ mark) ≡ s ++ mark = rw is (simp append_assoc) in
    let enough : 0 < g.points = subst (λ g. 0 < g.points) (sym same) some in
    subst₃ (λ g r fs. Comes (last.Data g) r fs) same at (sym made) (field_comes (last.Data g) g body (rest ++ mark) _ _ refl enough field (fields_come more g refl enough))

-- the first field has a frame of its own
first_come : {g : Option Grid} {s : List ℕ} {fs : List (Field (List ℕ))} → AreFields g s fs → g ≡ None → 0 < length fs → Comes last.Identification (s ++ mark) fs
first_come (none is made) q some = absurd (omega (arith, ap length made))
first_come (own three field more is made) q some =
    frame_comes last.Identification _ _ _ _ _ _ _ refl three field is made (fields_come more _ refl (points _ three.keeps))
first_come (under e field more is made) q some = cc

-- a message loads
loads : (s : List ℕ) (m : Message) → IsMessage s m → Means s (Ok m)
loads s m h =
    let long : 16 ≤ length s = leb-true 16 (length s) h.zero.0 in
    let few : length s ≤ 134217728 = leb-true (length s) 134217728 h.zero.1.1.1.1.1.1.0 in
    let at : drop 16 s ≡ h.identification ++ (h.fields ++ mark) = ap (drop 16) h.octets ∙ drop_at (take 16 s) (h.identification ++ (h.fields ++ mark)) 16 (length-take-le 16 s long) in
    let comes : Comes last.Head (drop 16 s) m.fields = subst (λ r. Comes last.Head r m.fields) (sym at)
    (section_comes last.Head due.Identification h.identification _ _ refl h.one refl (first_come h.are refl h.some)) in
    subst (λ i. Means s (Ok (record { identification = i; fields = m.fields }))) (said _ _ _ h.one at ∙ sym h.says)
    (headed (none_fails head_checks s h.zero) (comes (omega (arith, length-drop 16 s)) 16 []))

pub composition : Composition
composition s m octets = ((λ h. is_message h octets m refl), loads s m)

content_law : ContentLaw
content_law s c octets = (
  (λ h. record { message = h.message; is = (composition s h.message octets).0 h.loads; says = h.says }),
  (λ h. record { message = h.message; loads = (composition s h.message octets).1 h.is; says = h.says }),
)

pub message_laws : MessageLaws
message_laws = record { one = one_outcome; composed = composition; content = content_law; lawful = lawful_fields }
