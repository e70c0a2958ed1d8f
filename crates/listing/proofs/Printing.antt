-- Lines that are written one after another.
use Rattle.std.proofs.Common.{◌≡◌, ℕ, ◌+◌, true, List, ◌∷◌, ◌++◌, length, is_ok, Result, sym, refl, ap, ◌∙◌, subst, append_assoc, arith, Bor}
use Rattle.std.proofs.lemmas.Grind.{put_two}
use Rattle.std.specs.Fmt.{IsPlainFormatter, HasWritten, WritesOnOk}
use Rattle.std.specs.declared.fmt.Error.{Error}
use Rattle.std.specs.declared.fmt.Formatter.{Formatter}
use Rattle.std.specs.List.{AllByRecursion}
use Rattle.messages.specs.declared.field.Field.{Field}
use Rattle.messages.specs.Lawful.{LawfulField}
use Rattle.messages.specs.Order.{held_field}
use Rattle.listing.specs.declared.figures.Figures.{Figures}
use Rattle.listing.specs.Lines.{figures_of, figures_lines, fields_lines}

module _ {W : Type 0} (took : W → List ℕ → W → Type 0) (f₀ : Formatter W) (all : List (Field (List ℕ))) where
  -- the text so far, and the lines of the fields that are left, make the whole
  pub record Text (k : ℕ) (left : List (Field (List ℕ))) (f : Formatter W) : Type 0 where
    pub text : List ℕ
    pub put : HasWritten took f₀ text f
    pub whole : text ++ fields_lines k left ≡ fields_lines 0 all

  pub record Printing (k : ℕ) (left : List (Field (List ℕ))) (f : Formatter W) : Type 0 where
    pub count : k + length left ≡ length all
    pub lawful : AllByRecursion LawfulField left
    pub text : IsPlainFormatter f₀ → Text k left f

  pub more : (k : ℕ) (left after : List (Field (List ℕ))) (x : Field (Bor (List ℕ))) (y : Figures) (f g : Formatter W) (r : Result (Unit {0}) Error)
      → Printing k left f → left ≡ held_field x ∷ after → y ≡ figures_of k (held_field x) → WritesOnOk took f r (figures_lines y) g → is_ok r ≡ true → Printing (k + 1) after g
  more k left after x y f g r h is figures prints ok = record {
    count = omega (arith, h.count, ap length is);
    lawful = (subst (AllByRecursion LawfulField) is h.lawful).1;
    text = λ p.
        let t = h.text p in
        let line = figures_lines y in
        record {
          text = t.text ++ line;
          put = put_two took f₀ f g t.text line _ t.put (prints t.put.plain ok) refl;
          whole = append_assoc t.text line (fields_lines (k + 1) after) ∙ ap (λ z. t.text ++ (figures_lines z ++ fields_lines (k + 1) after)) figures ∙ ap (λ l. t.text ++ fields_lines k l) (sym is) ∙ t.whole;
        };
  }
