-- The values of a table of octets.
use Rattle.std.proofs.Common.{◌≡◌, ℕ, zero, suc, ◌+◌, ◌-◌, ◌*◌, ◌/◌, ◌<◌, ◌≤◌, List, [], ◌∷◌, length, take, drop, Some, None, sym, refl, ap, ◌∙◌, arith}
use Rattle.std.specs.Option.{option_map}
use Rattle.std.specs.List.{slice_get}
use Rattle.std.proofs.lemmas.Option.{slice_get_past}
use Rattle.format.specs.Numbers.{number, field, signed}
use Rattle.sections.specs.declared.packing.Packing.{Packing}
use Rattle.sections.specs.Values.{values, value_of}

pub length-values : (t : List ℕ) → length (values t) ≡ length t / 2
length-values [] = refl
length-values (a ∷ []) = omega arith
length-values (a ∷ b ∷ t) = omega (arith, length-values t)

pub value_at : (t : List ℕ) (m : ℕ) → suc (suc (m + m)) ≤ length t → slice_get (values t) m ≡ Some (signed 32768 (number (take 2 (drop (m + m) t))))
value_at [] m h = absurd (omega arith)
value_at (a ∷ []) m h = absurd (omega arith)
value_at (a ∷ b ∷ t) zero h = let e : a * 256 + b ≡ number (a ∷ b ∷ []) = omega arith in ap (λ n. Some (signed 32768 n)) e
value_at (a ∷ b ∷ t) (suc m) h =
    let e : suc (suc (m + m)) ≡ suc m + suc m = omega arith in
    value_at t m (omega arith) ∙ ap (λ n. Some (signed 32768 (number (take 2 (drop n (a ∷ b ∷ t)))))) e

-- a level with no value, and one with a value
pub value_none : (p : Packing (List ℕ)) (level : ℕ) → (0 < level → length p.table < 2 * level) → None ≡ value_of p level
value_none p zero h = refl
value_none p (suc m) h =
    let past = h (omega arith) in
    ap (option_map (λ r. record { number = r; scale = p.scale })) (sym (slice_get_past (values p.table) m (omega (arith, length-values p.table))))

pub value_some : (p : Packing (List ℕ)) (level : ℕ) → 0 < level → 2 * level ≤ length p.table → Some (record { number = signed 32768 (field p.table (2 * level - 1) 2); scale = p.scale }) ≡ value_of p level
value_some p zero some h = absurd (omega arith)
value_some p (suc m) some h =
    let at : 2 * suc m - 1 - 1 ≡ m + m = omega arith in
    ap (option_map (λ r. record { number = r; scale = p.scale })) (ap (λ n. Some (signed 32768 (number (take 2 (drop n p.table))))) at ∙ sym (value_at p.table m (omega arith)))
