-- Digits of a base.
use Rattle.std.proofs.Common.{◌≡◌, ℕ, zero, suc, ◌+◌, ◌*◌, ◌/◌, ◌%◌, ◌^◌, ◌<◌, ◌≤◌, List, [], ◌∷◌, length, refl, ap, ◌∙◌, mod-lt, mul_comm, div-lt_iff_lt-mul, mul-le-mul_left, pow-suc, mul-zero, mul-one, mul-suc, arith}
use native.Mathlib.Nat.{div-lt_self, mod-add-div, pow-zero, pow-succ', pow-le-pow_right}
use Rattle.std.specs.List.{AllByRecursion}
use Rattle.std.proofs.lemmas.Nat.{same_from_place}
use Rattle.runs.specs.Runs.{digits_value}
use Rattle.runs.specs.Canonical.{digits_by, digits, Tight}

pub value_digits_by : (L f n : ℕ) → 2 ≤ L → n ≤ f → digits_value L (digits_by L f n) ≡ n
unfolding digits_by
value_digits_by L zero n two h = omega arith
value_digits_by L (suc f) zero two h = refl
value_digits_by L (suc f) (suc n) two h =
    ap (λ x. suc n % L + L * x) (value_digits_by L f (suc n / L) two (omega (arith, div-lt_self {n = suc n} {k = L} (omega arith) (omega arith))))
    ∙ mod-add-div (suc n) L

pub under_digits_by : (L f n : ℕ) → 0 < L → AllByRecursion (λ d. d < L) (digits_by L f n)
unfolding digits_by
under_digits_by L zero n h = tt
under_digits_by L (suc f) zero h = tt
under_digits_by L (suc f) (suc n) h = (mod-lt (suc n) h, under_digits_by L f (suc n / L) h)

pub value_lt : (L : ℕ) (ds : List ℕ) → AllByRecursion (λ d. d < L) ds → digits_value L ds < L ^ length ds
value_lt L [] h = rw pow-zero (omega arith)
value_lt L (d ∷ ds) h =
    omega (arith, h.0, pow-succ' L (length ds), mul-suc L (digits_value L ds), mul-le-mul_left L (value_lt L ds h.1))

-- a digits_value below L ^ k has at most k digits
pub length-digits_by : (L k f n : ℕ) → 2 ≤ L → n < L ^ k → length (digits_by L f n) ≤ k
unfolding digits_by
length-digits_by L k zero n two h = omega arith
length-digits_by L k (suc f) zero two h = omega arith
length-digits_by L zero (suc f) (suc n) two h = absurd (omega (arith, pow-zero L))
length-digits_by L (suc k) (suc f) (suc n) two h =
    let below : suc n / L < L ^ k = (div-lt_iff_lt-mul {k = L} {x = suc n} {y = L ^ k} (omega arith)).1 (rw pow-suc at h) in
    omega (arith, length-digits_by L k f (suc n / L) two below)

tight_cons : (L d n : ℕ) (ds : List ℕ) → Tight ds → digits_value L (d ∷ ds) ≡ suc n → Tight (d ∷ ds)
tight_cons L d n [] t e = λ z. omega (arith, mul-zero L)
tight_cons L d n (x ∷ ds) t e = t

pub tight_digits_by : (L f n : ℕ) → 2 ≤ L → n ≤ f → Tight (digits_by L f n)
unfolding digits_by
tight_digits_by L zero n two h = tt
tight_digits_by L (suc f) zero two h = tt
tight_digits_by L (suc f) (suc n) two h =
    let less : suc n / L < suc n = div-lt_self (omega arith) (omega arith) in
    tight_cons L (suc n % L) n (digits_by L f (suc n / L)) (tight_digits_by L f (suc n / L) two (omega arith)) (value_digits_by L (suc f) (suc n) two h)

tight_tail : (d : ℕ) (ds : List ℕ) → Tight (d ∷ ds) → Tight ds
tight_tail d [] t = tt
tight_tail d (e ∷ ds) t = t

tight_some : (L d : ℕ) (ds : List ℕ) → 0 < L → Tight (d ∷ ds) → 0 < digits_value L (d ∷ ds)
tight_some L zero [] h t = absurd (t refl)
tight_some L (suc d) [] h t = omega arith
tight_some L d (e ∷ ds) h t = omega (arith, mul-le-mul_left L (tight_some L e ds h t), mul-one L)

pub tight_same : (L : ℕ) (ds es : List ℕ) → 0 < L → AllByRecursion (λ d. d < L) ds → AllByRecursion (λ d. d < L) es → Tight ds → Tight es → digits_value L ds ≡ digits_value L es → ds ≡ es
tight_same L [] [] pos a b t u e = refl
tight_same L [] (y ∷ es) pos a b t u e = absurd (omega (arith, tight_some L y es pos u))
tight_same L (x ∷ ds) [] pos a b t u e = absurd (omega (arith, tight_some L x ds pos t))
tight_same L (x ∷ ds) (y ∷ es) pos a b t u e =
    let both = same_from_place (digits_value L ds) x (digits_value L es) y L a.0 b.0 (omega (arith, mul_comm L (digits_value L ds), mul_comm L (digits_value L es))) in
    let ih = tight_same L ds es pos a.1 b.1 (tight_tail x ds t) (tight_tail y es u) both.0 in
    λ i. both.1 i ∷ ih i

-- the digits of what tight digits mean are those digits
pub digits_value_lem : (L : ℕ) (ds : List ℕ) → 2 ≤ L → AllByRecursion (λ d. d < L) ds → Tight ds → digits L (digits_value L ds) ≡ ds
digits_value_lem L ds two u t =
    let n : ℕ = digits_value L ds in
    let le : n ≤ n = omega arith in
    tight_same L (digits L n) ds (omega arith) (under_digits_by L n n (omega arith)) u (tight_digits_by L n n two le) t (value_digits_by L n n two le)

pub digits_zero : (L : ℕ) → digits L 0 ≡ []
unfolding digits_by
digits_zero L = refl

-- one more digit than the logarithm
pub length-digits : (L k n : ℕ) → 2 ≤ L → L ^ k ≤ n → n < L * L ^ k → length (digits L n) ≡ suc k
length-digits L k n two low high =
    let ds = digits L n in
    let few : length ds ≤ suc k = length-digits_by L (suc k) n n two (omega (arith, high, pow-succ' L k)) in
    let below = value_lt L ds (under_digits_by L n n (omega arith)) in
    let value = value_digits_by L n n two (omega arith) in
    let many : length ds ≤ k → ⊥ = λ h. omega (arith, pow-le-pow_right {n = L} (omega arith) {i = length ds} {j = k} h, below, value, low) in
    omega (arith, few, many)

-- a digits_value has no more digits than it counts
pub digits_few : (L f n : ℕ) → length (digits_by L f n) ≤ f
unfolding digits_by
digits_few L zero n = omega arith
digits_few L (suc f) zero = omega arith
digits_few L (suc f) (suc n) = omega (arith, digits_few L f (suc n / L))
