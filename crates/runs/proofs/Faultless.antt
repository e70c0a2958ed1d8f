-- A string has no fault exactly if it is loadable.
use Rattle.std.proofs.Common.{◌≡◌, ℕ, suc, ◌+◌, ◌<◌, ◌≤◌, List, [], ◌∷◌, map, length, Some, None, sym, refl, ap, ◌∙◌, ltb, arith, length-append}
use lib.ListN.{length-replicate}
use Rattle.std.specs.List.{AllByRecursion}
use Rattle.std.proofs.lemmas.Bool.{cases_lt, lt-ltb, le-ltb, ltb-false, cond-true, cond-false, false_from_ne_true}
use Rattle.std.proofs.lemmas.Option.{none-some}
use Rattle.runs.specs.Runs.{base, runs, digits_value, measured, cells_of, loaded, Begins, highest}
use Rattle.runs.specs.Canonical.{canonical}
use Rattle.runs.specs.StringFaults.{Flaw, flaw, fault_from, fault, Loads}
use Rattle.runs.specs.Theorems.{FaultlessLoads, CanonicalFaultless, CanonicalLaws}
use Rattle.runs.proofs.Theorems.{canonical_loads, canonical_is_canonical, canonical_is_one, canonical_is_shortest}

module _ (L n place done : ℕ) where
  pub fault_early : done < n → fault_from L n place done [] ≡ Some (flaw 12 place done)
  unfolding fault_from
  fault_early h = cond-true _ _ _ (lt-ltb done n h)

  pub fault_none : n ≤ done → fault_from L n place done [] ≡ None
  unfolding fault_from
  fault_none h = cond-false _ _ _ (le-ltb done n h)

  module _ (r : ℕ × List ℕ) (rs : List (ℕ × List ℕ)) where
    pub fault_past : n < done + suc (digits_value L r.1) → fault_from L n place done (r ∷ rs) ≡ Some (flaw 11 place done)
    unfolding fault_from
    fault_past h = cond-true _ _ _ (lt-ltb n (done + suc (digits_value L r.1)) h)

    pub fault_on : done + suc (digits_value L r.1) ≤ n → fault_from L n place done (r ∷ rs) ≡ fault_from L n (place + suc (length r.1)) (done + suc (digits_value L r.1)) rs
    unfolding fault_from
    fault_on h = cond-false _ _ _ (le-ltb n (done + suc (digits_value L r.1)) h)

-- runs have no fault exactly if they fill the cells that are left
total : ℕ → List (ℕ × List ℕ) → ℕ
total V rs = length (cells_of (map (measured V) rs))

total_cons : (V : ℕ) (r : ℕ × List ℕ) (rs : List (ℕ × List ℕ)) → total V (r ∷ rs) ≡ suc (digits_value (base V) r.1) + total V rs
unfolding total
total_cons V r rs = simp (length-append, length-replicate) refl

fills : (V n place done : ℕ) (rs : List (ℕ × List ℕ)) → done ≤ n → fault_from (base V) n place done rs ≡ None → done + total V rs ≡ n
unfolding total
fills V n place done [] h e = grind (arith, fault_early (base V) n place done, cases_lt done n, none-some, e)
fills V n place done (r ∷ rs) h e =
    let after : ℕ = done + suc (digits_value (base V) r.1) in
    let past = fault_past (base V) n place done r rs in
    let on = fault_on (base V) n place done r rs in
    grind (arith, total_cons V r rs, past, on, cases_lt n after, none-some, e, fills V n (place + suc (length r.1)) after rs)

filled : (V n place done : ℕ) (rs : List (ℕ × List ℕ)) → done + total V rs ≡ n → fault_from (base V) n place done rs ≡ None
unfolding total
filled V n place done [] e = fault_none (base V) n place done (omega arith)
filled V n place done (r ∷ rs) e =
    let t = total_cons V r rs in
    fault_on (base V) n place done r rs (omega arith)
    ∙ filled V n (place + suc (length r.1)) (done + suc (digits_value (base V) r.1)) rs (omega arith)

-- a string that begins with a level has the faults of its runs
pub fault_begun : (V n : ℕ) (s : List ℕ) → Begins V s → fault V n s ≡ fault_from (base V) n 0 0 (runs V s)
fault_begun V n [] b = absurd b
fault_begun V n (o ∷ s) b = cond-false _ _ _ (le-ltb V o b)

-- a string with no fault does not begin with a digit
first_low : (V n o : ℕ) (s : List ℕ) → fault V n (o ∷ s) ≡ None → o ≤ V
first_low V n o s e = ltb-false V o (false_from_ne_true (ltb V o) (λ t. none-some _ (sym e ∙ cond-true _ _ _ t)))

-- a string with no fault has its cells, whatever its octets
pub faultless_length : (V n : ℕ) (s : List ℕ) → fault V n s ≡ None → length (loaded V s) ≡ n
unfolding runs total
faultless_length V n [] e = omega (arith, fills V n 0 0 [] (omega arith) e)
faultless_length V n (o ∷ s) e =
    omega (arith, fills V n 0 0 (runs V (o ∷ s)) (omega arith) (sym (fault_begun V n (o ∷ s) (first_low V n o s e)) ∙ e))

-- a string of some cells with no fault begins with a level
pub faultless_begins : (V n : ℕ) (s : List ℕ) → 0 < n → fault V n s ≡ None → Begins V s
unfolding runs
faultless_begins V n [] some e = absurd (omega (arith, faultless_length V n [] e))
faultless_begins V n (o ∷ s) some e = first_low V n o s e

loads : (V n : ℕ) (s : List ℕ) → 0 < n → AllByRecursion (λ o. o < 256) s → fault V n s ≡ None → Loads V n s
loads V n s some a e = record {
  loadable = record { octets = a; begins = faultless_begins V n s some e; gives = refl };
  count = faultless_length V n s e;
}

none : (V n : ℕ) (s : List ℕ) → Loads V n s → fault V n s ≡ None
unfolding total
none V n s ok =
    let whole : 0 + total V (runs V s) ≡ n = omega (arith, ok.count) in
    fault_begun V n s ok.loadable.begins ∙ filled V n 0 0 (runs V s) whole

pub faultless_loads : FaultlessLoads
unfolding total
faultless_loads V n s some a = record {
  loads = loads V n s some a;
  none = λ ok. none V n s ok;
}

-- a string with a fault is not loadable
pub faulty : (V n : ℕ) (s : List ℕ) (f : Flaw) → fault V n s ≡ Some f → Loads V n s → ⊥
faulty V n s f e ok = none-some f (sym (none V n s ok) ∙ e)

pub canonical_faultless : CanonicalFaultless
unfolding total
canonical_faultless cells ok =
    let V : ℕ = highest cells in
    let s : List ℕ = canonical cells in
    let good = canonical_loads cells ok in
    none V (length cells) s (record {
      loadable = record { octets = good.octets; begins = good.begins; gives = refl };
      count = ap length good.gives;
    })

pub canonical_laws : CanonicalLaws
canonical_laws = record {
  loads = canonical_loads;
  is = canonical_is_canonical;
  only = canonical_is_one;
  shortest = canonical_is_shortest;
  faultless = canonical_faultless;
}
