-- What it takes to hand out a run, and what is known then.
use Rattle.std.proofs.Common.{◌≡◌, ℕ, suc, ◌≤◌, List, [], ◌∷◌, ◌++◌, map, length, drop, replicate, sym, refl, ap, ◌∙◌, arith}
use Rattle.runs.specs.Runs.{base, leading_digits, runs, digits_value, measured, cells_of}
use Rattle.runs.specs.declared.reading.Run.{Run}
use Rattle.runs.specs.declared.reading.Runs.{Runs}
use Rattle.runs.specs.Handed.{handed, rest_of, ahead, coming, HandsOut, IsOver}
use Rattle.runs.proofs.Strings.{runs_level}
use Rattle.runs.proofs.DigitLoop.{runs_skip, leading_few, first_level}

-- the string is over
pub is_over : (w : Runs) → rest_of w ≡ [] → IsOver w w
unfolding runs
is_over w e =
    let none : ahead w ≡ [] = ap (runs w.v) e in
    record { stays = refl; rest = e; none = ap (map (handed w.v)) none; cells = ap (λ rs. cells_of (map (measured w.v) rs)) none }

-- the string begins with a level and the digits of its run
module _ (w : Runs) {o : ℕ} {s : List ℕ} (e : rest_of w ≡ o ∷ s) where
  low : o ≤ w.v
  low = first_level w.v o s (sym (ap (leading_digits w.v) e) ∙ w.begins)

  module _ (u : Runs) (v : u.v ≡ w.v) (rest : rest_of u ≡ drop (length (leading_digits w.v s)) s) where
    runs_here : ahead w ≡ (o, leading_digits w.v s) ∷ ahead u
    runs_here =
        ap (runs w.v) e
        ∙ runs_level w.v o s low
        ∙ ap (λ rs. (o, leading_digits w.v s) ∷ rs) (sym (runs_skip w.v s) ∙ (λ i. runs (sym v i) (sym rest i)))

    pub hands_out : (run : Run) → run ≡ handed w.v (o, leading_digits w.v s) → HandsOut w run u
    hands_out run is =
        let more : ℕ = digits_value (base w.v) (leading_digits w.v s) in
        let octets : run.octets ≡ suc (length (leading_digits w.v s)) = ap (λ (r : Run). r.octets) is in
        record {
          v = v;
          within = omega (arith, ap length e, leading_few w.v s);
          rest = rest ∙ (λ i. drop (sym octets i) (sym e i));
          first = ap (map (handed w.v)) runs_here ∙ (λ i. sym is i ∷ map (handed (sym v i)) (ahead u));
          cells = (
            more,
            ap (λ (r : Run). r.cells) is,
            ap (λ rs. cells_of (map (measured w.v) rs)) runs_here
                ∙ (λ i. replicate (suc more) ((sym is i).level) ++ cells_of (map (measured (sym v i)) (ahead u))),
          );
        }

turn_at : (w u : Runs) (run : Run) (s : List ℕ) → rest_of w ≡ s → HandsOut w run u → (r : ℕ × List ℕ) × (ahead w ≡ r ∷ ahead u) × (run ≡ handed w.v r)
unfolding runs
turn_at w u run [] e h = let clash : ◌≡◌ {A = List Run} [] (run ∷ coming u) = sym (ap (λ s. map (handed w.v) (runs w.v s)) e) ∙ h.first in cc
turn_at w u run (o ∷ s) e h =
    let ds : List ℕ = leading_digits w.v s in
    let whole : handed w.v (o, ds) ∷ map (handed w.v) (runs w.v s) ≡ run ∷ coming u =
    sym (ap (λ s. map (handed w.v) (runs w.v s)) e ∙ ap (map (handed w.v)) (runs_level w.v o s (low w e))) ∙ h.first in
    let is : run ≡ handed w.v (o, ds) = cc in
    let octets : run.octets ≡ suc (length ds) = ap (λ (r : Run). r.octets) is in
    ((o, ds), runs_here w e u h.v (h.rest ∙ (λ i. drop (octets i) (e i))), is)

-- a run was handed out: which one it is
pub turn : {w u : Runs} {run : Run} → HandsOut w run u → (r : ℕ × List ℕ) × (ahead w ≡ r ∷ ahead u) × (run ≡ handed w.v r)
turn {w} {u} {run} h = turn_at w u run (rest_of w) refl h

-- none was: there is none
pub over : {w u : Runs} → IsOver w u → ahead w ≡ []
unfolding runs
over {w} h = ap (runs w.v) h.rest
