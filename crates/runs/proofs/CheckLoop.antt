-- What the loop over a string's runs keeps.
use Rattle.std.proofs.Common.{◌≡◌, ℕ, suc, ◌+◌, ◌-◌, ◌<◌, ◌≤◌, min, List, [], length, drop, false, Some, None, sym, ap, ◌∙◌, arith, length-drop}
use Rattle.std.proofs.lemmas.Bool.{cond-false}
use Rattle.runs.specs.Runs.{base, leading_digits, runs, digits_value}
use Rattle.runs.specs.StringFaults.{flaw, digit_first, fault_from, fault}
use Rattle.runs.specs.declared.reading.Run.{Run}
use Rattle.runs.specs.declared.reading.Runs.{Runs}
use Rattle.runs.specs.Handed.{rest_of, ahead, HandsOut, IsOver}
use Rattle.runs.proofs.DigitLoop.{runs_skip}
use Rattle.runs.proofs.Handing.{turn, over}
use Rattle.runs.proofs.Faultless.{fault_early, fault_none, fault_past, fault_on}

pub record Checked (V n : ℕ) (s : List ℕ) (w : Runs) (place done : ℕ) : Type 0 where
  pub v : w.v ≡ V
  pub within : place + length (rest_of w) ≤ length s
  pub low : done ≤ n
  pub still : fault_from (base V) n place done (ahead w) ≡ fault V n s

-- before the first run of a string that does not begin with a digit
pub checked_none : (V n : ℕ) (s : List ℕ) (w : Runs) → digit_first V s ≡ false → w.v ≡ V → rest_of w ≡ drop (length (leading_digits V s)) s → Checked V n s w 0 0
checked_none V n s w begins v rest = record {
  v = v;
  within = omega (arith, ap length rest, length-drop (length (leading_digits V s)) s);
  low = omega arith;
  still =
      (λ i. fault_from (base V) n 0 0 (runs (v i) (rest i)))
      ∙ ap (fault_from (base V) n 0 0) (runs_skip V s)
      ∙ sym (cond-false _ _ _ begins);
}

module _ {V n : ℕ} {s : List ℕ} {w : Runs} {place done : ℕ} (k : Checked V n s w place done) where
  module _ {u : Runs} {run : Run} (h : HandsOut w run u) (small : n < 4_294_967_296) where
    -- a run that passes the last cell
    pub checked_past : n - done < run.cells → fault V n s ≡ Some (flaw 11 place done)
    checked_past past =
        let t = turn h in
        let cells = ap (λ (r : Run). r.cells) t.2 ∙ ap (λ v. min (suc (digits_value (base v) t.0.1)) 4_294_967_296) k.v in
        let low = k.low in
        sym k.still ∙ ap (fault_from (base V) n place done) t.1 ∙ fault_past (base V) n place done t.0 (ahead u) (omega arith)

    -- one more run
    pub checked_more : run.cells ≤ n - done → Checked V n s u (place + run.octets) (done + run.cells)
    checked_more fits =
        let t = turn h in
        let cells = ap (λ (r : Run). r.cells) t.2 ∙ ap (λ v. min (suc (digits_value (base v) t.0.1)) 4_294_967_296) k.v in
        let octets = ap (λ (r : Run). r.octets) t.2 in
        let low = k.low in
        let all : run.cells ≡ suc (digits_value (base V) t.0.1) = omega arith in
        record {
          v = h.v ∙ k.v;
          within = omega (arith, k.within, h.within, ap length h.rest, length-drop run.octets (rest_of w));
          low = omega arith;
          still =
              (λ i. fault_from (base V) n (place + octets i) (done + all i) (ahead u))
              ∙ sym (fault_on (base V) n place done t.0 (ahead u) (omega arith))
              ∙ ap (fault_from (base V) n place done) (sym t.1)
              ∙ k.still;
        }

  module _ {u : Runs} (h : IsOver w u) where
    still : fault_from (base V) n place done [] ≡ fault V n s
    still = ap (fault_from (base V) n place done) (sym (over h)) ∙ k.still

    pub checked_early : done < n → fault V n s ≡ Some (flaw 12 place done)
    checked_early early = sym still ∙ fault_early (base V) n place done early

    pub checked_all : n ≤ done → fault V n s ≡ None
    checked_all all = sym still ∙ fault_none (base V) n place done all
