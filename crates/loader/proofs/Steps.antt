-- The steps of a reader through the cells of a string.
use Rattle.std.proofs.Common.{◌≡◌, ℕ, suc, ◌+◌, ◌-◌, ◌<◌, min, List, ◌++◌, length, get_or, replicate, ap, ◌∙◌, subst, sym, arith, length-append}
use lib.ListN.{length-replicate}
use Rattle.std.proofs.lemmas.List.{get_or_append_left, get_or-append_right, get_or-replicate}
use Rattle.loader.specs.Reading.{Left, Rest, Hand}

pub record Stands (cells ahead : List ℕ) (n first end level : ℕ) : Type 0 where
  pub left : Left ahead n end
  pub rest : Rest cells ahead end
  pub hand : Hand cells first end level

-- before the first run
pub stands_none : (cells ahead : List ℕ) (n : ℕ) → ahead ≡ cells → length cells ≡ n → Stands cells ahead n 0 0 0
stands_none cells ahead n all full = record {
  left = omega (arith, ap length all);
  rest = λ k. ap (λ x. get_or cells x 0) {y = k} (omega arith) ∙ ap (λ xs. get_or xs k 0) (sym all);
  hand = λ k low high. absurd (omega arith);
}

-- a run's cells, one more than are counted
abbrev own : ℕ → ℕ → List ℕ
own more level = replicate (suc more) level

-- one more run, of more than `more` cells
module _ {cells ahead : List ℕ} {n first end level : ℕ} (after : List ℕ) (k : Stands cells ahead n first end level) (more now : ℕ) (is : ahead ≡ own more now ++ after) where
  sizes : length ahead ≡ suc more + length after
  sizes = ap length is ∙ length-append (own more now) after ∙ ap (λ x. x + length after) (length-replicate (suc more) now)

  -- the cell j after `end`, as one of the cells ahead
  on : (j : ℕ) → get_or cells (end + j) 0 ≡ get_or (own more now ++ after) j 0
  on j = k.rest j ∙ ap (λ l. get_or l j 0) is

  passed : Stands cells after n end (end + suc more) now
  passed = record {
    left = omega (arith, k.left, sizes);
    rest = λ j.
        ap (λ x. get_or cells x 0) {y = end + (suc more + j)} (omega arith)
        ∙ on (suc more + j)
        ∙ get_or-append_right (own more now) after (suc more) (suc more + j) 0 (length-replicate (suc more) now) (omega arith)
        ∙ ap (λ x. get_or after x 0) {y = j} (omega arith);
    hand = λ j low high.
        let inside : j - end < length (own more now) = rw (length-replicate (suc more) now) (omega arith) in
        ap (λ x. get_or cells x 0) {y = end + (j - end)} (omega arith)
        ∙ on (j - end)
        ∙ get_or_append_left (own more now) after 0 (j - end) inside
        ∙ get_or-replicate (suc more) (j - end) now 0 (omega arith);
  }

  -- the cells that are told are all of the run's, where there are fewer than the most that are told
  pub stands_more : (told : ℕ) → n < 4_294_967_296 → told ≡ min (suc more) 4_294_967_296 → Stands cells after n end (end + told) now
  stands_more told few capped = let whole : end + suc more ≡ end + told = omega (arith, k.left, sizes) in subst (λ e. Stands cells after n end e now) whole passed
