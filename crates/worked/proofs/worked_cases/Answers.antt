use Rattle.std.proofs.Common.{refl, lit<, lit≤}
use Rattle.runs.specs.Runs.{leading_digits, runs}
use Rattle.runs.specs.Canonical.{prepend, digits_by}
use Rattle.runs.specs.StringFaults.{fault_from}
use Rattle.worked.proofs.Alike.{alike, row_of}
use Rattle.worked.proofs.worked_cases.Goals as goal

pub returns : goal.returns
unfolding leading_digits runs prepend digits_by fault_from
returns c = record {
  count = refl;
  cases = record {
    five = record { reaches = refl; string = refl };
    many = alike 8_601_599 0 _ refl;
    rain = alike 157 98 _ refl;
    split = record { octets = (lit< tt, (lit< tt, (lit< tt, tt))); begins = lit≤ tt; gives = refl };
    three = alike 2 252 _ refl;
    four = alike 3 252 _ refl;
    digit = refl;
    past = refl;
    early = refl;
    minus = refl;
    zero = refl;
    second = λ f p q r. row_of f 2 _ _ _ p q r;
    last = λ f p q r. row_of f 3359 _ _ _ p q r;
  };
}
