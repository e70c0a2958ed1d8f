-- Numbers in octets: big-endian, and signed ones by sign and magnitude.
use Rattle.std.specs.Prelude.{ℕ, suc, ◌+◌, ◌-◌, min, if◌then◌else◌, List, take, drop, ℤ, pos, negsuc, neg_ℤ, Some, None, Option, nat_lt, unsigned_abs}
use Rattle.std.specs.Int.Digits as digits

-- the number that octets write, the most significant first
abbrev pub number : List ℕ → ℕ
number octets = digits.number_from_digits 256 octets

-- the number in `width` octets from `octet` on, counted from 1; at most eight octets are read
abbrev pub field : List ℕ → ℕ → ℕ → ℕ
field s octet width = number (take (min width 8) (drop (octet - 1) s))

-- the signed number that raw stands for: the top bit, which alone is worth `top`, means minus, and the other bits are the magnitude
abbrev pub signed : ℕ → ℕ → ℤ
signed top raw = if nat_lt raw top then pos raw else neg_ℤ (pos (raw - top))

-- how a signed number is written: zero without the top bit
abbrev pub sign_written : ℕ → ℤ → ℕ
sign_written top (pos n) = n
sign_written top (negsuc n) = top + suc n

-- what is written of a signed number, if its magnitude leaves the top bit free
abbrev pub signed_raw : ℕ → ℤ → Option ℕ
signed_raw top z = if nat_lt (unsigned_abs z) top then Some (sign_written top z) else None
