-- Where the cells of a frame lie.
use Rattle.std.specs.Prelude.{ℕ, ◌+◌, ◌-◌, ◌*◌, ◌/◌, ◌%◌, ◌<◌, ◌≤◌, Bool, if◌then◌else◌, ◌&&◌, ℤ, pos, ◌-ℤ◌, Some, None, Option, ◌==◌, int_le, nat_le, nat_lt, unsigned_abs}
use Rattle.sections.specs.declared.frame.Frame.{Frame}
use Rattle.sections.specs.declared.frame.Position.{Position}

-- a quotient to the nearest whole number, halves up: one more where the remainder is half the divisor or more
abbrev pub nearest : ℕ → ℕ → ℕ
nearest a n = a / n + (if nat_le n (2 * (a % n)) then 1 else 0)

-- it is at most half above a / n, and less than half below it
abbrev pub NearestHalvesUp : Type 0
NearestHalvesUp = (a n : ℕ) → 0 < n → (2 * (n * nearest a n) ≤ 2 * a + n) × (2 * a + n < 2 * (n * nearest a n) + 2 * n)

-- how far the k-th of `count` points lies from the first, where the last lies `span` from it
abbrev pub along : ℕ → ℕ → ℕ → ℕ
along span count k = if count == 1 then 0 else nearest (span * k) (count - 1)

-- rows go south from the first, and columns east
abbrev pub latitude_of : Frame → ℕ → ℤ
latitude_of f row = f.la1 -ℤ pos (along (unsigned_abs (f.la1 -ℤ f.la2)) f.nj row)

abbrev pub longitude_of : Frame → ℕ → ℕ
longitude_of f column = f.lo1 + along (f.lo2 - f.lo1) f.ni column

-- there is a cell of that column and row, and the last cell does not lie north or west of the first
abbrev pub covers : Frame → ℕ → ℕ → Bool
covers f column row = nat_lt column f.ni && (nat_lt row f.nj && (int_le f.la2 f.la1 && nat_le f.lo1 f.lo2))

-- a cell outside has no position; nor has any where the last cell lies north or west of the first
abbrev pub position_of : Frame → ℕ → ℕ → Option Position
position_of f column row =
    if covers f column row then Some (record { latitude = latitude_of f row; longitude = longitude_of f column }) else None
