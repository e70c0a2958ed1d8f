-- The Gregorian calendar.
use Rattle.std.specs.Prelude.{ℕ, ◌%◌, Bool, if◌then◌else◌, not, ◌&&◌, ◌||◌, ◌==◌}

-- a leap year: every fourth, but of the hundredth years only every fourth of those
abbrev pub leap : ℕ → Bool
leap year = year % 4 == 0 && (not (year % 100 == 0) || year % 400 == 0)

-- how many days a month from 1 to 12 has
abbrev pub days_in : ℕ → ℕ → ℕ
days_in year month =
    if month == 2 then (if leap year then 29 else 28)
    else if month == 4 || (month == 6 || (month == 9 || month == 11)) then 30 else 31
