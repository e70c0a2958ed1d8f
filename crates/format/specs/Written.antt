-- What a buffer holds after octets were written into it.
use Rattle.std.specs.Prelude.{ℕ, ◌+◌, List, ◌++◌, length, take, drop}

-- the octets from a place on are replaced, and the others stay
unfoldable pub written : List ℕ → ℕ → List ℕ → List ℕ
written buffer place octets = take place buffer ++ (octets ++ drop (place + length octets) buffer)
