use Rattle.std.proofs.Common.{ℕ, ◌^◌, ◌<◌, ◌≤◌, arith}
use native.Mathlib.Nat.{pow-le-pow_right}
use Rattle.format.proofs.numbers.number.Goals as goal

-- what has been read of fewer than eight octets leaves room for one more
room : (n i : ℕ) → n < 256 ^ i → i < 8 → n < 256 ^ 7
room n i h k = let p : i ≤ 7 = omega arith in let q : 256 ^ i ≤ 256 ^ 7 = pow-le-pow_right (omega arith) p in omega arith

pub overflow_mul-n : goal.overflow_mul-n
overflow_mul-n c = let r : c.loop-b.n < 256 ^ 7 = room _ _ c.loop-b.invariant.1 (omega arith) in omega arith
