-- Products of two numbers of 64 bits.
use Rattle.std.proofs.Common.{ℕ, ◌+◌, ◌*◌, ◌^◌, ◌<◌, ◌≤◌, arith}
use Rattle.std.proofs.Math.Nat.{mul-le-mul}

-- they leave room for one number more in 128 bits
pub product_bound : (a b : ℕ) → a < 2 ^ 64 → b < 2 ^ 64 → a * b + 2 ^ 64 < 2 ^ 128
product_bound a b below_a below_b =
    let most_a : a ≤ 18446744073709551615 = omega arith in
    let most_b : b ≤ 18446744073709551615 = omega arith in
    omega (arith, mul-le-mul most_a most_b)
