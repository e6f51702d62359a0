-- What is left of a quotient (X3.9-1978, 15.10).
use Rattle.std.proofs.Common.{◌≡◌, ◌≢◌, zero, suc, ◌<◌, ◌≤◌, ◌^◌, ℤ, pos, negsuc, ◌-ℤ◌, ◌*ℤ◌, true, Ok, refl, ap, ◌∙◌, arith}
use Rattle.std.specs.Int.RustNames.{int_div, int_rem, unsigned_abs}
use Rattle.std.proofs.lemmas.Bool.Decides.{nat_tests}
use Rattle.std.proofs.lemmas.Int.{ints, quot-rem, rem_below}
use mir.Val.{SFits}
use mir.Syntax.{w64}
use Rattle.hep_machine.specs.Words.{is_integer, integer_or_overflow, remainder_of}

size-of-fits : (r : ℤ) → SFits w64 r → unsigned_abs r ≤ 2 ^ 63
size-of-fits (pos n) f = let h = f.sfits in omega arith
size-of-fits (negsuc n) f = let h = f.sfits in omega arith

is-integer : (z : ℤ) → unsigned_abs z < 2 ^ 63 → is_integer z ≡ true
is-integer (pos n) h = grind (arith, nat_tests)
is-integer (negsuc n) h = grind (arith, nat_tests)

-- an integer that fits is no overflow
pub as-integer : (z : ℤ) → is_integer z ≡ true → integer_or_overflow z ≡ Ok z
as-integer z h = rw h refl

rest : (x r : ℤ) → SFits w64 r → 0 < unsigned_abs r → integer_or_overflow (x -ℤ int_div x r *ℤ r) ≡ Ok (int_rem x r)
rest x r f p =
    let e : x -ℤ int_div x r *ℤ r ≡ int_rem x r = omega (arith, ints, quot-rem x r) in
    let b = rem_below x r p in
    let k = size-of-fits r f in
    ap integer_or_overflow e ∙ as-integer (int_rem x r) (is-integer (int_rem x r) (omega arith))

pub remainder-is : (x r : ℤ) → SFits w64 r → r ≢ pos 0 → remainder_of x r ≡ Ok (int_rem x r)
remainder-is x (pos zero) f h = absurd (h refl)
remainder-is x (pos (suc n)) f h = rest x (pos (suc n)) f (omega arith)
remainder-is x (negsuc n) f h = rest x (negsuc n) f (omega arith)
