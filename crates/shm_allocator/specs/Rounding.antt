-- Rounding up gives a multiple, the least that is no less than the number.
use Rattle.std.specs.Prelude.{◌≡◌, ℕ, ◌+◌, ◌-◌, ◌*◌, ◌/◌, ◌%◌, ◌<◌, ◌≤◌}
use Rattle.std.proofs.Math.Nat.{mul-mod_left, lt-div-mul-add}
use Rattle.std.proofs.Common.{div-mul-le_self, div-lt_iff_lt-mul, mul-le-mul_right, add-mul, div-add-mod', arith}
use Rattle.shm_allocator.specs.Numbers.{rounded_up}

pub round_multiple : (x a : ℕ) → rounded_up x a % a ≡ 0
unfolding rounded_up
round_multiple x a = mul-mod_left ((x + (a - 1)) / a) a

pub round_low : (x a : ℕ) → 0 < a → x ≤ rounded_up x a
unfolding rounded_up
round_low x a h = omega (arith, lt-div-mul-add {a = x + (a - 1)} {b = a} h)

pub round_high : (x a : ℕ) → 0 < a → rounded_up x a < x + a
unfolding rounded_up
round_high x a h = omega (arith, div-mul-le_self (x + (a - 1)) a)

-- a multiple that is x or more is no less than x rounded up
pub round_within : (x a k : ℕ) → 0 < a → x ≤ k * a → rounded_up x a ≤ k * a
unfolding rounded_up
round_within x a k h le =
    let e : (k + 1) * a ≡ k * a + 1 * a = add-mul k 1 a in
    let lt : x + (a - 1) < (k + 1) * a = omega arith in
    let q : (x + (a - 1)) / a < k + 1 = (div-lt_iff_lt-mul h).1 lt in
    let q' : (x + (a - 1)) / a ≤ k = omega arith in
    mul-le-mul_right a q'

pub round_zero : (a : ℕ) → 0 < a → rounded_up 0 a ≡ 0
round_zero a h = let z : rounded_up 0 a ≤ 0 * a = round_within 0 a 0 h (omega arith) in omega arith

pub round_exact : (x a : ℕ) → 0 < a → x % a ≡ 0 → rounded_up x a ≡ x
round_exact x a h e =
    let d : x / a * a + x % a ≡ x = div-add-mod' x a in
    let top : rounded_up x a ≤ x / a * a = round_within x a (x / a) h (omega arith) in
    let low : x ≤ rounded_up x a = round_low x a h in
    omega arith

-- the only multiple that is x or more, and less than one step above it
pub round_only : (x a r : ℕ) → 0 < a → x ≤ r → r < x + a → r % a ≡ 0 → r ≡ rounded_up x a
unfolding rounded_up
round_only x a r h low high e =
    let q : ℕ = (x + (a - 1)) / a in
    let d : r / a * a + r % a ≡ r = div-add-mod' r a in
    let l : x ≤ rounded_up x a = round_low x a h in
    let s : (q + 1) * a ≡ q * a + 1 * a = add-mul q 1 a in
    let k : r / a < q + 1 = (div-lt_iff_lt-mul h).1 (omega arith) in
    let most : r / a * a ≤ q * a = mul-le-mul_right a (omega arith) in
    let least : rounded_up x a ≤ r / a * a = round_within x a (r / a) h (omega arith) in
    omega arith
