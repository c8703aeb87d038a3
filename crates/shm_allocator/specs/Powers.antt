-- Powers of two: their exponents, that the smaller divides the larger, and the least one from a number on.
use Rattle.std.specs.Prelude.{◌≡◌, ℕ, zero, suc, ◌+◌, ◌-◌, ◌*◌, ◌/◌, ◌%◌, ◌^◌, ◌<◌, ◌≤◌, max, Bool, true, false, cond, ◌⊎◌, nat_le, refl}
use Rattle.std.proofs.Common.{sym, ap, subst, ◌∙◌, inl, inr, ⊎_elim, div-add-mod', arith, pow_pos, pow_mono, pow-add, leb-true, leb-false}
use Rattle.std.proofs.Math.Logic.{∥∥₁_elim}
use mathlib.Core.HLevel.{Σ_prop_path}
use Rattle.std.specs.Int.{◌∣◌}
use Rattle.std.proofs.Math.Nat.{ℕ_set, pow-succ', dvd-mul_left, mod-eq-zero_of_dvd}
use Rattle.std.proofs.Math.Decide.{dec_lt}
use Rattle.std.proofs.Math.Pow.{pow-lt}
use Rattle.std.specs.Int.Count.{ones, ones_step}
use Rattle.std.proofs.lemmas.Nat.{ones_cat}
use Rattle.std.proofs.Math.Arith.{bin_ind}
use Rattle.shm_allocator.specs.Numbers.{IsPowerOfTwo, rounded_up, next_power}
use Rattle.shm_allocator.specs.Rounding.{round_within}

-- of two numbers, one is below the other or they are equal
pub ordered : (j k : ℕ) → (j < k) ⊎ ((j ≡ k) ⊎ (k < j))
ordered j k = go (dec_lt j k) (dec_lt k j)
  where
    go : Dec (j < k) → Dec (k < j) → (j < k) ⊎ ((j ≡ k) ⊎ (k < j))
    go (yes h) d = inl h
    go (no h) (yes l) = inr (inr l)
    go (no h) (no l) = inr (inl (omega arith))

pub twice : (j k : ℕ) → j < k → 2 * 2 ^ j ≤ 2 ^ k
twice j k h = let e : 2 ^ suc j ≡ 2 * 2 ^ j = pow-succ' 2 j in let m : 2 ^ suc j ≤ 2 ^ k = pow_mono h in omega arith

pub pow_inj : (j k : ℕ) → 2 ^ j ≡ 2 ^ k → j ≡ k
pow_inj j k e = ⊎_elim (λ h. absurd (let l = pow-lt h in omega arith)) (⊎_elim (λ q. q) (λ h. absurd (let l = pow-lt h in omega arith))) (ordered j k)

-- the exponent of a power of two
pub exponent : (n : ℕ) → IsPowerOfTwo n → (k : ℕ) × (n ≡ 2 ^ k)
exponent n p = ∥∥₁_elim p (λ u v. Σ_prop_path (λ k. ℕ_set n (2 ^ k)) (pow_inj u.0 v.0 (sym u.1 ∙ v.1))) (λ w. w)

pub power_pos : (n : ℕ) → IsPowerOfTwo n → 0 < n
power_pos n p = let e = exponent n p in let l = pow_pos e.0 in omega arith

-- the smaller of two powers of two divides the larger
pub power_divides : (a b : ℕ) → IsPowerOfTwo a → IsPowerOfTwo b → a ≤ b → a ∣ b
power_divides a b p q le =
    let j = exponent a p in
    let k = exponent b q in
    ⊎_elim
    (λ h. absurd (let l = pow-lt h in omega arith))
    (λ h. subst (λ (x : ℕ). a ∣ x)
    (sym (k.1 ∙ ap (λ (x : ℕ). 2 ^ x) h.1 ∙ pow-add 2 h.0 j.0 ∙ ap (λ (x : ℕ). 2 ^ h.0 * x) (sym j.1)))
    (dvd-mul_left a (2 ^ h.0)))
    (below k.0 j.0)
  where
    below : (m n : ℕ) → (m < n) ⊎ ((d : ℕ) × (m ≡ d + n))
    below m n = go (dec_lt m n)
      where
        go : Dec (m < n) → (m < n) ⊎ ((d : ℕ) × (m ≡ d + n))
        go (yes h) = inl h
        go (no h) = inr (m - n, omega arith)

-- what a number rounded up to a power of two is
pub next_power_is : (n : ℕ) → ((k : ℕ) × (next_power n ≡ 2 ^ k)) × (n ≤ next_power n) × (next_power n / 2 < max 1 n)
unfolding next_power
next_power_is zero = ((0, refl), omega arith, omega arith)
next_power_is (suc n) = let h = next_power_is n in go (next_power n) h (nat_le (suc n) (next_power n)) refl
  where
    go : (q : ℕ) → ((k : ℕ) × (q ≡ 2 ^ k)) × (n ≤ q) × (q / 2 < max 1 n) → (b : Bool) → nat_le (suc n) q ≡ b
        → ((k : ℕ) × (cond b q (2 * q) ≡ 2 ^ k)) × (suc n ≤ cond b q (2 * q)) × (cond b q (2 * q) / 2 < max 1 (suc n))
    go q h true e = let l = leb-true (suc n) q e in (h.0, l, omega arith)
    go q h false e =
        let l = leb-false (suc n) q e in
        let z = pow_pos h.0.0 in
        let p : 0 < q = omega (arith, h.0.1) in
        ((suc h.0.0, ap (λ (x : ℕ). 2 * x) h.0.1 ∙ sym (pow-succ' 2 h.0.0)), omega arith, omega arith)

-- and nothing else is
pub next_power_only : (n p : ℕ) → ((k : ℕ) × (p ≡ 2 ^ k)) → n ≤ p → p / 2 < max 1 n → p ≡ next_power n
next_power_only n p e low high =
    let h = next_power_is n in
    let z = pow_pos e.0 in
    let y = pow_pos h.0.0 in
    ⊎_elim
    (λ l. absurd (let t = twice e.0 h.0.0 l in omega (arith, e.1, h.0.1)))
    (⊎_elim
    (λ q. e.1 ∙ ap (λ (x : ℕ). 2 ^ x) q ∙ sym h.0.1)
    (λ l. absurd (let t = twice h.0.0 e.0 l in omega (arith, e.1, h.0.1))))
    (ordered e.0 h.0.0)

-- no power of two lies between a number and its rounding
pub next_power_within : (n p : ℕ) → IsPowerOfTwo p → n ≤ p → next_power n ≤ p
next_power_within n p q le =
    let h = next_power_is n in
    let e = exponent p q in
    let z = pow_pos e.0 in
    ⊎_elim
    (λ l. absurd (let t = twice e.0 h.0.0 l in omega (arith, e.1, h.0.1)))
    (⊎_elim
    (λ r. omega (arith, e.1, h.0.1, ap (λ (x : ℕ). 2 ^ x) r))
    (λ l. let t = twice h.0.0 e.0 l in omega (arith, e.1, h.0.1)))
    (ordered e.0 h.0.0)

pub next_power_power : (n : ℕ) → IsPowerOfTwo (next_power n)
next_power_power n = ∣ (next_power_is n).0 ∣₁

-- a number with one digit set is a power of two, and a power of two has one digit set
ones_none : (n : ℕ) → ones n ≡ 0 → n ≡ 0
ones_none = bin_ind (λ n. ones n ≡ 0 → n ≡ 0) (λ _. refl) (λ n h e. let s = ones_step n in let z : ones (n / 2) ≡ 0 = omega arith in let y = h z in omega arith)

zero_ones : ones 0 ≡ 0
unfolding ones
zero_ones = refl

pub ones_power : (n : ℕ) → ones n ≡ 1 → (k : ℕ) × (n ≡ 2 ^ k)
ones_power = bin_ind (λ n. ones n ≡ 1 → (k : ℕ) × (n ≡ 2 ^ k)) first next
  where
    first : ones 0 ≡ 1 → (k : ℕ) × (0 ≡ 2 ^ k)
    first e = absurd (omega (arith, zero_ones, e))

    next : (n : ℕ) → (ones (n / 2) ≡ 1 → (k : ℕ) × (n / 2 ≡ 2 ^ k)) → ones n ≡ 1 → (k : ℕ) × (n ≡ 2 ^ k)
    next n h e = go (dec_lt (n % 2) 1)
      where
        go : Dec (n % 2 < 1) → (k : ℕ) × (n ≡ 2 ^ k)
        go (yes l) =
            let s = ones_step n in
            let w = h (omega arith) in
            (suc w.0, (let d : n ≡ 2 * (n / 2) = omega arith in d ∙ ap (λ (x : ℕ). 2 * x) w.1 ∙ sym (pow-succ' 2 w.0)))
        go (no l) =
            let s = ones_step n in
            let z = ones_none (n / 2) (omega arith) in
            (0, omega arith)

pub power_ones : (n : ℕ) → IsPowerOfTwo n → ones n ≡ 1
unfolding ones
power_ones n p =
    let e = exponent n p in
    let s : 1 * 2 ^ e.0 + 0 ≡ n = omega (arith, e.1) in
    subst (λ (x : ℕ). ones x ≡ 1) s (ones_cat e.0 1 0 (pow_pos e.0))

pub power_max : (a b : ℕ) → IsPowerOfTwo a → IsPowerOfTwo b → IsPowerOfTwo (max a b)
power_max a b p q = go (dec_lt a b)
  where
    go : Dec (a < b) → IsPowerOfTwo (max a b)
    go (yes h) = let e : b ≡ max a b = omega arith in subst IsPowerOfTwo e q
    go (no h) = let e : a ≡ max a b = omega arith in subst IsPowerOfTwo e p

-- a size within the limit stays within it where it is rounded up
pub round_limit : (x a : ℕ) → IsPowerOfTwo a → a ≤ 65536 → x ≤ 16777216 → rounded_up x a ≤ 16777216
round_limit x a p low h =
    let d = mod-eq-zero_of_dvd a (power_divides a 16777216 p (∣ (24, refl) ∣₁) (omega arith)) in
    let e = div-add-mod' 16777216 a in
    let t = round_within x a (16777216 / a) (power_pos a p) (omega arith) in
    omega arith
