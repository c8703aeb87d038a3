-- Layouts that are rounded up and that grow keep the rules.
use Rattle.std.specs.Prelude.{ℕ, ◌≤◌, max, refl}
use Rattle.std.proofs.Common.{arith}
use Rattle.shm_allocator.specs.Numbers.{IsPowerOfTwo}
use Rattle.shm_allocator.specs.Sizes.{raise, rounded_size, grown_size, grown_align}
use Rattle.shm_allocator.specs.Rounding.{round_low}
use Rattle.shm_allocator.specs.Powers.{power_pos, power_max, next_power_is, next_power_within, round_limit}
use Rattle.shm_allocator.specs.declared.layout.ValidLayout.{ValidLayout}
use Rattle.shm_allocator.specs.declared.AllocationStrategy.{AllocationStrategy}
use Rattle.shm_allocator.specs.declared.AllocationStrategy.TheVariants.{BestFit, PowerOfTwo, Static}

pub raise_low : (way : AllocationStrategy) (n : ℕ) → n ≤ raise way n
raise_low BestFit n = omega arith
raise_low PowerOfTwo n = (next_power_is n).1
raise_low Static n = omega arith

pub raise_limit : (way : AllocationStrategy) (n : ℕ) → n ≤ 16777216 → raise way n ≤ 16777216
raise_limit BestFit n h = h
raise_limit PowerOfTwo n h = next_power_within n 16777216 (∣ (24, refl) ∣₁) h
raise_limit Static n h = h

pub rounded_sized : (l : ValidLayout) → (1 ≤ rounded_size l) × (rounded_size l ≤ 16777216)
rounded_sized l =
    let low = round_low l.size l.align (power_pos l.align l.aligned.0) in
    (omega arith, round_limit l.size l.align l.aligned.0 l.aligned.1 l.sized.1)

pub grown_aligned : (b l : ValidLayout) → IsPowerOfTwo (grown_align b l) × (grown_align b l ≤ 65536)
grown_aligned b l = (power_max b.align l.align b.aligned.0 l.aligned.0, omega arith)

pub grown_sized : (b l : ValidLayout) (way : AllocationStrategy) → (1 ≤ grown_size b l way) × (grown_size b l way ≤ 16777216)
grown_sized b l way =
    let a = grown_aligned b l in
    let r = raise_low way (max b.size l.size) in
    let t = raise_limit way (max b.size l.size) (omega arith) in
    let low = round_low (raise way (max b.size l.size)) (grown_align b l) (power_pos _ a.0) in
    (omega arith, round_limit (raise way (max b.size l.size)) (grown_align b l) a.0 a.1 t)
