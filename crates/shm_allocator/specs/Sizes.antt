-- What a strategy makes of a number, and the sizes of layouts that are rounded up and that grow.
use Rattle.std.specs.Prelude.{ℕ, max, Bool, true, false}
use Rattle.shm_allocator.specs.Numbers.{rounded_up, next_power}
use Rattle.shm_allocator.specs.declared.layout.ValidLayout.{ValidLayout}
use Rattle.shm_allocator.specs.declared.AllocationStrategy.{AllocationStrategy}
use Rattle.shm_allocator.specs.declared.AllocationStrategy.TheVariants.{BestFit, PowerOfTwo, Static}

-- Whether a hint under the strategy may ask for more than there is.
abbrev pub grows : AllocationStrategy → Bool
grows BestFit = true
grows PowerOfTwo = true
grows Static = false

-- A number as the strategy raises it.
abbrev pub raise : AllocationStrategy → ℕ → ℕ
raise BestFit n = n
raise PowerOfTwo n = next_power n
raise Static n = n

-- The size of a layout, rounded up to a multiple of its alignment.
abbrev pub rounded_size : ValidLayout → ℕ
rounded_size l = rounded_up l.size l.align

-- The larger of two layouts' alignments.
abbrev pub grown_align : ValidLayout → ValidLayout → ℕ
grown_align b l = max b.align l.align

-- The larger of two layouts' sizes, raised by the strategy and rounded up to a multiple of the larger alignment.
abbrev pub grown_size : ValidLayout → ValidLayout → AllocationStrategy → ℕ
grown_size b l way = rounded_up (raise way (max b.size l.size)) (grown_align b l)
