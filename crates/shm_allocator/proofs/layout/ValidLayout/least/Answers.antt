use Rattle.std.proofs.Common.{refl, arith}
use Rattle.shm_allocator.proofs.layout.ValidLayout.least.Goals as goal

pub invariant_of-result : goal.invariant_of-result
invariant_of-result c = record { sized = (omega arith, omega arith); aligned = (∣ (0, refl) ∣₁, omega arith) }
