use Rattle.std.proofs.Common.{sym, subst, arith, rules}
use Rattle.shm_allocator.specs.Numbers.{IsPowerOfTwo}
use Rattle.shm_allocator.proofs.pool_allocator.calls.PoolAllocatorShmAllocator.resize_hint.Goals as goal

pub returns : goal.returns
returns c =
    let b = c.hint_bucket-bucket.result in
    record {
      value = search rules;
      keeps = record { some = omega (arith, b.sized.0); few = omega (arith, b.sized.1); power = subst IsPowerOfTwo (sym c.from.ensures.1) b.aligned.0; low = omega (arith, b.aligned.1) };
    }
