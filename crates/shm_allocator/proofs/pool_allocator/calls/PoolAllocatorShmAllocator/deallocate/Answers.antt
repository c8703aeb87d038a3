use Rattle.std.proofs.Common.{◌≡◌, ℕ, ◌/◌, ◌%◌, sym, refl, ap, ◌∙◌, subst, arith}
use Rattle.shm_allocator.specs.Buckets.{flag, Pushed}
use Rattle.shm_allocator.specs.Pools.{pool_taken}
use Rattle.shm_allocator.proofs.pool_allocator.calls.PoolAllocatorShmAllocator.deallocate.Goals as goal

pub returns : goal.returns
returns c =
    let a = c.args.self.now in
    let e : c.size-bucket.result ≡ a.layout.size = c.size-bucket.ensures.value in
    let q : c.args.at / c.size-bucket.result ≡ c.args.at / a.layout.size = ap (λ (x : ℕ). c.args.at / x) e in
    let r : c.args.at % c.size-bucket.result ≡ c.args.at % a.layout.size = ap (λ (x : ℕ). c.args.at % x) e in (
      pool_taken a c.args.at c.args.size
          (record { even = omega arith; inside = omega arith; some = omega arith; few = omega arith })
          (ap (flag a.buckets) (sym q) ∙ sym c.if-not-is_taken.ensures),
      record { payload = refl; layout = refl; pushed = subst (λ (x : ℕ). Pushed a.buckets x c.push.new.self) q c.push.ensures },
    )
