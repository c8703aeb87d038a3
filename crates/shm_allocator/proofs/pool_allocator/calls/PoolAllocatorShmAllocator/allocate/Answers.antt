use Rattle.std.proofs.Common.{◌≡◌, ℕ, ◌*◌, ◌≤◌, ap, ◌∙◌, mul-le-mul_right, arith}
use Rattle.std.specs.Result.{result_ok}
use Rattle.std.proofs.lemmas.Option.{MatchOption-at_some}
use Rattle.shm_allocator.proofs.pool_allocator.calls.PoolAllocatorShmAllocator.allocate.Goals as goal

pub overflow_mul-result : goal.overflow_mul-result
overflow_mul-result c =
    let a = c.args.self.now in
    let p = MatchOption-at_some {o = c.pop.result} _ _ c.in_ok-i.i (c.ok_or.ensures.ok_part ∙ ap result_ok c.in_ok-i.was) c.pop.ensures in
    let i : c.in_ok-i.i ≤ a.buckets.count = omega (arith, p.1) in
    let m = mul-le-mul_right a.layout.size i in
    let e : c.in_ok-i.i * c.size-3.result ≡ c.in_ok-i.i * a.layout.size = ap (λ (x : ℕ). c.in_ok-i.i * x) c.size-3.ensures.value in
    let q = a.inside in
    omega arith
