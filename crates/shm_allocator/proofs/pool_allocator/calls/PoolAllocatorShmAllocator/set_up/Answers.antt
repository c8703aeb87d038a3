use Rattle.std.proofs.Common.{◌≡◌, ℕ, ◌*◌, ◌/◌, ◌%◌, ap, ◌∙◌, ap₂, div-mul-le_self, arith}
use Rattle.shm_allocator.specs.Rounding.{round_multiple}
use Rattle.shm_allocator.proofs.pool_allocator.calls.PoolAllocatorShmAllocator.set_up.Goals as goal

pub invariant_of-result-2 : goal.invariant_of-result-2
invariant_of-result-2 c =
    let l = c.in-Some.layout in
    let b = c.in-Some.ensures in
    let raw = c.args.config.bucket_layout in
    let m : c.new-2.result.count * l.size ≡ c.args.payload / l.size * l.size
    = ap (λ (x : ℕ). x * l.size) (c.new-2.ensures.count ∙ ap (λ (x : ℕ). c.args.payload / x) c.size.ensures.value) in
    let d = div-mul-le_self c.args.payload l.size in
    record { even = ap₂ (λ (x y : ℕ). x % y) b.1 b.2 ∙ round_multiple raw.size raw.align; inside = (omega arith, omega arith) }
