use Rattle.std.proofs.Common.{◌≡◌, max, sym, ap, ◌∙◌, subst, ap₂, arith}
use Rattle.shm_allocator.specs.Numbers.{IsPowerOfTwo, rounded_up}
use Rattle.shm_allocator.specs.Sizes.{raise, grown_size, grown_align}
use Rattle.shm_allocator.specs.Growing.{raise_limit, grown_sized, grown_aligned}
use Rattle.shm_allocator.proofs.layout.ValidLayout.grown.Goals as goal

pub round_up-requires : goal.round_up-requires
round_up-requires c = let t = raise_limit c.args.strategy c.max.result (omega arith) in (omega arith, omega arith)

pub overflow_cast-result : goal.overflow_cast-result
overflow_cast-result c = let t = raise_limit c.args.strategy c.max.result (omega arith) in omega arith

pub invariant_of-result : goal.invariant_of-result
invariant_of-result c =
    let b = c.args.self in
    let l = c.args.other in
    let p : c.max-align.result ≡ grown_align b l = omega arith in
    let m : c.max.result ≡ max b.size l.size = omega arith in
    let e : c.round_up.result ≡ grown_size b l c.args.strategy = c.round_up.ensures.value ∙ ap₂ rounded_up (c.raised-size.ensures ∙ ap (raise c.args.strategy) m) p in
    let s = grown_sized b l c.args.strategy in
    record { sized = (omega arith, omega arith); aligned = (subst IsPowerOfTwo (sym p) (grown_aligned b l).0, omega arith) }

pub returns : goal.returns
returns c =
    let b = c.args.self in
    let l = c.args.other in
    let p : c.max-align.result ≡ grown_align b l = omega arith in
    let m : c.max.result ≡ max b.size l.size = omega arith in
    (c.round_up.ensures.value ∙ ap₂ rounded_up (c.raised-size.ensures ∙ ap (raise c.args.strategy) m) p, p)
