use Rattle.std.proofs.Common.{refl, arith}
use Rattle.shm_allocator.specs.Powers.{power_pos}
use Rattle.shm_allocator.specs.Growing.{rounded_sized}
use Rattle.shm_allocator.proofs.layout.ValidLayout.rounded.Goals as goal

pub round_up-size-requires : goal.round_up-size-requires
round_up-size-requires c = (power_pos c.args.self.align c.args.self.aligned.0, omega arith)

pub invariant_of-result : goal.invariant_of-result
invariant_of-result c =
    let s = rounded_sized c.args.self in
    let e = c.round_up-size.ensures.value in
    record { sized = (omega arith, omega arith); aligned = c.args.self.aligned }

pub returns : goal.returns
returns c = (c.round_up-size.ensures.value, refl)
