use Rattle.std.proofs.Common.{sym, ap, ◌∙◌}
use Rattle.shm_allocator.specs.Sizes.{raise}
use Rattle.shm_allocator.specs.Powers.{next_power_only}
use Rattle.shm_allocator.proofs.AllocationStrategy.raised.Goals as goal

pub returns-in-PowerOfTwo : goal.returns-in-PowerOfTwo
returns-in-PowerOfTwo c =
    let e = c.next_power_of_two.ensures in
    next_power_only c.args.n c.next_power_of_two.result e.power e.lower_bound e.upper_bound ∙ sym (ap (λ way. raise way c.args.n) c.in-PowerOfTwo.is)
