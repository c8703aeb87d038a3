use Rattle.std.proofs.Common.{refl, inl, inr, arith}
use Rattle.shm_allocator.specs.Bumps.{bump_taken, bump_untaken}
use Rattle.shm_allocator.proofs.bump_allocator.calls.BumpAllocatorShmAllocator.deallocate.Goals as goal

pub returns-then-size-eq0 : goal.returns-then-size-eq0
returns-then-size-eq0 c = (bump_taken c.args.self.now c.args.at c.args.size (inl (omega arith)), refl)

pub returns-then-at-size : goal.returns-then-at-size
returns-then-at-size c = (bump_untaken c.args.self.now c.args.at c.args.size (omega arith) (omega arith), refl)

pub returns : goal.returns
returns c = (bump_taken c.args.self.now c.args.at c.args.size (inr (omega arith)), refl)
