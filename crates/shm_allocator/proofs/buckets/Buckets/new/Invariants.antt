use Rattle.std.proofs.Common.{◌≡◌, ◌-◌, reverse}
use Rattle.std.specs.List.{range_with_len}
use Rattle.shm_allocator.proofs.buckets.Buckets.new.Given as goal

abbrev pub invariant-loop-i : goal.invariant-loop-i
invariant-loop-i l = reverse l.free.items ≡ range_with_len l.i (l.count - l.i)
