-- Whatever withdrawing the rest comes to, withdrawing all comes to.
use Rattle.std.proofs.Common.{drop}
use Rattle.shared_memory.specs.Meaning.{Store}
use Rattle.resizable_shared_memory.specs.Withdrawals.{WithdrawsAll}
use Rattle.resizable_shared_memory.proofs.memory.DynamicMemory.end.Given as goal

abbrev pub invariant-loop-handle : goal.invariant-loop-handle
invariant-loop-handle g l =
    (u : Store) → WithdrawsAll (drop l.handle-index l.handle-items) (g.S.SegmentStore.means l.store) u
    → WithdrawsAll l.handle-items (g.S.SegmentStore.means l.initial.store) u
