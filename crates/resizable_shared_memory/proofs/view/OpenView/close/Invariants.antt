-- Whatever closing the rest comes to, closing all comes to.
use Rattle.std.proofs.Common.{drop}
use Rattle.shared_memory.specs.Meaning.{Store}
use Rattle.resizable_shared_memory.specs.Closings.{ClosesAll}
use Rattle.resizable_shared_memory.proofs.view.OpenView.close.Given as goal

abbrev pub invariant-loop-handle : goal.invariant-loop-handle
invariant-loop-handle g l =
    (u : Store) → ClosesAll (drop l.handle-index l.handle-items) (g.S.SegmentStore.means l.store) u
    → ClosesAll l.handle-items (g.S.SegmentStore.means l.initial.store) u
