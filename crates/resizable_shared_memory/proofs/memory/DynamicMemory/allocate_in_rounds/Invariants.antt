-- Whatever the rounds from here on come to, the rounds from the start come to; each takes a new id.
use Rattle.std.proofs.Common.{◌-◌, ◌^◌, ◌<◌, length, Result}
use Rattle.shared_memory.specs.Meaning.{Store}
use Rattle.resizable_shared_memory.specs.Memory.{Rounds}
use Rattle.resizable_shared_memory.specs.Parts.{current, chunks, given as given_of}
use Rattle.resizable_shared_memory.specs.declared.fault.ResizableShmAllocationError.{ResizableShmAllocationError}
use Rattle.resizable_shared_memory.specs.declared.memory.Chunk.{Chunk}
use Rattle.resizable_shared_memory.specs.declared.memory.DynamicMemory.{DynamicMemory}
use Rattle.resizable_shared_memory.proofs.memory.DynamicMemory.allocate_in_rounds.Given as goal

abbrev pub invariant-loop-start : goal.invariant-loop-start
invariant-loop-start g l =
    ((r : Result Chunk ResizableShmAllocationError) (n : DynamicMemory g.row.A.Denot) (t : Store)
    → Rounds g.A.ShmAllocator.means l.layout l.self (g.S.SegmentStore.means l.store) r n t
    → Rounds g.A.ShmAllocator.means l.layout l.initial.self (g.S.SegmentStore.means l.initial.store) r n t)
    × (length (chunks l.self) < 1024)
    × (given_of l.self < 2 ^ 64 - 1)

abbrev pub decreases-loop-start : goal.decreases-loop-start
decreases-loop-start g l = 255 - current l.self
