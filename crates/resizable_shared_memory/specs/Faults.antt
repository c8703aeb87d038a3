-- The numbers of the denials of a memory.
use Rattle.std.specs.Prelude.{ℕ}
use Rattle.shared_memory.specs.Meaning.{create_number, access_number}
use Rattle.shm_allocator.specs.Meaning.{refusal_number}
use Rattle.resizable_shared_memory.specs.declared.fault.ChunkWriteError.{ChunkWriteError}
use Rattle.resizable_shared_memory.specs.declared.fault.ChunkWriteError.TheVariants as writing
use Rattle.resizable_shared_memory.specs.declared.fault.NotMapped.{NotMapped}
use Rattle.resizable_shared_memory.specs.declared.fault.ResizableShmAllocationError.{ResizableShmAllocationError}
use Rattle.resizable_shared_memory.specs.declared.fault.ResizableShmAllocationError.TheVariants as allocating
use Rattle.resizable_shared_memory.specs.declared.fault.ResizableShmCreateError.{ResizableShmCreateError}
use Rattle.resizable_shared_memory.specs.declared.fault.ResizableShmCreateError.TheVariants as creating

-- The number of each denial of an allocation; those from below keep theirs.
abbrev pub allocation_number : ResizableShmAllocationError → ℕ
allocation_number allocating.BadLayout = 1
allocation_number allocating.LedgerFull = 12
allocation_number allocating.GrantsSpent = 13
allocation_number allocating.MaxReallocationsReached = 23
allocation_number (allocating.ShmAllocationError e) = refusal_number e
allocation_number (allocating.SharedMemoryCreateError e) = create_number e

-- The number of each denial of a creation.
abbrev pub creation_number : ResizableShmCreateError → ℕ
creation_number creating.BadName = 2
creation_number creating.BadLayout = 1
creation_number (creating.SharedMemoryCreateError e) = create_number e

-- The number of each denial of a write into a chunk.
abbrev pub write_number : ChunkWriteError → ℕ
write_number writing.NotHeld = 11
write_number writing.OutsideChunk = 4
write_number (writing.AccessError e) = access_number e

-- The number of a segment that is not mapped.
abbrev pub not_mapped_number : NotMapped → ℕ
not_mapped_number e = 14
