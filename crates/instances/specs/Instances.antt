-- The worked instances, on the relations that the calls' contracts promise.
use Rattle.std.specs.Prelude.{◌≡◌, ℕ, ◌*◌, List, length, Some, Ok, Err, Result}
use Rattle.shared_memory.specs.Meaning.{Store, Segment}
use Rattle.shm_allocator.specs.Instances as allocators
use Rattle.shm_allocator.specs.Meaning.{not_held_number}
use Rattle.shm_allocator.specs.Pool.{pool}
use Rattle.shm_allocator.specs.declared.AllocationStrategy.{AllocationStrategy}
use Rattle.shm_allocator.specs.declared.AllocationStrategy.TheVariants.{BestFit, PowerOfTwo, Static}
use Rattle.shm_allocator.specs.declared.NotHeld.{NotHeld}
use Rattle.shm_allocator.specs.declared.layout.Layout.{Layout}
use Rattle.shm_allocator.specs.declared.layout.ValidLayout.{ValidLayout}
use Rattle.shm_allocator.specs.declared.pool_allocator.PoolAllocator.{PoolAllocator}
use Rattle.resizable_shared_memory.specs.Creation.{Creates}
use Rattle.resizable_shared_memory.specs.Faults.{allocation_number}
use Rattle.resizable_shared_memory.specs.Memory.{Allocates, Deallocates, Grows}
use Rattle.resizable_shared_memory.specs.Parts.{current, place}
use Rattle.resizable_shared_memory.specs.declared.fault.ResizableShmAllocationError.{ResizableShmAllocationError}
use Rattle.resizable_shared_memory.specs.declared.memory.Chunk.{Chunk}
use Rattle.resizable_shared_memory.specs.declared.memory.DynamicMemory.{DynamicMemory}
use Rattle.resizable_shared_memory.specs.declared.table.Place.{Place}

-- A memory of a pool.
abbrev pub PoolMemory : Type 0
PoolMemory = DynamicMemory PoolAllocator

-- 24 bytes on the boundary 8.
abbrev pub asked : Layout
asked = record { size = 24; align = 8 }

-- A memory was created for two chunks of (24, 8); it is m, in the store s, after both were taken, first c and then d.
pub record BothTaken (way : AllocationStrategy) (c d : Chunk) (m : PoolMemory) (s : Store) : Type 0 where
  pub name : List ℕ
  pub before : Store
  pub none : PoolMemory
  pub created : Store
  pub creates : Creates pool name asked 2 way before (Ok none) created
  pub one : PoolMemory
  pub between : Store
  pub first : Allocates pool asked none created (Ok c) one between
  pub second : Allocates pool asked one between (Ok d) m s

-- And c came back: the memory is n, in the store t.
pub record OneBack (way : AllocationStrategy) (c d : Chunk) (n : PoolMemory) (t : Store) : Type 0 where
  pub full : PoolMemory
  pub in_store : Store
  pub both : BothTaken way c d full in_store
  pub returns : Deallocates pool c.claim.offset.0 c.claim.grant full in_store (Ok tt) n t

-- The segment of the id k has a payload of p bytes.
pub record Payload (m : PoolMemory) (s : Store) (k p : ℕ) : Type 0 where
  pub there : Place
  pub mapped : place m k ≡ Some there
  pub segment : Segment
  pub stands : s.at there.handle ≡ Some segment
  pub sized : length segment.bytes ≡ p

-- A return was denied by 11.
abbrev pub NotHeldAnswer : Result (Unit {0}) NotHeld → Type 0
NotHeldAnswer r = (e : NotHeld) × (r ≡ Err e) × (not_held_number e ≡ 11)

-- An allocation was denied by the number x.
abbrev pub DeniedBy : {R : Type 0} → ℕ → Result R ResizableShmAllocationError → Type 0
DeniedBy x r = (f : ResizableShmAllocationError) × (r ≡ Err f) × (allocation_number f ≡ x)

pub record Instances : Type 0 where
  -- those of offsets and allocators
  pub allocators : allocators.Instances
  -- the two chunks have the values 0 and 24 × 256, and the grants 1 and 2
  pub values : (way : AllocationStrategy) (c d : Chunk) (m : PoolMemory) (s : Store) → BothTaken way c d m s
      → (c.claim.offset.0 ≡ 0) × (c.claim.grant ≡ 1) × (d.claim.offset.0 ≡ 24 * 256) × (d.claim.grant ≡ 2)
  -- the return of the first is accepted
  pub returned : (way : AllocationStrategy) (c d : Chunk) (m n : PoolMemory) (s t : Store) (r : Result (Unit {0}) NotHeld) → BothTaken way c d m s
      → Deallocates pool 0 1 m s r n t → r ≡ Ok tt
  -- after it the next chunk has the value 0 again
  pub again : (way : AllocationStrategy) (c d e : Chunk) (m n : PoolMemory) (s t : Store) → OneBack way c d m s
      → Allocates pool asked m s (Ok e) n t → e.claim.offset.0 ≡ 0
  -- and returning grant 1 again is denied by 11, before the bucket went to somebody else and after
  pub twice : (way : AllocationStrategy) (c d : Chunk) (m n : PoolMemory) (s t : Store) (r : Result (Unit {0}) NotHeld) → OneBack way c d m s
      → Deallocates pool 0 1 m s r n t → NotHeldAnswer r
  pub late : (way : AllocationStrategy) (c d e : Chunk) (m n k : PoolMemory) (s t u : Store) (r : Result (Unit {0}) NotHeld) → OneBack way c d m s
      → Allocates pool asked m s (Ok e) n t → Deallocates pool 0 1 n t r k u → NotHeldAnswer r
  -- with both held, a further chunk makes a segment of 72 or 96 bytes and has the value 1, or is denied by 20
  pub best_fit : (c d e : Chunk) (m n : PoolMemory) (s t : Store) → BothTaken BestFit c d m s
      → Allocates pool asked m s (Ok e) n t → (e.claim.offset.0 ≡ 1) × Payload n t 1 72
  pub power_of_two : (c d e : Chunk) (m n : PoolMemory) (s t : Store) → BothTaken PowerOfTwo c d m s
      → Allocates pool asked m s (Ok e) n t → (e.claim.offset.0 ≡ 1) × Payload n t 1 96
  pub static : (c d : Chunk) (m n : PoolMemory) (s t : Store) (r : Result Chunk ResizableShmAllocationError) → BothTaken Static c d m s
      → Allocates pool asked m s r n t → DeniedBy 20 r
  -- with the current id 255, a growth is denied by 23
  pub no_id_left : (m n : PoolMemory) (s t : Store) (l : ValidLayout) (r : Result (Unit {0}) ResizableShmAllocationError) → current m ≡ 255
      → Grows pool m s l r n t → DeniedBy 23 r
