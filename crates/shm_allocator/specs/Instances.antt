-- The worked instances, on the definitions that the contracts cite.
use Rattle.std.specs.Prelude.{◌≡◌, ℕ, ◌-◌, ◌^◌}
use Rattle.pointer_offset.specs.Packing.{packing}
use Rattle.pointer_offset.specs.Packing.Packing.{packs, denied}
use Rattle.shm_allocator.specs.declared.layout.ValidLayout.{ValidLayout}
use Rattle.shm_allocator.specs.declared.AllocationStrategy.{AllocationStrategy}
use Rattle.shm_allocator.specs.declared.AllocationStrategy.TheVariants.{BestFit, PowerOfTwo}
use Rattle.shm_allocator.specs.declared.bump_allocator.BumpAllocator.{BumpAllocator}
use Rattle.shm_allocator.specs.declared.pool_allocator.PoolAllocator.{PoolAllocator}
use Rattle.shm_allocator.specs.declared.pool_allocator.Config.{Config}
use Rattle.shm_allocator.specs.Meaning.Answer.{start, refused}
use Rattle.shm_allocator.specs.Bump.{bump}
use Rattle.shm_allocator.specs.Pool.{pool}

-- The layout is of n bytes on the boundary a.
pub record Asks (l : ValidLayout) (n a : ℕ) : Type 0 where
  pub size : l.size ≡ n
  pub align : l.align ≡ a

-- A pool's buckets are to hold n bytes on the boundary a.
pub record Holds (set : Config) (n a : ℕ) : Type 0 where
  pub size : set.bucket_layout.size ≡ n
  pub align : set.bucket_layout.align ≡ a

-- A pool's story: set up with buckets of (24, 8) for 48 bytes it is `none`; having given a chunk for the
-- layout l of (24, 8) it is `one`, having given a second it is `two`; and `two`, having taken the first back, is `back`.
pub record Story (l : ValidLayout) (none one two back : PoolAllocator) : Type 0 where
  pub asks : Asks l 24 8
  pub set : Config
  pub buckets : Holds set 24 8
  pub fresh : pool.fresh set 48 none
  pub first : pool.gave none l one
  pub second : pool.gave one l two
  pub returned : pool.took_back two 0 24 back

-- The payload that a pool hints at.
abbrev pub hinted : PoolAllocator → ValidLayout → AllocationStrategy → ℕ
hinted a l way = (pool.hint a l way).payload_size

pub record Instances : Type 0 where
  -- offset 5 with id 3 is 1283; the largest offset with the largest id is the largest value; the next offset is denied
  pub small : packing 5 3 ≡ packs 1283
  pub largest : packing (2 ^ 56 - 1) 255 ≡ packs (2 ^ 64 - 1)
  pub too_large : (id : ℕ) → packing (2 ^ 56) id ≡ denied 3
  -- two buckets start at 0 and 24, then there is none; the first returned, the next start is 0
  pub first_start : (l : ValidLayout) (a b c d : PoolAllocator) → Story l a b c d → pool.answer a l ≡ start 0
  pub second_start : (l : ValidLayout) (a b c d : PoolAllocator) → Story l a b c d → pool.answer b l ≡ start 24
  pub both_held : (l : ValidLayout) (a b c d : PoolAllocator) → Story l a b c d → pool.answer c l ≡ refused 20
  pub start_again : (l : ValidLayout) (a b c d : PoolAllocator) → Story l a b c d → pool.answer d l ≡ start 0
  -- both held, the hint for (24, 8) is 72 or 96 bytes
  pub best_fit : (l : ValidLayout) (a b c d : PoolAllocator) → Story l a b c d → hinted c l BestFit ≡ 72
  pub power_of_two : (l : ValidLayout) (a b c d : PoolAllocator) → Story l a b c d → hinted c l PowerOfTwo ≡ 96
  -- one held, the hint for (40, 16) is 96 or 128 bytes
  pub larger_best_fit : (l m : ValidLayout) (a b c d : PoolAllocator) → Story l a b c d → Asks m 40 16 → hinted b m BestFit ≡ 96
  pub larger_power_of_two : (l m : ValidLayout) (a b c d : PoolAllocator) → Story l a b c d → Asks m 40 16 → hinted b m PowerOfTwo ≡ 128
  -- 5 bytes have no bucket of (5, 4), and the hint for (5, 4) is 8 bytes; so is the initial hint for one chunk, which has one bucket
  pub no_bucket : (l : ValidLayout) (set : Config) (a : PoolAllocator) → Asks l 5 4 → Holds set 5 4 → pool.fresh set 5 a → (a.buckets.count ≡ 0) × (hinted a l BestFit ≡ 8)
  pub one_bucket : (l : ValidLayout) (set : Config) (a : PoolAllocator) → Asks l 5 4 → Holds set 5 4 → pool.fresh set 8 a → ((pool.initial l 1).payload_size ≡ 8) × (a.buckets.count ≡ 1)
  -- 16 bytes with the mark at 9 are enough for (5, 8), whatever the strategy
  pub bump_keeps : (l : ValidLayout) (a : BumpAllocator) (way : AllocationStrategy) → Asks l 5 8 → a.payload ≡ 16 → a.mark ≡ 9 → (bump.hint a l way).payload_size ≡ 16
