-- How a memory is created: first a record of numbers, then the memory.
use Rattle.std.specs.Prelude.{◌≡◌, ℕ, true, List, Ok, Err, Result, refl}
use Rattle.std.proofs.Common.{lit≤}
use Rattle.shared_memory.specs.declared.opened.Opened.{Opened}
use Rattle.shared_memory.specs.declared.fault.SharedMemoryCreateError.{SharedMemoryCreateError}
use Rattle.shared_memory.specs.BaseNames.{GoodBase}
use Rattle.shared_memory.specs.Meaning.{Store, SameSegmentsAndRoom, create_number}
use Rattle.shared_memory.specs.Names.{text, segment_name, management_name}
use Rattle.shm_allocator.specs.declared.AllocationStrategy.{AllocationStrategy}
use Rattle.shm_allocator.specs.declared.SharedMemorySetupHint.{SharedMemorySetupHint}
use Rattle.shm_allocator.specs.declared.layout.Layout.{Layout}
use Rattle.shm_allocator.specs.declared.layout.ValidLayout.{ValidLayout}
use Rattle.shm_allocator.specs.Meaning.{Meaning}
use Rattle.shm_allocator.specs.Numbers.{Valid}
use Rattle.resizable_shared_memory.specs.Moves.{Begins}
use Rattle.resizable_shared_memory.specs.Places.{Numbers}
use Rattle.resizable_shared_memory.specs.Segments.{SegmentDenied, MakesSegment}
use Rattle.resizable_shared_memory.specs.Withdrawals.{Withdrawn}
use Rattle.resizable_shared_memory.specs.declared.fault.ResizableShmCreateError.{ResizableShmCreateError}
use Rattle.resizable_shared_memory.specs.declared.fault.ResizableShmCreateError.TheVariants as creating
use Rattle.resizable_shared_memory.specs.declared.memory.DynamicMemory.{DynamicMemory}
use Rattle.resizable_shared_memory.specs.declared.record.CreationRecord.{CreationRecord}
use Rattle.resizable_shared_memory.specs.declared.table.Place.{Place}

-- The layout of one byte, which the management segment is made for.
abbrev pub one_byte : ValidLayout
one_byte = record { size = 1; align = 1; sized = (lit≤ tt, lit≤ tt); aligned = (∣ (0, refl) ∣₁, lit≤ tt) }

module _ {A C : Type 0} (α : Meaning A C) where
  -- The hint that the management segment is made from.
  abbrev pub management_hint : SharedMemorySetupHint C
  management_hint = α.initial one_byte 1

  -- Segment 0 of the base n was made, or it was denied and the management segment under the handle o withdrawn again.
  abbrev pub MakesFirst : Store → List ℕ → SharedMemorySetupHint C → ℕ → Result Opened SharedMemoryCreateError → Store → Type 0
  MakesFirst s n h o (Ok q) t = MakesSegment α s (segment_name n 0) h (Ok q) t
  MakesFirst s n h o (Err e) t = (between : Store) × MakesSegment α s (segment_name n 0) h (Err e) between × Withdrawn between o t

  -- Why no memory was created; the store's denials are carried whole.
  pub data CreationDenied (n : List ℕ) (l : Layout) (count : ℕ) (s : Store) : ResizableShmCreateError → Type 0 where
    bad_name : (GoodBase n → ⊥) → CreationDenied n l count s creating.BadName
    bad_layout : GoodBase n → (Valid l.size l.align → ⊥) → CreationDenied n l count s creating.BadLayout
    no_management : {e : SharedMemoryCreateError} → GoodBase n → Valid l.size l.align → SegmentDenied α s (management_name n) management_hint (create_number e)
        → CreationDenied n l count s (creating.SharedMemoryCreateError e)
    no_segment : {e : SharedMemoryCreateError} {o : Opened} {between : Store} (v : ValidLayout) → GoodBase n → v.size ≡ l.size → v.align ≡ l.align
        → MakesSegment α s (management_name n) management_hint (Ok o) between → SegmentDenied α between (segment_name n 0) (α.initial v count) (create_number e)
        → CreationDenied n l count s (creating.SharedMemoryCreateError e)

  -- The segments that a creation makes: the management segment o, and then segment 0, which is q, from the hint for v.
  pub record MakesBoth (n : List ℕ) (l : Layout) (count : ℕ) (s : Store) (v : ValidLayout) (o q : Opened) (t : Store) : Type 0 where
    pub good : GoodBase n
    pub size : v.size ≡ l.size
    pub align : v.align ≡ l.align
    pub between : Store
    pub management : MakesSegment α s (management_name n) management_hint (Ok o) between
    pub first : MakesSegment α between (segment_name n 0) (α.initial v count) (Ok q) t

  -- A memory as it is created from the hint h, with the management segment o and the first segment q.
  pub record Created (n : List ℕ) (way : AllocationStrategy) (h : SharedMemorySetupHint C) (o q : Opened) (m : DynamicMemory A) : Type 0 where
    pub fresh : α.fresh h.config h.payload_size m.allocator
    pub place : Place
    pub numbers : Numbers place q.handle q.address (α.bucket m.allocator) 0
    pub tables : Begins n way o.handle place m.tables

  -- What a creation comes to, once its record became a memory.
  abbrev pub Creates : List ℕ → Layout → ℕ → AllocationStrategy → Store → Result (DynamicMemory A) ResizableShmCreateError → Store → Type 0
  Creates n l count way s (Err e) t = CreationDenied n l count s e × SameSegmentsAndRoom s t
  Creates n l count way s (Ok m) t = (v : ValidLayout) × (o : Opened) × (q : Opened) × MakesBoth n l count s v o q t × Created n way (α.initial v count) o q m

  -- What is written down of a creation.
  pub record Recorded (n : List ℕ) (way : AllocationStrategy) (h : SharedMemorySetupHint C) (o q : Opened) (x : CreationRecord C) : Type 0 where
    pub name : text x.base ≡ n
    pub strategy : x.strategy ≡ way
    pub management : x.management ≡ o.handle
    pub segment : x.segment ≡ q
    pub payload : x.payload_size ≡ h.payload_size
    pub config : x.config ≡ h.config

  -- What a creation answers.
  abbrev pub CreatesRecord : List ℕ → Layout → ℕ → AllocationStrategy → Store → Result (CreationRecord C) ResizableShmCreateError → Store → Type 0
  CreatesRecord n l count way s (Err e) t = CreationDenied n l count s e × SameSegmentsAndRoom s t
  CreatesRecord n l count way s (Ok x) t = (v : ValidLayout) × (o : Opened) × (q : Opened) × MakesBoth n l count s v o q t × Recorded n way (α.initial v count) o q x

  -- The memory that a record becomes.
  pub record Becomes (x : CreationRecord C) (m : DynamicMemory A) : Type 0 where
    pub fresh : α.possible x.config x.payload_size ≡ true → α.fresh x.config x.payload_size m.allocator
    pub place : Place
    pub numbers : Numbers place x.segment.handle x.segment.address (α.bucket m.allocator) 0
    pub tables : Begins (text x.base) x.strategy x.management place m.tables

  -- Whatever creation the record is of, the memory is the one created.
  abbrev pub Completes : CreationRecord C → DynamicMemory A → Type 0
  Completes x m =
      (n : List ℕ) (l : Layout) (count : ℕ) (way : AllocationStrategy) (s t : Store) → CreatesRecord n l count way s (Ok x) t → Creates n l count way s (Ok m) t
