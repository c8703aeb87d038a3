-- What each call of a memory does.
use Rattle.std.specs.Prelude.{◌≡◌, ℕ, ◌+◌, ◌-◌, ◌^◌, ◌<◌, ◌≤◌, ◌⊎◌, List, [], ◌∷◌, ◌++◌, length, Some, None, Ok, Err, Result, ◌≢◌}
use Rattle.pointer_offset.specs.Packing.{offset_of, id_of}
use Rattle.shared_memory.specs.declared.opened.Opened.{Opened}
use Rattle.shared_memory.specs.declared.fault.SharedMemoryCreateError.{SharedMemoryCreateError}
use Rattle.shared_memory.specs.Meaning.{Store, Same, Writes, AccessDenied}
use Rattle.shared_memory.specs.Names.{segment_name}
use Rattle.shm_allocator.specs.declared.AllocationStrategy.TheVariants.{Static}
use Rattle.shm_allocator.specs.declared.NotHeld.{NotHeld}
use Rattle.shm_allocator.specs.declared.SharedMemorySetupHint.{SharedMemorySetupHint}
use Rattle.shm_allocator.specs.declared.ShmAllocationError.{ShmAllocationError}
use Rattle.shm_allocator.specs.declared.layout.Layout.{Layout}
use Rattle.shm_allocator.specs.declared.layout.ValidLayout.{ValidLayout}
use Rattle.shm_allocator.specs.Meaning.{Meaning, Accepted, Denied, refusal_number, not_held_number}
use Rattle.shm_allocator.specs.Meaning.Answer.{start, refused}
use Rattle.shm_allocator.specs.Numbers.{Valid}
use Rattle.resizable_shared_memory.specs.Entries.{Entry, find}
use Rattle.resizable_shared_memory.specs.Faults.{allocation_number, write_number, not_mapped_number}
use Rattle.resizable_shared_memory.specs.Moves.{Enters, Advances, Releases}
use Rattle.resizable_shared_memory.specs.Parts.{current, place as place_at, chunks, given, base}
use Rattle.resizable_shared_memory.specs.Places.{handles, Numbers}
use Rattle.resizable_shared_memory.specs.Segments.{MakesSegment}
use Rattle.resizable_shared_memory.specs.Withdrawals.{WithdrawsAll}
use Rattle.resizable_shared_memory.specs.declared.fault.ChunkWriteError.{ChunkWriteError}
use Rattle.resizable_shared_memory.specs.declared.fault.NotMapped.{NotMapped}
use Rattle.resizable_shared_memory.specs.declared.fault.ResizableShmAllocationError.{ResizableShmAllocationError}
use Rattle.resizable_shared_memory.specs.declared.fault.ResizableShmAllocationError.TheVariants as fault
use Rattle.resizable_shared_memory.specs.declared.memory.Chunk.{Chunk}
use Rattle.resizable_shared_memory.specs.declared.memory.DynamicMemory.{DynamicMemory}
use Rattle.resizable_shared_memory.specs.declared.table.Place.{Place}

module _ {A C : Type 0} (α : Meaning A C) where
  -- The hint of a memory's allocator for a layout.
  abbrev pub hint_for : DynamicMemory A → ValidLayout → SharedMemorySetupHint C
  hint_for m l = α.hint m.allocator l m.tables.strategy

  -- A growth: a segment is made from the hint, an allocator set up from it, and the tables advance.
  pub record Grown (m : DynamicMemory A) (s : Store) (l : ValidLayout) (n : DynamicMemory A) (t : Store) : Type 0 where
    pub below : current m < 255
    pub opened : Opened
    pub between : Store
    pub made : MakesSegment α s (segment_name (base m) (current m + 1)) (hint_for m l) (Ok opened) between
    pub fresh : α.fresh (hint_for m l).config (hint_for m l).payload_size n.allocator
    pub place : Place
    pub numbers : Numbers place opened.handle opened.address (α.bucket n.allocator) 0
    pub tables : Advances m.tables between place n.tables t

  -- A growth that was refused: no id is left, or the store's refusal, carried whole.
  pub data GrowthRefused (m : DynamicMemory A) (s : Store) (l : ValidLayout) : ResizableShmAllocationError → Store → Type 0 where
    no_id : {f : ResizableShmAllocationError} → allocation_number f ≡ 23 → current m ≡ 255 → GrowthRefused m s l f s
    no_segment : {e : SharedMemoryCreateError} {t : Store} → current m < 255
        → MakesSegment α s (segment_name (base m) (current m + 1)) (hint_for m l) (Err e) t → GrowthRefused m s l (fault.SharedMemoryCreateError e) t

  -- What the wish to grow comes to.
  abbrev pub Grows : DynamicMemory A → Store → ValidLayout → Result (Unit {0}) ResizableShmAllocationError → DynamicMemory A → Store → Type 0
  Grows m s l (Ok done) n t = Grown m s l n t
  Grows m s l (Err f) n t = (n ≡ m) × GrowthRefused m s l f t

  -- What follows a refusal e of the current segment's allocator: it stands where the strategy forbids to grow.
  abbrev pub MakesRoom : DynamicMemory A → Store → ValidLayout → ShmAllocationError → Result (Unit {0}) ResizableShmAllocationError → DynamicMemory A → Store → Type 0
  MakesRoom m s l e r n t =
      ((m.tables.strategy ≡ Static) × (r ≡ Err (fault.ShmAllocationError e)) × (n ≡ m) × (t ≡ s))
      ⊎ ((m.tables.strategy ≢ Static) × Grows m s l r n t)

  -- The current segment's allocator gave the start o, which became the chunk c.
  pub record Granted (m : DynamicMemory A) (l : ValidLayout) (o : ℕ) (c : Chunk) (n : DynamicMemory A) : Type 0 where
    pub gave : α.gave m.allocator l n.allocator
    pub tables : Enters m.tables o l.size c n.tables

  -- The rounds of one request. Each asks the current segment's allocator; a start ends them, and so does a refusal
  -- under `Static`. Otherwise a growth follows, and another round unless it is refused.
  pub data Rounds (l : ValidLayout) : DynamicMemory A → Store → Result Chunk ResizableShmAllocationError → DynamicMemory A → Store → Type 0 where
    answered : {m n : DynamicMemory A} {s : Store} {c : Chunk} (o : ℕ) → α.answer m.allocator l ≡ start o → Granted m l o c n → Rounds l m s (Ok c) n s
    static : {m : DynamicMemory A} {s : Store} (e : ShmAllocationError) → α.answer m.allocator l ≡ refused (refusal_number e) → m.tables.strategy ≡ Static
        → Rounds l m s (Err (fault.ShmAllocationError e)) m s
    stuck : {m : DynamicMemory A} {s t : Store} {f : ResizableShmAllocationError} (e : ℕ) → α.answer m.allocator l ≡ refused e
        → (m.tables.strategy ≢ Static) → GrowthRefused m s l f t → Rounds l m s (Err f) m t
    again : {m n k : DynamicMemory A} {s t u : Store} {r : Result Chunk ResizableShmAllocationError} (e : ℕ) → α.answer m.allocator l ≡ refused e
        → (m.tables.strategy ≢ Static) → Grown m s l n t → Rounds l n t r k u → Rounds l m s r k u

  -- What an allocation does: it is denied for its layout, a full ledger or spent grants, or goes in rounds.
  pub data Allocates (l : Layout) : DynamicMemory A → Store → Result Chunk ResizableShmAllocationError → DynamicMemory A → Store → Type 0 where
    bad_layout : {m : DynamicMemory A} {s : Store} {f : ResizableShmAllocationError} → allocation_number f ≡ 1 → (Valid l.size l.align → ⊥) → Allocates l m s (Err f) m s
    ledger_full : {m : DynamicMemory A} {s : Store} {f : ResizableShmAllocationError} → allocation_number f ≡ 12 → Valid l.size l.align → length (chunks m) ≡ 1024
        → Allocates l m s (Err f) m s
    grants_spent : {m : DynamicMemory A} {s : Store} {f : ResizableShmAllocationError} → allocation_number f ≡ 13 → Valid l.size l.align → length (chunks m) < 1024
        → given m ≡ 2 ^ 64 - 1 → Allocates l m s (Err f) m s
    in_rounds : {m n : DynamicMemory A} {s t : Store} {r : Result Chunk ResizableShmAllocationError} (v : ValidLayout) → v.size ≡ l.size → v.align ≡ l.align
        → length (chunks m) < 1024 → given m < 2 ^ 64 - 1 → Rounds v m s r n t → Allocates l m s r n t

  -- The allocator was handed a block back; that it did not know the block is passed over.
  abbrev pub TakesBack : A → ℕ → ℕ → A → Type 0
  TakesBack a o size b = Accepted α a o size b ⊎ Denied α a o size b

  -- The allocator of the current segment was handed the chunk back; other allocators are gone.
  abbrev pub HandsBack : DynamicMemory A → Entry → DynamicMemory A → Type 0
  HandsBack m c n =
      ((id_of c.value ≡ current m) × TakesBack m.allocator (offset_of c.value) c.size n.allocator)
      ⊎ ((id_of c.value ≢ current m) × (n.allocator ≡ m.allocator))

  -- The chunk c was given back.
  pub record Returned (m : DynamicMemory A) (s : Store) (c : Entry) (n : DynamicMemory A) (t : Store) : Type 0 where
    pub tables : Releases m.tables s c n.tables t
    pub hands_back : HandsBack m c n

  -- What a return of a value under a grant does.
  abbrev pub Deallocates : ℕ → ℕ → DynamicMemory A → Store → Result (Unit {0}) NotHeld → DynamicMemory A → Store → Type 0
  Deallocates value grant m s (Err e) n t = (not_held_number e ≡ 11) × (find value grant (chunks m) ≡ None) × (n ≡ m) × (t ≡ s)
  Deallocates value grant m s (Ok done) n t = (c : Entry) × (find value grant (chunks m) ≡ Some c) × Returned m s c n t

module _ {A : Type 0} where
  -- A held chunk has room for `size` bytes from a place on, and its segment's place is p.
  pub record Reached (m : DynamicMemory A) (value grant from size : ℕ) (p : Place) : Type 0 where
    pub chunk : Entry
    pub found : find value grant (chunks m) ≡ Some chunk
    pub fits : from + size ≤ chunk.size
    pub there : place_at m (id_of value) ≡ Some p

  -- Why nothing was put into a chunk, by the number of the denial; the store's two come last.
  pub data WriteDenied (m : DynamicMemory A) (s : Store) (value grant from size : ℕ) : ℕ → Type 0 where
    not_held : find value grant (chunks m) ≡ None → WriteDenied m s value grant from size 11
    outside : (c : Entry) → find value grant (chunks m) ≡ Some c → c.size < from + size → WriteDenied m s value grant from size 4
    by_store : {e : ℕ} (p : Place) → Reached m value grant from size p → AccessDenied s p.handle (offset_of value + from) size e → WriteDenied m s value grant from size e

  -- What a write into a held chunk, from a place in it on, does.
  abbrev pub WritesChunk : ℕ → ℕ → ℕ → List ℕ → DynamicMemory A → Store → Result (Unit {0}) ChunkWriteError → Store → Type 0
  WritesChunk value grant from new m s (Err e) t = WriteDenied m s value grant from (length new) (write_number e) × Same s t
  WritesChunk value grant from new m s (Ok done) t = (p : Place) × Reached m value grant from (length new) p × Writes s p.handle (offset_of value + from) new (Ok done) t

  -- The bucket size of a mapped segment, or that it is not mapped.
  abbrev pub TellsBucketSize : DynamicMemory A → ℕ → Result ℕ NotMapped → Type 0
  TellsBucketSize m k (Ok size) = (p : Place) × (place_at m k ≡ Some p) × (size ≡ p.bucket_size)
  TellsBucketSize m k (Err e) = (not_mapped_number e ≡ 14) × (place_at m k ≡ None)

  -- A memory is used up: every segment is withdrawn, the management segment last.
  abbrev pub Ends : DynamicMemory A → Store → Store → Type 0
  Ends m s t = WithdrawsAll (handles m.tables.table.places ++ (m.tables.management ∷ [])) s t
