-- How a segment is made for an allocator that is to be set up from a hint.
use Rattle.std.specs.Prelude.{◌≡◌, ℕ, ◌<◌, ◌≤◌, true, false, List, Ok, Err, Result}
use Rattle.shared_memory.specs.declared.opened.Opened.{Opened}
use Rattle.shared_memory.specs.declared.fault.SharedMemoryCreateError.{SharedMemoryCreateError}
use Rattle.shared_memory.specs.Meaning.{Store, room, Same, Named, Made, create_number}
use Rattle.shm_allocator.specs.declared.SharedMemorySetupHint.{SharedMemorySetupHint}
use Rattle.shm_allocator.specs.Meaning.{Meaning}

module _ {A C : Type 0} (α : Meaning A C) where
  -- Why no segment of the name n was made from the hint h, by the number of the denial.
  pub data SegmentDenied (s : Store) (n : List ℕ) (h : SharedMemorySetupHint C) : ℕ → Type 0 where
    size_zero : h.payload_size ≡ 0 → SegmentDenied s n h 25
    name_stands : 1 ≤ h.payload_size → Named s n → SegmentDenied s n h 24
    too_large : 4294967295 < h.payload_size → (Named s n → ⊥) → SegmentDenied s n h 26
    impossible : 1 ≤ h.payload_size → (Named s n → ⊥) → α.possible h.config h.payload_size ≡ false → SegmentDenied s n h 26
    no_room : 1 ≤ h.payload_size → (Named s n → ⊥) → room s h.payload_size ≡ false → SegmentDenied s n h 26

  -- What came of the wish for a segment of the name n from the hint h.
  abbrev pub MakesSegment : Store → List ℕ → SharedMemorySetupHint C → Result Opened SharedMemoryCreateError → Store → Type 0
  MakesSegment s n h (Err e) t = SegmentDenied s n h (create_number e) × Same s t
  MakesSegment s n h (Ok o) t = (h.payload_size ≤ 4294967295) × (α.possible h.config h.payload_size ≡ true) × Made s n h.payload_size α.id o t
