-- Segments that are made or denied.
use Rattle.std.proofs.Common.{◌≡◌, ℕ, ◌≤◌, true, List, Ok, Err, Result, subst, subst₂, arith}
use Rattle.shared_memory.specs.declared.opened.Opened.{Opened}
use Rattle.shared_memory.specs.declared.fault.SharedMemoryCreateError.{SharedMemoryCreateError}
use Rattle.shared_memory.specs.Meaning.{Store, GoodName, Named, Made, Makes, MakeDenied}
use Rattle.shm_allocator.specs.declared.SharedMemorySetupHint.{SharedMemorySetupHint}
use Rattle.shm_allocator.specs.Meaning.{Meaning}
use Rattle.resizable_shared_memory.specs.Segments.{SegmentDenied, MakesSegment}

-- What came of the wish for a segment, under other terms for its name and its hint.
pub made_as : {A C : Type 0} (α : Meaning A C) (s t : Store) (r : Result Opened SharedMemoryCreateError) {m n : List ℕ} {g h : SharedMemorySetupHint C} → m ≡ n → g ≡ h
    → MakesSegment α s m g r t → MakesSegment α s n h r t
made_as {A} {C} α s t r name hint = subst₂ (λ (n : List ℕ) (h : SharedMemorySetupHint C). MakesSegment α s n h r t) name hint

-- A store was asked for a segment of the name n from the hint h, where nothing but want of room can be in the way.
module _ {A C : Type 0} (α : Meaning A C) (s t : Store) (n : List ℕ) (h : SharedMemorySetupHint C)
    (good : GoodName n) (some : 1 ≤ h.payload_size) (new : Named s n → ⊥) where
  for_room : {k : ℕ} → MakeDenied s n h.payload_size k → SegmentDenied α s n h k
  for_room (MakeDenied.bad_name bad) = absurd (bad good)
  for_room (MakeDenied.size_zero g zero) = absurd (omega arith)
  for_room (MakeDenied.name_stands g z stands) = absurd (new stands)
  for_room (MakeDenied.no_room g z free full) = SegmentDenied.no_room some new full

  pub made_or_denied : (kind : ℕ) (r : Result Opened SharedMemoryCreateError) → kind ≡ α.id → h.payload_size ≤ 4294967295 → α.possible h.config h.payload_size ≡ true
      → Makes s n h.payload_size kind r t → MakesSegment α s n h r t
  made_or_denied kind (Ok o) is few possible made = (few, possible, subst (λ (k : ℕ). Made s n h.payload_size k o t) is made)
  made_or_denied kind (Err e) is few possible denied = (for_room denied.0, denied.1)
