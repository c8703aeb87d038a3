-- What a table of segments means, and what its methods do.
use Rattle.std.specs.Prelude.{◌≡◌, ℕ, ◌+◌, ◌<◌, ◌≤◌, Bool, true, false, List, length, Some, None, Ok, Err, vec_items, Option, Result, MatchOption, ◌≢◌, slice_set}
use Rattle.shared_memory.specs.declared.fault.AccessError.{AccessError}
use Rattle.shared_memory.specs.declared.fault.AccessError.TheVariants.{BadHandle, OutsidePayload}
use Rattle.shared_memory.specs.declared.fault.BadHandle.{BadHandle as UnknownHandle}
use Rattle.shared_memory.specs.declared.table.SegmentTable.{SegmentTable}
use Rattle.shared_memory.specs.declared.table.Slot.{Slot}
use Rattle.shared_memory.specs.Extents.{Extents, Rule, ruled}
use Rattle.shared_memory.specs.Meaning.{Segment, Store, patched}
use Rattle.shared_memory.specs.Slots.{name_of, segment, extent, slot_at, segments_in, extents_in}

-- What stands under each handle.
abbrev pub slots_of : SegmentTable → List (Option Slot)
slots_of t = vec_items t.slots

-- The memory.
abbrev pub bytes_of : SegmentTable → List ℕ
bytes_of t = vec_items t.bytes

-- How large the memory is.
abbrev pub memory : SegmentTable → ℕ
memory t = length (bytes_of t)

-- The segment that a slot of the table keeps.
abbrev pub segment_of : SegmentTable → Slot → Segment
segment_of t x = segment (bytes_of t) x

-- The segment under each handle.
abbrev pub segments : SegmentTable → ℕ → Option Segment
segments t = segments_in (slots_of t) (bytes_of t)

-- Where the segments lie.
abbrev pub extents : SegmentTable → Extents
extents t = extents_in (slots_of t)

-- What the table means in a store that has a rule of placing.
abbrev pub under : Rule → SegmentTable → Store
under rule t = ruled rule (segments t) (extents t)

-- Only what stands under h was put.
pub record Puts (s : SegmentTable) (h : ℕ) (o : Option Slot) (t : SegmentTable) : Type 0 where
  pub slots : slots_of t ≡ slice_set (slots_of s) h o
  pub bytes : bytes_of t ≡ bytes_of s

-- Only the bytes from a place on were written over.
pub record Patches (s : SegmentTable) (from : ℕ) (new : List ℕ) (t : SegmentTable) : Type 0 where
  pub slots : slots_of t ≡ slots_of s
  pub bytes : bytes_of t ≡ patched (bytes_of s) from new

-- The segments of t lie as es says, in a memory as large as that of s.
pub record Relaid (s : SegmentTable) (es : Extents) (t : SegmentTable) : Type 0 where
  pub extents : extents t ≡ es
  pub memory : memory t ≡ memory s

-- Where the segments lie once a name or a map was to be taken: as before, but for one that ceased.
abbrev pub still_laid : Extents → ℕ → Result Bool UnknownHandle → Extents
still_laid es h (Err e) = es
still_laid es h (Ok true) = es
still_laid es h (Ok false) = slice_set es h None

-- A slot stands under h, and y lies where it does.
abbrev pub Follows : SegmentTable → ℕ → Slot → Type 0
Follows s h y = (x : Slot) × (slot_at (slots_of s) h ≡ Some x) × (extent y ≡ extent x)

-- The handle and the slot of a name, or nothing where no slot has it.
abbrev pub Finds : SegmentTable → List ℕ → Option (ℕ × Slot) → Type 0
Finds s n r = MatchOption r ((k : ℕ) (x : Slot) → slot_at (slots_of s) k ≡ Some x → name_of x ≢ Some n) (λ f. (slot_at (slots_of s) f.0 ≡ Some f.1) × (name_of f.1 ≡ Some n))

-- Where in the memory `len` bytes of the slot under h begin, counted from its byte `from` on; nothing stands there, or not
-- all of them lie in its payload.
abbrev pub Locates : SegmentTable → ℕ → ℕ → ℕ → Result ℕ AccessError → Type 0
Locates s h from len (Ok at) = (x : Slot) × (slot_at (slots_of s) h ≡ Some x) × (from + len ≤ x.size) × (at ≡ x.start + from)
Locates s h from len (Err BadHandle) = slot_at (slots_of s) h ≡ None
Locates s h from len (Err OutsidePayload) = (x : Slot) × (slot_at (slots_of s) h ≡ Some x) × (x.size < from + len)
