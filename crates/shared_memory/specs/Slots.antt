-- What the slots and the bytes of a table mean.
use Rattle.std.specs.Prelude.{ℕ, List, map, take, None, Option, slice_index_or}
use Rattle.std.specs.Option.{option_map as over}
use Rattle.shared_memory.specs.Extents.{Extent, Extents}
use Rattle.shared_memory.specs.Meaning.{Segment, part}
use Rattle.shared_memory.specs.declared.table.Slot.{Slot}
use Rattle.shared_memory.specs.declared.table.stored_name.StoredName.{StoredName}

-- The bytes of a name.
abbrev pub stored : StoredName → List ℕ
stored n = take n.len n.bytes

-- The bytes of a slot's name, until that is withdrawn.
abbrev pub name_of : Slot → Option (List ℕ)
name_of x = over stored x.name

-- The segment that a slot keeps, of whose memory `bytes` are.
abbrev pub segment : List ℕ → Slot → Segment
segment bytes x = record { name = name_of x; kind = x.allocator_id; bytes = part bytes x.start x.size; address = x.start; maps = x.maps }

-- Where that segment lies.
abbrev pub extent : Slot → Extent
extent x = record { start = x.start; size = x.size }

-- What stands under a handle, which is nothing past the last.
abbrev pub slot_at : List (Option Slot) → ℕ → Option Slot
slot_at slots h = slice_index_or slots h None

-- The segment under each handle.
abbrev pub segments_in : List (Option Slot) → List ℕ → ℕ → Option Segment
segments_in slots bytes h = over (segment bytes) (slot_at slots h)

-- Where the segments lie.
abbrev pub extents_in : List (Option Slot) → Extents
extents_in slots = map (over extent) slots
