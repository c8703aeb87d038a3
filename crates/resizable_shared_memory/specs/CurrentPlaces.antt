-- The place of a viewer's current segment.
use Rattle.std.specs.Prelude.{Bool, true, is_some, Some, None, Option}
use Rattle.pointer_offset.specs.declared.segment_id.SegmentId.{SegmentId}
use Rattle.resizable_shared_memory.specs.Places.{place_of}
use Rattle.resizable_shared_memory.specs.declared.table.Table.{Table}

-- Whether the current segment, where there is one, is mapped.
abbrev pub current_mapped : Table → Option SegmentId → Bool
current_mapped t None = true
current_mapped t (Some i) = is_some (place_of t i.0)
