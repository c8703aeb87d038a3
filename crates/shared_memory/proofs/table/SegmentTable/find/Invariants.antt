use Rattle.std.proofs.Common.{◌≡◌, ℕ, ◌<◌, Some}
use Rattle.shared_memory.specs.Slots.{slot_at, name_of}
use Rattle.shared_memory.specs.Tables.{slots_of}
use Rattle.shared_memory.specs.declared.table.Slot.{Slot}
use Rattle.shared_memory.proofs.table.SegmentTable.find.Given as goal

abbrev pub invariant-loop-handle : goal.invariant-loop-handle
invariant-loop-handle l = (k : ℕ) (x : Slot) → k < l.handle → slot_at (slots_of l.self) k ≡ Some x → name_of x ≡ Some l.name → ⊥
