use Rattle.std.proofs.Common.{◌≡◌, ℕ, ◌+◌, ◌<◌, Some}
use Rattle.shared_memory.specs.Slots.{slot_at}
use Rattle.shared_memory.specs.Tables.{slots_of}
use Rattle.shared_memory.specs.declared.table.Slot.{Slot}
use Rattle.shared_memory.proofs.table.SegmentTable.blocker.Given as goal

abbrev pub invariant-loop-slot : goal.invariant-loop-slot
invariant-loop-slot l = (k : ℕ) (x : Slot) → k < l.slot-index → slot_at (slots_of l.self) k ≡ Some x → x.start < l.to → l.from < x.start + x.size → ⊥
