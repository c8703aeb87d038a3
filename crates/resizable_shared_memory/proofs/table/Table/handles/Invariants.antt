-- The handles so far, and those of the places that are left.
use Rattle.std.proofs.Common.{◌≡◌, ◌≤◌, ◌++◌, length, drop}
use Rattle.resizable_shared_memory.specs.Places.{handles}
use Rattle.resizable_shared_memory.proofs.table.Table.handles.Given as goal

abbrev pub invariant-loop-place : goal.invariant-loop-place
invariant-loop-place l = (l.handles.items ++ handles (drop l.place-index l.self.places) ≡ handles l.self.places) × (length l.handles.items ≤ l.place-index)
