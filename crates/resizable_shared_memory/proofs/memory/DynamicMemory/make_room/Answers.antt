-- Under `Static` the refusal is handed up whole; otherwise a growth decides.
use Rattle.std.proofs.Common.{Err, refl, ap, inl, inr}
use Rattle.resizable_shared_memory.proofs.memory.DynamicMemory.make_room.Goals as goal

pub returns-in-Static : goal.returns-in-Static
returns-in-Static g c = inl (c.in-Static.is, ap Err c.from.ensures, refl, refl)

pub returns-in_default : goal.returns-in_default
returns-in_default g c = inr (c.in_default.not-Static, c.grow.ensures)
