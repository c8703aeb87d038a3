-- The memory is made from what the record says, and so is the one that was created.
use Rattle.std.proofs.Common.{◌∙◌}
use Rattle.resizable_shared_memory.specs.Creation.{Becomes}
use Rattle.resizable_shared_memory.specs.declared.memory.DynamicMemory.{DynamicMemory}
use Rattle.resizable_shared_memory.proofs.Creating.{joined}
use Rattle.resizable_shared_memory.proofs.Rounding.{memory_of}
use Rattle.resizable_shared_memory.proofs.memory.DynamicMemory.from_record.Goals as goal

pub returns : goal.returns
returns g c =
    let x = c.args.record in
    let m : DynamicMemory g.row.A.Denot = memory_of c.set_up-allocator.result c.new-tables.result in
    let made : Becomes g.A.ShmAllocator.means x m = record {
      fresh = c.set_up-allocator.ensures;
      place = c.of-first.result;
      numbers = let n = c.of-first.ensures in (n.0, n.1, n.2 ∙ c.bucket.ensures, n.3);
      tables = c.new-tables.ensures;
    } in
    record { becomes = made; completes = joined g.A.ShmAllocator.means x m made }
