use Rattle.std.proofs.Common.{refl, arith}
use Rattle.shared_memory.proofs.Tabled.{stored_bytes, stored_facts}
use Rattle.shared_memory.proofs.table.SegmentTable.overwrite.Goals as goal

pub invariant_of-self : goal.invariant_of-self
invariant_of-self c = stored_facts c.args.self.now c.deref_mut.result.now c.copy_from_slice.new.self c.args.bytes.now c.args.at _ c.deref_mut.ensures.value c.copy_from_slice.ensures.after (omega arith) (omega (arith, c.requires))

pub returns : goal.returns
returns c = record { slots = refl; bytes = stored_bytes c.args.self.now c.deref_mut.result.now c.copy_from_slice.new.self c.args.bytes.now c.args.at _ c.deref_mut.ensures.value c.copy_from_slice.ensures.after (omega arith) (omega (arith, c.requires)) }
