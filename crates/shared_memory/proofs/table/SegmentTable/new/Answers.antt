use Rattle.std.proofs.Common.{ap, ◌∙◌, arith}
use Rattle.shared_memory.specs.Slots.{extents_in}
use Rattle.shared_memory.proofs.Slotted.{extents_free}
use Rattle.shared_memory.proofs.Tabled.{free_facts}
use Rattle.shared_memory.proofs.table.SegmentTable.new.Goals as goal

pub invariant_of-result : goal.invariant_of-result
invariant_of-result c = free_facts c.args.handles _ _ c.in_ok-slots.ensures c.requires.0 (omega (arith, c.requires.1, c.in_ok-bytes.ensures))

pub returns : goal.returns
returns c = (ap extents_in c.in_ok-slots.ensures ∙ extents_free c.args.handles, c.in_ok-bytes.ensures)
