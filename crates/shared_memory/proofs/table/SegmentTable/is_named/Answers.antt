use Rattle.shared_memory.proofs.Tabled.{found_decides}
use Rattle.shared_memory.proofs.table.SegmentTable.is_named.Goals as goal

pub returns : goal.returns
returns c = found_decides c.args.self.now c.args.name.now c.find.result c.is_some.result c.find.ensures c.is_some.ensures
