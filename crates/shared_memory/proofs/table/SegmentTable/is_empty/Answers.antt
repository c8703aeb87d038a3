use Rattle.std.proofs.Common.{ap, ◌∙◌}
use Rattle.std.specs.Option.{is_none}
use Rattle.std.specs.List.{list_all}
use Rattle.shared_memory.proofs.Tabled.{vacant_decides}
use Rattle.shared_memory.proofs.table.SegmentTable.is_empty.Goals as goal

pub returns : goal.returns
returns c = vacant_decides c.args.self.now c.all_vacant.result (c.all_vacant.ensures ∙ ap (list_all is_none) c.deref.ensures.value)
