use Rattle.std.proofs.Common.{◌∙◌}
use Rattle.resizable_shared_memory.proofs.Counting.{active_is}
use Rattle.resizable_shared_memory.proofs.table.Table.number_mapped.Goals as goal

pub returns : goal.returns
returns c = c.number_of_some.ensures ∙ active_is c.args.self.now.places
