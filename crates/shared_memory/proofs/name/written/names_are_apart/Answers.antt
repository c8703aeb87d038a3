use Rattle.shared_memory.proofs.Naming.{names_apart}
use Rattle.shared_memory.proofs.name.written.names_are_apart.Goals as goal

pub returns : goal.returns
returns c = names_apart
