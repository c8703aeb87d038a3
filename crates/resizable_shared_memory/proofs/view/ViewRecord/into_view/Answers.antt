-- The viewer that is made is open.
use Rattle.std.proofs.Common.{refl}
use Rattle.resizable_shared_memory.proofs.view.ViewRecord.into_view.Goals as goal

pub returns : goal.returns
returns c = record { view = _; is_open = refl; from = refl; none = c.empty.ensures; current = refl }
