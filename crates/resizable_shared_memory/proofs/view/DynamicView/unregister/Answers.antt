-- An open viewer undoes a registration, and a closed one none.
use Rattle.std.proofs.Common.{refl}
use Rattle.resizable_shared_memory.specs.Viewer.UnregisterDenied.{viewer_closed}
use Rattle.resizable_shared_memory.proofs.Viewing.{opened_as}
use Rattle.resizable_shared_memory.proofs.view.DynamicView.unregister.Goals as goal

pub returns-in-Some : goal.returns-in-Some
returns-in-Some g c = rw (opened_as c.args.self.now c.in-Some.is) c.unregister.ensures

pub returns-in-None : goal.returns-in-None
returns-in-None g c = (viewer_closed c.in-None.is, refl, refl)
