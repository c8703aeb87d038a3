-- An open viewer registers a value, and a closed one none.
use Rattle.std.proofs.Common.{refl}
use Rattle.resizable_shared_memory.specs.Viewer.RegisterDenied.{viewer_closed}
use Rattle.shared_memory.proofs.Sounds.{same}
use Rattle.resizable_shared_memory.proofs.Viewing.{opened_as}
use Rattle.resizable_shared_memory.proofs.view.DynamicView.register.Goals as goal

pub returns-in-Some : goal.returns-in-Some
returns-in-Some g c = rw (opened_as c.args.self.now c.in-Some.is) c.register.ensures

pub returns-in-None : goal.returns-in-None
returns-in-None g c = (viewer_closed c.in-None.is, refl, same _)
